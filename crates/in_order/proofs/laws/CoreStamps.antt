-- One job has one stamp, two jobs have two (docs/PROOF.md, 'Inside one world': G1, J2, J4L, I4a, I4b).
-- Local stamps are compared inside one ballot, where I2n brings those of lower ballots.
use Prim.Native.Nat.{ℕ, ◌<◌}
use mathlib.Core.Bool.{true}
use mathlib.Core.List.{List}
use mathlib.Core.Logic.{◌≢◌}
use mathlib.Core.Path.{◌≡◌, refl, sym, ap, subst, ◌∙◌}
use native.Mathlib.Omega.{arith}
use native.Mathlib.Decide.{ℕ_discrete}
use Rattle.house.specs.Pairs.{ballot_lt}
use Rattle.house.proofs.laws.Orders.{ballot_order, stamp_order}
use Rattle.house.specs.declared.Stamp.{Stamp}
use Rattle.house.specs.declared.Ballot.{Ballot}
use Rattle.house.specs.declared.District.{District}
use Rattle.house.specs.Plan.{home_of, names}
use Rattle.house.proofs.laws.Says.{names_job}
use Rattle.house.specs.declared.Plan.{Plan}
use Rattle.records.specs.Rec.{Rec}
use Rattle.records.specs.declared.NewState.{NewState}
use Rattle.world.specs.World.{World}
use Rattle.in_order.proofs.laws.Compare.{Lower, Upto, Until, Within, strict, equal, within, Compared, under, level, over, compare, eq_le, lt_to_le}
use Rattle.in_order.proofs.laws.Compare.{le_both}
use Rattle.in_order.proofs.laws.Quorate.{Quorate, meets}
use Rattle.in_order.proofs.laws.Notions.{row_in, Acc, Ack, Del, News, NewsOf, Lam, stated, asked, Part, Cert}
use Rattle.in_order.proofs.laws.Inv.{Inv}
use Rattle.in_order.proofs.laws.CoreBase.{Known, old, recent, acc_news, del_news, lam_news, lam_one, known, by_ballot, top_lower, top_news}
use Rattle.in_order.proofs.laws.CoreTables.{c1n, i2n, par}

-- what J2 says of the ballot of one NEW_STATE
record Injective (P : Plan) (l : List Rec) (y : NewState) : Type 0 where
  says : (m k : ℕ) (s : Stamp) → Lam P l y.ballot m s → Lam P l y.ballot k s → m ≡ k

module _ {P : Plan} {w : World} (I : Inv P w) where
  -- a quorum's local stamp is the local stamp in every ballot not below: in the same one it was asked, in a higher one I2n
  pub lam_later : {m : ℕ} {f : District → Ballot} {d : District} {b : Ballot} {s : Stamp} → names P m d ≡ true → Quorate P d (λ p. Ack P w.post p m f)
      → Acc w.post m (f d) s → NewsOf w.post b → home_of P b.owner ≡ d → Upto (f d) b → Lam P w.post b m s
  lam_later {m} {f} {d} {b} {s} a q c n h u = go (within ballot_order u)
    where
      go : Within ballot_lt (f d) b → Lam P w.post b m s
      go (equal e) = asked (subst (λ (x : Ballot). Acc w.post m x s) e c)
      go (strict l) =
          let S = i2n I a q n.news (ap (λ (x : Ballot). home_of P x.owner) n.ballot ∙ h) (subst (λ (x : Ballot). Lower (f d) x) (sym n.ballot) l) in
          stated n.state n.news n.ballot (names_job P m d a) (omega (arith, S.phase)) (I.locals.i1a S.local c)

  -- G1: the local stamp of a DELIVER is the ballot's
  pub g1 : {m : ℕ} {b : Ballot} {s t : Stamp} → Del w.post m b s t → Lam P w.post b m s
  g1 {m} {b} d =
      let F = I.acks.i3d d in
      lam_later F.named (F.cert.each (home_of P b.owner) F.named).quorum F.local (del_news I d) refl F.below

  -- the induction step of J2
  j2_step : (y : NewState) → News w.post y → ((k : NewState) → News w.post k → Lower k.ballot y.ballot → Injective P w.post k)
      → (m k : ℕ) (s : Stamp) → Lam P w.post y.ballot m s → Lam P w.post y.ballot k s → m ≡ k
  j2_step y n ih m k s a c = go (ℕ_discrete m k) (known I n a) (known I n c)
    where
      -- one from the NEW_STATE, one new: the clock of the NEW_STATE parts them
      apart : {i j : ℕ} → i < P.jobs → (row_in y.table i).phase ≢ 0 → (row_in y.table i).local ≡ s → (row_in y.table j).phase ≡ 0
          → Acc w.post j y.ballot s → m ≡ k
      apart {i} l d q z r =
          let x = c1n I n i l d in
          let t : (row_in y.table i).local.time ≡ s.time = ap (λ (v : Stamp). v.time) q in
          let v = I.locals.n2 r n refl z in
          absurd (omega arith)

      go : Dec (m ≡ k) → Known P w.post y m s → Known P w.post y k s → m ≡ k
      go (yes e) _ _ = e
      go (no e) (old l d q) (old l' d' q') =
          let M = I.volatiles.n1 n in
          let A = par I n M m l d in
          let B = par I n M k l' d' in
          let N = top_news I M A.real in
          let up = subst (λ (x : Ballot). Lower x y.ballot) (sym N.ballot) (top_lower I M) in
          (ih N.state N.news up).says m k s
          (subst (λ (x : Ballot). Lam P w.post x m s) (sym N.ballot) (subst (λ (v : Stamp). Lam P w.post M.top m v) q A.lam))
          (subst (λ (x : Ballot). Lam P w.post x k s) (sym N.ballot) (subst (λ (v : Stamp). Lam P w.post M.top k v) q' B.lam))
      go (no e) (old l d q) (recent z r) = apart l d q z r
      go (no e) (recent z r) (old l d q) = apart l d q z r
      go (no e) (recent z r) (recent z' r') = absurd (I.locals.n3 r r' n refl z z' e refl)

  -- J2: two jobs have two local stamps in one ballot
  pub j2 : {b : Ballot} {m k : ℕ} {s : Stamp} → Lam P w.post b m s → Lam P w.post b k s → m ≡ k
  j2 {b} {m} {k} {s} a c =
      let N = lam_news I a in
      (by_ballot I (Injective P w.post) (λ y n ih. record { says = j2_step y n ih }) N.state N.news).says m k s
      (subst (λ (x : Ballot). Lam P w.post x m s) (sym N.ballot) a) (subst (λ (x : Ballot). Lam P w.post x k s) (sym N.ballot) c)

  -- ---- certificates

  -- the entry of a vector for a district is of that district
  pub entry_home : {m : ℕ} {f : District → Ballot} {d : District} {t : Stamp} → names P m d ≡ true → Part P w.post m f d t → home_of P (f d).owner ≡ d
  entry_home {d = d} a p = (I.forms.ack (meets p.quorum p.quorum).left).homes d a

  -- I4a, for each district: Lts(d) of two certificates of a job are equal
  pub lts_one : {m : ℕ} {f f' : District → Ballot} {d : District} {t t' : Stamp} → names P m d ≡ true
      → (p : Part P w.post m f d t) (q : Part P w.post m f' d t') → p.stamp ≡ q.stamp
  lts_one {m} {f} {f'} {d} a p q = go (compare ballot_order (f d) (f' d))
    where
      go : Compared ballot_lt (f d) (f' d) → p.stamp ≡ q.stamp
      go (under l) = lam_one I (lam_later a p.quorum p.acc (acc_news I q.acc) (entry_home a q) (lt_to_le ballot_order l)) (asked q.acc)
      go (level e) = lam_one I (lam_later a p.quorum p.acc (acc_news I q.acc) (entry_home a q) (eq_le ballot_order e)) (asked q.acc)
      go (over l) = lam_one I (asked p.acc) (lam_later a q.quorum q.acc (acc_news I p.acc) (entry_home a p) (lt_to_le ballot_order l))

  -- the stamp of one certificate is not above that of another of the job
  cert_upto : {m : ℕ} {f f' : District → Ballot} {t t' : Stamp} → Cert P w.post m f t → Cert P w.post m f' t' → Until t t'
  cert_upto {t' = t'} c e =
      let p = c.each c.top c.named in
      let q = e.each c.top c.named in
      subst (λ (v : Stamp). Until v t') (sym (I.locals.i1a c.attained p.acc ∙ lts_one c.named p q)) q.until

  -- I4a: two certificates of a job have one stamp
  pub i4a : {m : ℕ} {f f' : District → Ballot} {t t' : Stamp} → Cert P w.post m f t → Cert P w.post m f' t' → t ≡ t'
  i4a c e = le_both stamp_order (cert_upto c e) (cert_upto e c)

  -- the stamp of a certificate has the district that attains it
  pub cert_district : {m : ℕ} {f : District → Ballot} {t : Stamp} (c : Cert P w.post m f t) → t.district ≡ c.top
  cert_district c = (I.forms.acc c.attained).district ∙ entry_home c.named (c.each c.top c.named)

  -- I4b: certificates of two jobs have two stamps
  pub i4b : {m m' : ℕ} {f f' : District → Ballot} {t t' : Stamp} → Cert P w.post m f t → Cert P w.post m' f' t' → m ≢ m' → t ≢ t'
  i4b {m} {m'} {f} {f'} {t} {t'} c e n z = n (go (compare ballot_order (f c.top) (f' c.top)))
    where
      -- both attain it in one district
      same : e.top ≡ c.top
      same = sym (cert_district e) ∙ ap (λ (v : Stamp). v.district) (sym z) ∙ cert_district c

      named : names P m' c.top ≡ true
      named = subst (λ (d : District). names P m' d ≡ true) same e.named

      other : Acc w.post m' (f' c.top) t
      other = subst (λ (v : Stamp). Acc w.post m' (f' c.top) v) (sym z) (subst (λ (d : District). Acc w.post m' (f' d) t') same e.attained)

      p : Part P w.post m f c.top t
      p = c.each c.top c.named

      q : Part P w.post m' f' c.top t'
      q = e.each c.top named

      left : Upto (f c.top) (f' c.top) → m ≡ m'
      left u = j2 (lam_later c.named p.quorum c.attained (acc_news I other) (entry_home named q) u) (asked other)

      go : Compared ballot_lt (f c.top) (f' c.top) → m ≡ m'
      go (under l) = left (lt_to_le ballot_order l)
      go (level x) = left (eq_le ballot_order x)
      go (over l) = j2 (asked c.attained) (lam_later named q.quorum other (acc_news I c.attained) (entry_home c.named p) (lt_to_le ballot_order l))
