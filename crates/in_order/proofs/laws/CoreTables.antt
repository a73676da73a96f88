-- What a quorum acknowledged stays in every later NEW_STATE, table and vote (docs/PROOF.md: C1n, I3n, I2n, I2b, I2v, PAR).
-- I2n is by strong induction on the ballot of the NEW_STATE, for all jobs and vectors at once.
use Prim.Native.Nat.{ℕ, ◌≤◌, ◌<◌}
use mathlib.Core.Bool.{true}
use mathlib.Core.List.{List}
use mathlib.Core.Logic.{◌≢◌}
use mathlib.Core.Path.{◌≡◌, refl, sym, ap, subst, ◌∙◌}
use native.Mathlib.Omega.{arith}
use Rattle.house.specs.Pairs.{ballot_lt}
use Rattle.house.proofs.laws.Orders.{ballot_order}
use Rattle.house.specs.declared.Stamp.{Stamp}
use Rattle.house.specs.declared.Ballot.{Ballot}
use Rattle.house.specs.declared.BoxNo.{BoxNo}
use Rattle.house.specs.declared.District.{District}
use Rattle.house.specs.declared.Row.{Row}
use Rattle.house.specs.Plan.{boxes_of, home_of, names}
use Rattle.house.proofs.laws.Says.{names_job}
use Rattle.house.specs.declared.Plan.{Plan}
use Rattle.records.specs.Rec.{Rec}
use Rattle.records.specs.declared.Ballotpaper.{Ballotpaper}
use Rattle.records.specs.declared.NewState.{NewState}
use Rattle.world.specs.World.{World}
use Rattle.in_order.proofs.laws.Compare.{Lower, Upto, Within, strict, equal, within, le_le, le_both, le_then_lt}
use Rattle.in_order.proofs.laws.Quorate.{Quorate, Both, meets}
use Rattle.in_order.proofs.laws.Notions.{the, row_in, Acc, Ack, News, Lam, stated, asked, Timed, Stay, Acked, Final, Voter, AVoter, Source, done, taken}
use Rattle.in_order.proofs.laws.Notions.{start, Merge}
use Rattle.in_order.proofs.laws.Inv.{Inv, Held}
use Rattle.in_order.proofs.laws.CoreBase.{lower_real, timed_up, news_real, by_ballot, lam_news, lam_one, voter_home, voter_lower, top_lower, top_home}
use Rattle.in_order.proofs.laws.CoreBase.{top_news, told}

-- what I2n says of one NEW_STATE
pub record StaysAt (P : Plan) (l : List Rec) (y : NewState) : Type 0 where
  pub says : (m : ℕ) (f : District → Ballot) (g : District) → names P m g ≡ true → Quorate P g (λ p. Ack P l p m f) → home_of P y.ballot.owner ≡ g
      → Lower (f g) y.ballot → Stay P l m f g y.clock.time y.table

-- what PAR says of a row of a NEW_STATE: its local stamp is one of the highest cballot of the votes
pub record Parent (P : Plan) (l : List Rec) (top : Ballot) (m : ℕ) (s : Stamp) : Type 0 where
  pub real : 1 ≤ top.number
  pub lam : Lam P l top m s

-- what I3n says of a commitment in a NEW_STATE of ballot b: a certificate that the district knew in a lower ballot
pub record Backed (P : Plan) (l : List Rec) (m : ℕ) (g : District) (b : Ballot) (loc glob : Stamp) : Type 0 where
  pub ballot : Ballot
  pub lower : Lower ballot b
  pub final : Final P l m g ballot loc glob

-- what the votes behind a NEW_STATE know of a job that a quorum acknowledged
record Carried (P : Plan) (l : List Rec) (m : ℕ) (f : District → Ballot) (g : District) (top : Ballot) (y : NewState) : Type 0 where
  stamp : Stamp
  acc : Acc l m (f g) stamp
  lam : Lam P l top m stamp
  phase : 2 ≤ (row_in y.table m).phase
  times : (d : District) → names P m d ≡ true → Timed l m (f d) y.clock.time

module _ {P : Plan} {w : World} (I : Inv P w) where
  -- C1n: the clock of a merged state is not below its local stamps
  pub merge_c1 : {y : NewState} → Merge P w.post y → (m : ℕ) → m < P.jobs → (row_in y.table m).phase ≢ 0 → (row_in y.table m).local.time ≤ y.clock.time
  merge_c1 {y} M m l d = go (M.rows m l)
    where
      of : {top : Ballot} {u : BoxNo} {z : Ballotpaper} → Voter P w.post y top u z → row_in y.table m ≡ row_in z.table m
          → (row_in y.table m).local.time ≤ y.clock.time
      of {z = z} v e =
          let c = (I.holds.of_vote v.voted).c1 m l (subst (λ (r : Row). r.phase ≢ 0) e d) in
          let q : (row_in y.table m).local.time ≡ (row_in z.table m).local.time = ap (λ (r : Row). r.local.time) e in
          omega (arith, v.clock)

      go : {top : Ballot} → Source P w.post y top m → (row_in y.table m).local.time ≤ y.clock.time
      go (done u z v p e) = of v e
      go (taken u z v t p e) = of v e
      go (start p) = absurd (d p)

  pub c1n : {y : NewState} → News w.post y → (m : ℕ) → m < P.jobs → (row_in y.table m).phase ≢ 0 → (row_in y.table m).local.time ≤ y.clock.time
  c1n n = merge_c1 (I.volatiles.n1 n)

  -- I3n: behind a commitment in a merged state stands a certificate of a lower ballot
  pub merge_i3 : {y : NewState} → Merge P w.post y → (m : ℕ) → m < P.jobs → (row_in y.table m).phase ≡ 3
      → Backed P w.post m (home_of P y.ballot.owner) y.ballot (row_in y.table m).local (row_in y.table m).global
  merge_i3 {y} M m l d = go (M.rows m l)
    where
      go : {top : Ballot} → Source P w.post y top m
          → Backed P w.post m (home_of P y.ballot.owner) y.ballot (row_in y.table m).local (row_in y.table m).global
      go (done u z v p e) =
          let F = subst (λ (r : Row). Final P w.post m (home_of P u) z.cballot r.local r.global) (sym e) ((I.holds.of_vote v.voted).i3 m l p) in
          record {
            ballot = z.cballot;
            lower = voter_lower I v;
            final = subst (λ (g : District). Final P w.post m g z.cballot (row_in y.table m).local (row_in y.table m).global) (voter_home I v) F;
          }
      go (taken u z v t p e) = let q : (row_in y.table m).phase ≡ (row_in z.table m).phase = ap (λ (r : Row). r.phase) e in absurd (omega arith)
      go (start p) = absurd (omega arith)

  -- PAR, where I2n holds of the NEW_STATE of the highest cballot
  parent_if : {y : NewState} (M : Merge P w.post y) → ((k : NewState) → News w.post k → k.ballot ≡ M.top → StaysAt P w.post k)
      → (m : ℕ) → m < P.jobs → (row_in y.table m).phase ≢ 0 → Lam P w.post M.top m (row_in y.table m).local
  parent_if {y} M ih m l d = go (M.rows m l)
    where
      -- of a voter that has the highest cballot
      high : {u : BoxNo} {z : Ballotpaper} → Voter P w.post y M.top u z → z.cballot ≡ M.top → row_in y.table m ≡ row_in z.table m
          → Lam P w.post M.top m (row_in y.table m).local
      high {z = z} v t e =
          let a = (I.holds.of_vote v.voted).l2 m l (subst (λ (r : Row). r.phase ≢ 0) e d) in
          subst (λ (r : Row). Lam P w.post M.top m r.local) (sym e) (subst (λ (b : Ballot). Lam P w.post b m (row_in z.table m).local) t a)

      -- of a voter of a lower cballot that has the job committed
      low : {u : BoxNo} {z : Ballotpaper} → Voter P w.post y M.top u z → Lower z.cballot M.top → (row_in z.table m).phase ≡ 3
          → row_in y.table m ≡ row_in z.table m
          → Lam P w.post M.top m (row_in y.table m).local
      low {u} {z} v t p e =
          let F = (I.holds.of_vote v.voted).i3 m l p in
          let c = le_then_lt ballot_order F.below t in
          let r : 1 ≤ M.top.number = lower_real (I.forms.acc F.local).real c in
          let N = top_news I M r in
          let h : home_of P N.state.ballot.owner ≡ home_of P u =
          ap (λ (b : Ballot). home_of P b.owner) N.ballot ∙ top_home I M r ∙ sym (voter_home I v) in
          let S = (ih N.state N.news N.ballot).says m F.vector (home_of P u) F.named (F.cert.each (home_of P u) F.named).quorum h
          (subst (λ (b : Ballot). Lower (F.vector (home_of P u)) b) (sym N.ballot) c) in
          stated N.state N.news N.ballot l (omega (arith, S.phase)) (I.locals.i1a S.local F.local ∙ ap (λ (r : Row). r.local) (sym e))

      either : {u : BoxNo} {z : Ballotpaper} → Voter P w.post y M.top u z → Within ballot_lt z.cballot M.top → (row_in z.table m).phase ≡ 3
          → row_in y.table m ≡ row_in z.table m → Lam P w.post M.top m (row_in y.table m).local
      either v (strict t) p e = low v t p e
      either v (equal t) p e = high v t e

      go : Source P w.post y M.top m → Lam P w.post M.top m (row_in y.table m).local
      go (done u z v p e) = either v (within ballot_order v.upto) p e
      go (taken u z v t p e) = high v t e
      go (start p) = absurd (d p)

  -- the induction step of I2n
  module _ (y : NewState) (n : News w.post y) (ih : (k : NewState) → News w.post k → Lower k.ballot y.ballot → StaysAt P w.post k)
      (m : ℕ) (f : District → Ballot) (g : District) (named : names P m g ≡ true) (quorum : Quorate P g (λ p. Ack P w.post p m f))
      (home : home_of P y.ballot.owner ≡ g) (lower : Lower (f g) y.ballot) where
    -- N1: the merge behind it
    M : Merge P w.post y
    M = I.volatiles.n1 n

    -- what names a district is a job
    job : m < P.jobs
    job = names_job P m g named

    -- a voter that acknowledged
    shared : Both P g (λ p. Ack P w.post p m f) (λ u. AVoter P w.post y M.top u)
    shared = meets quorum (subst (λ (d : District). Quorate P d (λ u. AVoter P w.post y M.top u)) home M.quorum)

    -- A1v: what it told
    tale : Acked P w.post m f g shared.right.paper.cballot shared.right.paper.clock.time shared.right.paper.table
    tale = told I shared.left shared.right.voter.voted shared.home (subst (λ (b : Ballot). Lower (f g) b) (sym shared.right.voter.ballot) lower)

    -- so the highest cballot is not below the acknowledged one
    top_upto : Upto (f g) M.top
    top_upto = le_le ballot_order tale.below shared.right.voter.upto

    -- a voter of the highest cballot has the job: it acknowledged itself, or its ballot's NEW_STATE has it (induction, J3v, J4v)
    carried : Within ballot_lt (f g) M.top → Carried P w.post m f g M.top y
    carried (equal e) =
        let v = shared.right.voter in
        let t : shared.right.paper.cballot ≡ M.top =
        le_both ballot_order v.upto (subst (λ (b : Ballot). Upto b shared.right.paper.cballot) e tale.below) in
        let S = tale.stay (e ∙ sym t) in
        record {
          stamp = (row_in shared.right.paper.table m).local;
          acc = S.local;
          lam = asked (subst (λ (b : Ballot). Acc w.post m b (row_in shared.right.paper.table m).local) e S.local);
          phase = v.keeps m job t S.phase;
          times = λ d k. timed_up (S.times d k) v.clock;
        }
    carried (strict s) =
        let a = (meets quorum quorum).left in
        let r : 1 ≤ M.top.number = lower_real ((I.forms.ack a).real g named) s in
        let N = top_news I M r in
        let lo = subst (λ (b : Ballot). Lower b y.ballot) (sym N.ballot) (top_lower I M) in
        let h : home_of P N.state.ballot.owner ≡ g = ap (λ (b : Ballot). home_of P b.owner) N.ballot ∙ top_home I M r ∙ home in
        let S = (ih N.state N.news lo).says m f g named quorum h (subst (λ (b : Ballot). Lower (f g) b) (sym N.ballot) s) in
        let H = I.holds.of_vote M.voter.voted in
        let c = H.j4 N.state N.news (N.ballot ∙ sym M.is_top) in
        record {
          stamp = (row_in N.state.table m).local;
          acc = S.local;
          lam = stated N.state N.news N.ballot job (omega (arith, S.phase)) refl;
          phase = M.voter.keeps m job M.is_top (H.j3 N.state N.news (N.ballot ∙ sym M.is_top) m job S.phase);
          times = λ d k. timed_up (S.times d k) (omega (arith, M.voter.clock));
        }

    -- so the merge keeps it, and with its local stamp (PAR)
    i2n_step : Stay P w.post m f g y.clock.time y.table
    i2n_step =
        let C = carried (within ballot_order top_upto) in
        let p = C.phase in
        let L = parent_if M (λ k h e. ih k h (subst (λ (b : Ballot). Lower b y.ballot) (sym e) (top_lower I M))) m job (omega arith) in
        record { phase = p; local = subst (λ (s : Stamp). Acc w.post m (f g) s) (lam_one I C.lam L) C.acc; times = C.times }

  -- I2n: by induction
  pub i2n_at : (y : NewState) → News w.post y → StaysAt P w.post y
  i2n_at y n = by_ballot I (StaysAt P w.post) (λ k h ih. record { says = λ m f g a q e l. i2n_step k h ih m f g a q e l }) y n

  -- I2n: what a quorum acknowledged stays in the NEW_STATE of every higher ballot, and its clock is not below the stamps
  pub i2n : {m : ℕ} {f : District → Ballot} {g : District} {y : NewState} → names P m g ≡ true → Quorate P g (λ p. Ack P w.post p m f)
      → News w.post y → home_of P y.ballot.owner ≡ g → Lower (f g) y.ballot → Stay P w.post m f g y.clock.time y.table
  i2n {m} {f} {g} {y} a q n e l = (i2n_at y n).says m f g a q e l

  -- PAR: a row of a NEW_STATE that is not at the start has the local stamp of the highest cballot of its votes
  pub par : {y : NewState} → News w.post y → (M : Merge P w.post y) → (m : ℕ) → m < P.jobs → (row_in y.table m).phase ≢ 0
      → Parent P w.post M.top m (row_in y.table m).local
  par n M m l d = let L = parent_if M (λ k h e. i2n_at k h) m l d in record { real = news_real I (lam_news I L); lam = L }

  -- I2b and I2v: the same of everything that holds a table of district g with cballot c
  pub i2_held : {m : ℕ} {f : District → Ballot} {g : District} {c : Ballot} {k : ℕ} {t : List Row} → Held P w.post g c k t → names P m g ≡ true
      → Quorate P g (λ p. Ack P w.post p m f) → (1 ≤ c.number → home_of P c.owner ≡ g) → Lower (f g) c → Stay P w.post m f g k t
  i2_held {m} {f} {g} {c} {k} {t} H a q e l =
      let r : 1 ≤ c.number = lower_real ((I.forms.ack (meets q q).left).real g a) l in
      let j = names_job P m g a in
      let N = H.b3 r in
      let S = i2n a q N.news (ap (λ (b : Ballot). home_of P b.owner) N.ballot ∙ e r) (subst (λ (b : Ballot). Lower (f g) b) (sym N.ballot) l) in
      let p = H.j3 N.state N.news N.ballot m j S.phase in
      let z = lam_one I (stated N.state N.news N.ballot j (omega (arith, S.phase)) refl) (H.l2 m j (omega arith)) in
      record {
        phase = p;
        local = subst (λ (s : Stamp). Acc w.post m (f g) s) z S.local;
        times = λ d u. timed_up (S.times d u) (H.j4 N.state N.news N.ballot);
      }

  -- I2b: of a box
  pub i2b : {m : ℕ} {f : District → Ballot} (p : BoxNo) → p.0 < boxes_of P → names P m (home_of P p) ≡ true → Quorate P (home_of P p) (λ q. Ack P w.post q m f)
      → Lower (f (home_of P p)) (the w p).core.cballot → Stay P w.post m f (home_of P p) (the w p).core.clock (the w p).core.table
  i2b p b a q l = i2_held (I.holds.of_box p b) a q (I.forms.box p b).chome l
