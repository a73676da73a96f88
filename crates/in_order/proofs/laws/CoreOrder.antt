-- What was handed out before, and what a list says of tables (docs/PROOF.md: I5b, D3s, R5, R5w), and the record of STATE lemmas.
-- I5b is by strong induction on the higher ballot.
use Prim.Native.Nat.{ℕ, ◌≤◌, ◌<◌}
use mathlib.Core.Bool.{true}
use mathlib.Core.List.{List}
use mathlib.Core.Logic.{◌≢◌}
use mathlib.Core.Path.{◌≡◌, refl, sym, ap, subst, ◌∙◌}
use native.Mathlib.Omega.{arith}
use Rattle.laws.specs.Place.{In}
use Rattle.house.specs.Pairs.{ballot_lt}
use Rattle.house.proofs.laws.Orders.{ballot_order, stamp_order}
use Rattle.house.specs.declared.Stamp.{Stamp}
use Rattle.house.specs.declared.Ballot.{Ballot}
use Rattle.house.specs.declared.BoxNo.{BoxNo}
use Rattle.house.specs.declared.District.{District}
use Rattle.house.specs.Plan.{boxes_of, home_of, names}
use Rattle.house.specs.declared.Plan.{Plan}
use Rattle.records.specs.Rec.{Rec, new_state, carried}
use Rattle.records.specs.declared.NewState.{NewState}
use Rattle.records.specs.Rules.{valid}
use Rattle.records.proofs.laws.Obeys.{valid_rules}
use Rattle.boxes.specs.Box.{is_recovering, listed_at}
use Rattle.world.specs.World.{World}
use Rattle.in_order.proofs.laws.Compare.{Lower, Upto, Sooner, Within, strict, equal, within, Compared, under, level, over, compare, eq_le, lt_lt}
use Rattle.in_order.proofs.laws.Compare.{lt_to_le, lt_self, le_le, le_ne, le_then_lt}
use Rattle.in_order.proofs.laws.Quorate.{Quorate, meets}
use Rattle.in_order.proofs.laws.Notions.{the, row_in, Del, DelAt, News, NewsOf, Joined, Lam, asked, Part, Cert, Final, Merge}
use Rattle.in_order.proofs.laws.Inv.{Inv, State, Handed, later, earlier, Before, Listing}
use Rattle.in_order.proofs.laws.Facts.{state_says}
use Rattle.in_order.proofs.laws.Laws.{sooner_time}
use Rattle.in_order.proofs.laws.CoreBase.{Known, old, recent, acc_news, del_news, known, by_ballot, top_lower, top_home, top_news}
use Rattle.in_order.proofs.laws.CoreTables.{Parent, i2n, i2b, par}
use Rattle.in_order.proofs.laws.CoreStamps.{lam_later, g1, entry_home, i4a, i4b}

-- a DELIVER of m in ballot b with stamp s stands before place i
pub record Earlier (l : List Rec) (i m : ℕ) (b : Ballot) (s : Stamp) : Type 0 where
  pub place : ℕ
  pub before : place < i
  pub local : Stamp
  pub del : DelAt l place m b local s

-- what I5b says of one NEW_STATE of a higher ballot: its local stamps below s are those of ballot b
record Recalls (P : Plan) (l : List Rec) (b : Ballot) (s : Stamp) (y : NewState) : Type 0 where
  says : home_of P y.ballot.owner ≡ home_of P b.owner → Lower b y.ballot → (m : ℕ) (t : Stamp) → Lam P l y.ballot m t → Sooner t s → Lam P l b m t

-- a local stamp of job k in ballot b that is below t
record Under (P : Plan) (l : List Rec) (b : Ballot) (k : ℕ) (t : Stamp) : Type 0 where
  stamp : Stamp
  below : Sooner stamp t
  lam : Lam P l b k stamp

-- a DELIVER at a place is one in the post
abbrev pub del_of : {l : List Rec} {i m : ℕ} {b : Ballot} {s t : Stamp} → DelAt l i m b s t → Del l m b s t
del_of {i = i} d = record { from = d.from; to = d.to; there = record { place = i; there = d.there } }

module _ {P : Plan} {w : World} (I : Inv P w) where
  -- ---- I5b
  module _ {m : ℕ} {b : Ballot} {s t : Stamp} (d : Del w.post m b s t) where
    -- I3d: the certificate behind it
    F : Final P w.post m (home_of P b.owner) b s t
    F = I.acks.i3d d

    -- the clock of a higher ballot's NEW_STATE is not below the DELIVER's stamp
    clock_upto : {y : NewState} → News w.post y → home_of P y.ballot.owner ≡ home_of P b.owner → Lower b y.ballot → t.time ≤ y.clock.time
    clock_upto n h l =
        let S = i2n I F.named (F.cert.each (home_of P b.owner) F.named).quorum n h (le_then_lt ballot_order F.below l) in
        let T = S.times F.cert.top F.cert.named in
        let e : t.time ≡ T.stamp.time = ap (λ (v : Stamp). v.time) (I.locals.i1a F.cert.attained T.acc) in
        omega (arith, T.upto)

    -- the highest cballot behind it is not below b: a voter joined b
    top_from : {y : NewState} (M : Merge P w.post y) → home_of P y.ballot.owner ≡ home_of P b.owner → Lower b y.ballot → Upto b M.top
    top_from {y} M h l =
        let B = meets (subst (λ (g : District). Quorate P g (λ q. Joined w.post q b)) (sym h) (I.ballots.b6d d)) M.quorum in
        let v = B.right.voter in
        le_le ballot_order (I.ballots.b5 B.left v.voted (subst (λ (x : Ballot). Lower b x) (sym v.ballot) l)) v.upto

    -- the induction step of I5b
    i5b_step : (y : NewState) → News w.post y → ((k : NewState) → News w.post k → Lower k.ballot y.ballot → Recalls P w.post b t k)
        → home_of P y.ballot.owner ≡ home_of P b.owner
        → Lower b y.ballot
        → (k : ℕ) (r : Stamp)
        → Lam P w.post y.ballot k r
        → Sooner r t
        → Lam P w.post b k r
    i5b_step y n ih h l k r a c = go (known I n a)
      where
        M : Merge P w.post y
        M = I.volatiles.n1 n

        down : Parent P w.post M.top k r → Within ballot_lt b M.top → Lam P w.post b k r
        down p (equal e) = subst (λ (x : Ballot). Lam P w.post x k r) (sym e) p.lam
        down p (strict u) =
            let N = top_news I M p.real in
            (ih N.state N.news (subst (λ (x : Ballot). Lower x y.ballot) (sym N.ballot) (top_lower I M))).says
            (ap (λ (x : Ballot). home_of P x.owner) N.ballot ∙ top_home I M p.real ∙ h) (subst (λ (x : Ballot). Lower b x) (sym N.ballot) u)
            k r (subst (λ (x : Ballot). Lam P w.post x k r) (sym N.ballot) p.lam) c

        go : Known P w.post y k r → Lam P w.post b k r
        go (old j z q) = down (subst (λ (v : Stamp). Parent P w.post M.top k v) q (par I n M k j z)) (within ballot_order (top_from M h l))
        go (recent z x) =
            let u = I.locals.n2 x n refl z in
            let v = sooner_time c in
            let o = clock_upto n h l in
            absurd (omega arith)

    -- I5b: a local stamp of a higher ballot that is below the DELIVER's stamp is that of its ballot
    pub i5b : {b' : Ballot} {k : ℕ} {r : Stamp} → NewsOf w.post b' → home_of P b'.owner ≡ home_of P b.owner → Lower b b' → Lam P w.post b' k r
        → Sooner r t → Lam P w.post b k r
    i5b {k = k} {r = r} n h l a c =
        (by_ballot I (Recalls P w.post b t) (λ y o ih. record { says = i5b_step y o ih }) n.state n.news).says
        (ap (λ (x : Ballot). home_of P x.owner) n.ballot ∙ h) (subst (λ (x : Ballot). Lower b x) (sym n.ballot) l)
        k r (subst (λ (x : Ballot). Lam P w.post x k r) (sym n.ballot) a) c

    -- the local stamp of a certificate whose stamp is below the DELIVER's is that of the DELIVER's ballot
    lam_here : {k : ℕ} {f : District → Ballot} {r : Stamp} → names P k (home_of P b.owner) ≡ true → Cert P w.post k f r → Sooner r t
        → Under P w.post b k t
    lam_here {k} {f} {r} a c l = record { stamp = p.stamp; below = under_t; lam = go (compare ballot_order (f (home_of P b.owner)) b) }
      where
        p : Part P w.post k f (home_of P b.owner) r
        p = c.each (home_of P b.owner) a

        under_t : Sooner p.stamp t
        under_t = le_then_lt stamp_order p.until l

        go : Compared ballot_lt (f (home_of P b.owner)) b → Lam P w.post b k p.stamp
        go (under x) = lam_later I a p.quorum p.acc (del_news I d) refl (lt_to_le ballot_order x)
        go (level e) = lam_later I a p.quorum p.acc (del_news I d) refl (eq_le ballot_order e)
        go (over x) = i5b (acc_news I p.acc) (entry_home I a p) x (asked p.acc) under_t

  -- a certificate whose stamp is below a DELIVER's is another job's
  pub other : {m k : ℕ} {b : Ballot} {s t r : Stamp} {f : District → Ballot} → Del w.post m b s t → Cert P w.post k f r → Sooner r t → k ≢ m
  other {r = r} {f = f} d c l e = lt_self stamp_order l (i4a I (subst (λ (j : ℕ). Cert P w.post j f r) e c) (I.acks.i3d d).cert)

  -- D3s: a job of the district with a smaller stamp was handed out before, by the same leader in the same ballot
  pub d3s : {i m k : ℕ} {b : Ballot} {s t r : Stamp} {f : District → Ballot} → DelAt w.post i m b s t → names P k (home_of P b.owner) ≡ true
      → Cert P w.post k f r → Sooner r t → Earlier w.post i k b r
  d3s {i} {m} {k} {b} {s} {t} {r} {f} d a c l =
      let u = lam_here (del_of d) a c l in
      go (I.hands.i5a d (other (del_of d) c l) u.lam u.below)
    where
      at : {v : Stamp} → v ≡ r → Handed w.post i k b t v → Earlier w.post i k b r
      at e (later x) = lt_self stamp_order (lt_lt stamp_order l x) (sym e)
      at e (earlier j y o x) = record { place = j; before = y; local = o; del = subst (λ (z : Stamp). DelAt w.post j k b o z) e x }

      go : Before P w.post i k b t → Earlier w.post i k b r
      go z = at (i4a I z.cert c) z.handed

  -- ---- lists and tables

  -- a job handed out in a ballot below that of a NEW_STATE of the district is accepted in it
  pub handed_kept : {m : ℕ} {b : Ballot} {s t : Stamp} {y : NewState} → Del w.post m b s t → News w.post y
      → home_of P y.ballot.owner ≡ home_of P b.owner
      → Lower b y.ballot → 2 ≤ (row_in y.table m).phase
  handed_kept {b = b} d n h l =
      let F = I.acks.i3d d in
      (i2n I F.named (F.cert.each (home_of P b.owner) F.named).quorum n h (le_then_lt ballot_order F.below l)).phase

  -- R5: a NEW_STATE of the ballot of a recovering box that is another's has no job of its list at the start
  pub r5 : (q : BoxNo) → q.0 < boxes_of P → is_recovering (the w q).core.status ≡ true → {y : NewState} → News w.post y → y.ballot ≡ (the w q).core.ballot
      → q ≢ y.ballot.owner → (i : ℕ) → i < (the w q).core.count → 2 ≤ (row_in y.table (listed_at (the w q) i).job).phase
  r5 q k rec {y} n e o i l =
      let D = I.hands.d1 q k i l in
      let B = I.forms.box q k in
      let real = subst (λ (b : Ballot). 1 ≤ b.number) e (I.forms.news n).real in
      let home = ap (λ (b : Ballot). home_of P b.owner) e ∙ B.bhome real ∙ sym D.home in
      let apart : (the w q).core.cballot ≢ (the w q).core.ballot = λ z. o (I.ballots.b7 q k rec z ∙ ap (λ (b : Ballot). b.owner) (sym e)) in
      let lower = le_then_lt ballot_order D.upto (le_ne ballot_order B.order apart) in
      handed_kept D.del n home (subst (λ (b : Ballot). Lower D.ballot b) (sym e) lower)

  -- the same of a valid record to q, as its box tests it: recovering, ballot equal (what request R-5 of document 02 asks to show)
  pub r5_record : (from q : BoxNo) (y : NewState) → In (new_state from q y) w.post → valid P (carried (new_state from q y)) ≡ true → q.0 < boxes_of P
      → is_recovering (the w q).core.status ≡ true → y.ballot ≡ (the w q).core.ballot → (i : ℕ) → i < (the w q).core.count
      → (row_in y.table (listed_at (the w q) i).job).phase ≢ 0
  r5_record from q y h v k rec e i l =
      let S = state_says P from q y (valid_rules P (new_state from q y) v) in
      let o : q ≢ y.ballot.owner = λ z. S.apart.other (sym (z ∙ S.mine)) in
      omega (arith, r5 q k rec (record { from = from; to = q; there = h }) e o i l)

  -- R5w: a job on a list is accepted or committed
  pub r5w : (p : BoxNo) → p.0 < boxes_of P → (i : ℕ) → i < (the w p).core.count → 2 ≤ (row_in (the w p).core.table (listed_at (the w p) i).job).phase
  r5w p k i l = go (within ballot_order D.upto)
    where
      m : ℕ
      m = (listed_at (the w p) i).job

      D : Listing P w.post (home_of P p) m (listed_at (the w p) i).stamp (the w p).core.cballot (the w p).core.table
      D = I.hands.d1 p k i l

      F : Final P w.post m (home_of P p) D.ballot D.local (listed_at (the w p) i).stamp
      F = subst (λ (g : District). Final P w.post m g D.ballot D.local (listed_at (the w p) i).stamp) D.home (I.acks.i3d D.del)

      go : Within ballot_lt D.ballot (the w p).core.cballot → 2 ≤ (row_in (the w p).core.table m).phase
      go (equal e) = let z = D.now e in omega arith
      go (strict u) = (i2b I p k F.named (F.cert.each (home_of P p) F.named).quorum (le_then_lt ballot_order F.below u)).phase

  -- the STATE lemmas that preservation uses
  pub state : State P w
  state = record { i2n = i2n I; g1 = g1 I; i4a = i4a I; i4b = i4b I }
