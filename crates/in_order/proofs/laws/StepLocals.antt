-- Local stamps of one ballot: every move keeps I1a L0 L1 N2 N3 G0.
-- Work is in kind 1; a new stamp is above the clock, so above all that the ballot has.
use Prim.Native.Nat.{ℕ, ◌+◌, ◌≤◌, ◌<◌}
use mathlib.Core.Bool.{true}
use mathlib.Core.List.{List, ◌++◌}
use mathlib.Core.Logic.{◌⊎◌, inl, inr, ◌≢◌}
use mathlib.Core.Path.{◌≡◌, refl, sym, ap, ◌∙◌}
use native.Mathlib.Decide.{ℕ_discrete}
use native.Mathlib.Omega.{arith}
use lib.Seq.{get_or-set_other}
use Rattle.laws.proofs.laws.Choice.{never}
use Rattle.house.specs.Pairs.{no_row}
use Rattle.house.specs.declared.Stamp.{Stamp}
use Rattle.house.specs.declared.Ballot.{Ballot}
use Rattle.house.specs.declared.BoxNo.{BoxNo}
use Rattle.house.specs.declared.Row.{Row}
use Rattle.house.specs.Plan.{boxes_of, home_of}
use Rattle.house.proofs.laws.Says.{plan_says, names_job}
use Rattle.house.specs.declared.Plan.{Plan}
use Rattle.records.specs.Rec.{Rec}
use Rattle.records.specs.declared.Handout.{Handout}
use Rattle.records.specs.declared.NewState.{NewState}
use Rattle.boxes.specs.declared.Status.{Status}
use Rattle.boxes.specs.declared.Status.TheVariants.{Follower, Leader, Recovering}
use Rattle.boxes.specs.Box.{is_leader, is_recovering, home_in, row_at, sent_at}
use Rattle.boxes.specs.AcceptAck.{committed}
use Rattle.boxes.specs.Merge.{merged}
use Rattle.boxes.specs.NewstateAck.{leading}
use Rattle.boxes.specs.declared.BoxState.{BoxState}
use Rattle.world.specs.World.{World}
use Rattle.in_order.proofs.laws.Notions.{the, row_in, Acc, Del, DelAt, News, Lam, stated, asked}
use Rattle.in_order.proofs.laws.Inv.{Forms, Held, Locals, Inv}
use Rattle.in_order.proofs.laws.Grow.{acc_cases, news_cases, del_cases}
use Rattle.in_order.proofs.laws.HandOut.{ready_says}
use Rattle.in_order.proofs.laws.Moves.{Voting, Stating, Move, box, sent, next}
use Rattle.in_order.proofs.laws.Steps.{TableStep, still, wrote, took, merged_it, Why, proposes, accepts, commits_it, delivers_it, table_step}
use Rattle.in_order.proofs.laws.Origins.{Stamped, new_stamp, old_stamp, Asks, HandFrom, by_commit, by_lead, AccNew, acc_new, DelNew, del_new, news_new}
use Rattle.in_order.proofs.laws.Next.{others_next, own_is}
use Rattle.in_order.proofs.laws.StepBallots.{fresh_news, merger, no_news_yet}
use Rattle.in_order.proofs.laws.StepHolds.{at_row}
use Rattle.in_order.proofs.laws.CoreBase.{lam_one, lam_news}
use Rattle.in_order.proofs.laws.Facts.{leads_own}

-- a local stamp of a ballot in the next world: old, of a new NEW_STATE, or of a new ACCEPT
pub data LamStep (P : Plan) (l k : List Rec) (b : Ballot) (m : ℕ) (s : Stamp) : Type 0 where
  lam_old : Lam P l b m s → LamStep P l k b m s
  lam_state : (y : NewState) → News k y → y.ballot ≡ b → (row_in y.table m).phase ≢ 0 → LamStep P l k b m s
  lam_ask : Acc k m b s → LamStep P l k b m s

pub lam_step : {P : Plan} (l k : List Rec) {b : Ballot} {m : ℕ} {s : Stamp} → Lam P (l ++ k) b m s → LamStep P l k b m s
lam_step {P} l k {b} {m} {s} (stated y h e low n q) = go (news_cases l k h)
  where
    go : News l y ⊎ News k y → LamStep P l k b m s
    go (inl o) = lam_old (stated y o e low n q)
    go (inr i) = lam_state y i e n
lam_step {P} l k {b} {m} {s} (asked a) = go (acc_cases l k a)
  where
    go : Acc l m b s ⊎ Acc k m b s → LamStep P l k b m s
    go (inl o) = lam_old (asked o)
    go (inr i) = lam_ask i

-- a leader does not wait
pub leader_waits : {X : Type 0} (s : Status) → is_leader s ≡ true → is_recovering s ≡ true → X
leader_waits Follower h k = never h refl
leader_waits Leader h k = never k refl
leader_waits Recovering h k = never h refl

module _ (P : Plan) (w : World) (p : BoxNo) (known : p.0 < boxes_of P) (m : Move P w p) (I : Inv P w) where
  F : Forms P w
  F = I.forms

  H : Held P w.post (home_of P p) (the w p).core.cballot (the w p).core.clock (the w p).core.table
  H = I.holds.of_box p known

  -- a leader heads its ballot
  pub head : {j : ℕ} {s : Stamp} → Asks P w p m j s → p ≡ (the w p).core.cballot.owner
  head A = sym (leads_own A.sound A.lead ∙ own_is P w p known F m)

  pub low : {j : ℕ} {s : Stamp} → Asks P w p m j s → j < P.jobs
  low {j} A = names_job P j (home_in P (the w p)) A.named

  -- what an old record says of the ballot of a new ACCEPT
  lam_here : {j : ℕ} {b : Ballot} {s t : Stamp} → AccNew P w p m j b s → Lam P w.post b j t → t ≡ s
  lam_here {j} {b} {s} {t} N L = go N.asks.stamped
    where
      L' : Lam P w.post (the w p).core.cballot j t
      L' = rw N.ballot at L

      go : Stamped P (the w p) j s → t ≡ s
      go (new_stamp z e) = absurd (I.locals.l1 p known (head N.asks) L' z)
      go (old_stamp n e) = lam_one I L' (H.l2 j (low N.asks) n) ∙ sym e

  -- ---- I1a, L0

  i1a' : {j : ℕ} {b : Ballot} {s t : Stamp} → Acc (next P w p m).post j b s → Acc (next P w p m).post j b t → s ≡ t
  i1a' {j} {b} {s} {t} h h' = go (acc_cases w.post (sent P w p m) h) (acc_cases w.post (sent P w p m) h')
    where
      go : Acc w.post j b s ⊎ Acc (sent P w p m) j b s → Acc w.post j b t ⊎ Acc (sent P w p m) j b t → s ≡ t
      go (inl o) (inl o') = I.locals.i1a o o'
      go (inl o) (inr n) = lam_here (acc_new P w p known F m n) (asked o)
      go (inr n) (inl o) = sym (lam_here (acc_new P w p known F m n) (asked o))
      go (inr n) (inr n') = sym (acc_new P w p known F m n).asks.local ∙ (acc_new P w p known F m n').asks.local

  -- an ACCEPT's ballot has no new NEW_STATE
  no_news : {j : ℕ} {b : Ballot} {s : Stamp} {y : NewState} {A : Type 0} → Acc (next P w p m).post j b s → News (sent P w p m) y → y.ballot ≡ b → A
  no_news {j} {b} {s} {y} {A} h n e = go (acc_cases w.post (sent P w p m) h)
    where
      go : Acc w.post j b s ⊎ Acc (sent P w p m) j b s → A
      go (inl o) = let L : Lam P w.post b j s = asked o in fresh_news P w p known m I n (rw e (lam_news I L))
      go (inr i) =
          let N = news_new P w p known F m n in
          let c : (the w p).core.cballot ≡ (the w p).core.ballot = sym (acc_new P w p known F m i).ballot ∙ sym e ∙ ap (λ (z : NewState). z.ballot) N.is in
          absurd (N.a.pending c)

  pub l0' : {j : ℕ} {b : Ballot} {s : Stamp} {y : NewState} → Acc (next P w p m).post j b s → News (next P w p m).post y → y.ballot ≡ b
      → (row_in y.table j).phase ≢ 0
      → (row_in y.table j).local ≡ s
  l0' {j} {b} {s} {y} h i e n = go (acc_cases w.post (sent P w p m) h) (news_cases w.post (sent P w p m) i)
    where
      go : Acc w.post j b s ⊎ Acc (sent P w p m) j b s → News w.post y ⊎ News (sent P w p m) y → (row_in y.table j).local ≡ s
      go _ (inr k) = no_news h k e
      go (inl o) (inl k) = I.locals.l0 o k e n
      go (inr o) (inl k) = let N = acc_new P w p known F m o in lam_here N (stated y k e (low N.asks) n refl)

  -- ---- L1

  -- a merging box has no record of its ballot yet
  no_lam : (a : Voting P w p) {j : ℕ} {s : Stamp} {A : Type 0} → Lam P w.post (the w p).core.ballot j s → A
  no_lam a L = no_news_yet P w p known m I a (lam_news I L)

  row_some : {x : BoxState} {l : List Rec} {j : ℕ} {r : Row} → Why P w p x l j r → r.phase ≢ 0
  row_some (proposes a ej n c k e) = rw e (omega arith)
  row_some (accepts a ej t n c e) = rw e (omega arith)
  row_some (commits_it a ej t c e) = rw e (omega arith)
  row_some (delivers_it a ej c e) = rw e (omega arith)

  -- the mover's rows for what its ballot had
  l1_own : TableStep P w p (box P w p m) (next P w p m).post → p ≡ (box P w p m).core.cballot.owner → {j : ℕ} {s : Stamp}
      → Lam P w.post (box P w p m).core.cballot j s
      → (row_in (box P w p m).core.table j).phase ≢ 0
  unfolding merged
  l1_own (still c u t) o L = rw t (I.locals.l1 p known (o ∙ ap (λ (b : Ballot). b.owner) c) (rw c at L))
  l1_own (wrote c u k r n t y) o {j} L =
      rw t (at_row (the w p).core.table k r j (λ q. q.phase ≢ 0)
      (omega (arith, names_job P k (home_in P (the w p)) n, (plan_says P F.plan).jobs_most, (F.box p known).table))
      (λ _. row_some y) (λ _. I.locals.l1 p known (o ∙ ap (λ (b : Ballot). b.owner) c) (rw c at L)))
  l1_own (took a c k t) o L = absurd (a.facts.apart.other (sym a.facts.mine ∙ sym (ap (λ (b : Ballot). b.owner) c) ∙ sym o))
  l1_own (merged_it a q e N) o L = no_lam a (rw (ap (λ (x : BoxState). x.core.cballot) e) at L)

  -- who heads the ballot of a new record is the mover
  not_other : (q : BoxNo) → q ≢ p → q ≡ (the w q).core.cballot.owner → (j : ℕ) (s : Stamp) → LamStep P w.post (sent P w p m) (the w q).core.cballot j s
      → Lam P w.post (the w q).core.cballot j s
  not_other q n o j s (lam_old L) = L
  not_other q n o j s (lam_state y i e h) =
      let N = news_new P w p known F m i in
      absurd (n (o ∙ ap (λ (b : Ballot). b.owner) (sym e ∙ ap (λ (z : NewState). z.ballot) N.is) ∙ merger P w p known m I N.a))
  not_other q n o j s (lam_ask i) =
      let N = acc_new P w p known F m i in
      absurd (n (o ∙ ap (λ (b : Ballot). b.owner) N.ballot ∙ sym (head N.asks)))

  pub l1_next : (q : BoxNo) → q.0 < boxes_of P → q ≡ (the (next P w p m) q).core.cballot.owner → (j : ℕ) (s : Stamp)
      → Lam P (next P w p m).post (the (next P w p m) q).core.cballot j s
      → (row_in (the (next P w p m) q).core.table j).phase ≢ 0
  l1_next =
      others_next P w p known F m
      (λ q y. q ≡ y.core.cballot.owner → (j : ℕ) (s : Stamp) → Lam P (next P w p m).post y.core.cballot j s → (row_in y.core.table j).phase ≢ 0)
      (λ o j s L. mine o j s (lam_step w.post (sent P w p m) L))
      (λ q l n o j s L. I.locals.l1 q l o (not_other q n o j s (lam_step w.post (sent P w p m) L)))
    where
      mine : p ≡ (box P w p m).core.cballot.owner → (j : ℕ) (s : Stamp) → LamStep P w.post (sent P w p m) (box P w p m).core.cballot j s
          → (row_in (box P w p m).core.table j).phase ≢ 0
      mine o j s (lam_old L) = l1_own (table_step P w p known F m) o L
      mine o j s (lam_state y n e h) = let N = news_new P w p known F m n in rw N.box_is (rw (ap (λ (z : NewState). (row_in z.table j).phase) N.is) at h)
      mine o j s (lam_ask n) = (acc_new P w p known F m n).asks.phase

  -- ---- N2, N3

  -- an ACCEPT of a job that its ballot's NEW_STATE has at its start: old, or with a new stamp
  data Fresh (j : ℕ) (b : Ballot) (s : Stamp) : Type 0 where
    was : Acc w.post j b s → Fresh j b s
    is_new : AccNew P w p m j b s → (row_in (the w p).core.table j).phase ≡ 0 → s.time ≡ (the w p).core.clock + 1 → Fresh j b s

  fresh : {j : ℕ} {b : Ballot} {s : Stamp} {y : NewState} → Acc (next P w p m).post j b s → News w.post y → y.ballot ≡ b → (row_in y.table j).phase ≡ 0
      → Fresh j b s
  fresh {j} {b} {s} {y} h i e z = go (acc_cases w.post (sent P w p m) h)
    where
      old : (t : Stamp) → t ≡ s → Lam P w.post b j t → Fresh j b s
      old t q (asked o) = was (rw q at o)
      old t q (stated y' i' e' l n r) = absurd (n (ap (λ (u : NewState). (row_in u.table j).phase) (I.ballots.i1b i' i (e' ∙ sym e)) ∙ z))

      new : (N : AccNew P w p m j b s) → Stamped P (the w p) j s → Fresh j b s
      new N (new_stamp n q) = is_new N n (ap (λ (t : Stamp). t.time) q)
      new N (old_stamp n q) = old (row_in (the w p).core.table j).local (sym q) (rw N.ballot (H.l2 j (low N.asks) n))

      go : Acc w.post j b s ⊎ Acc (sent P w p m) j b s → Fresh j b s
      go (inl o) = was o
      go (inr n) = let N = acc_new P w p known F m n in new N N.asks.stamped

  n2' : {j : ℕ} {b : Ballot} {s : Stamp} {y : NewState} → Acc (next P w p m).post j b s → News (next P w p m).post y → y.ballot ≡ b
      → (row_in y.table j).phase ≡ 0
      → y.clock.time < s.time
  n2' {j} {b} {s} {y} h i e z = go (news_cases w.post (sent P w p m) i)
    where
      then : News w.post y → Fresh j b s → y.clock.time < s.time
      then k (was o) = I.locals.n2 o k e z
      then k (is_new N n q) = let c = H.j4 y k (e ∙ N.ballot) in omega arith

      go : News w.post y ⊎ News (sent P w p m) y → y.clock.time < s.time
      go (inr k) = no_news h k e
      go (inl k) = then k (fresh h k e z)

  -- an old stamp of a ballot in which the mover proposes is not above its clock
  old_time : {j : ℕ} {b : Ballot} {s : Stamp} {k : ℕ} {t : Stamp} → AccNew P w p m j b s → Acc w.post k b t → t.time ≤ (the w p).core.clock
  old_time {j} {b} {s} {k} {t} N o =
      let L : Lam P w.post (the w p).core.cballot k t = asked (rw N.ballot at o) in
      let lk = names_job P k (home_of P b.owner) (F.acc o).named in
      let n = I.locals.l1 p known (head N.asks) L in
      let e = lam_one I (H.l2 k lk n) L in
      rw e at (H.c1 k lk n)

  -- one proposal in a step
  one_job_lem : TableStep P w p (box P w p m) (next P w p m).post → {j k : ℕ} {s t : Stamp} → Asks P w p m j s → Asks P w p m k t
      → (row_in (the w p).core.table j).phase ≡ 0 → (row_in (the w p).core.table k).phase ≡ 0 → j ≡ k
  one_job_lem (still c u t) {j} A B zj zk = absurd (A.phase (ap (λ (x : List Row). (row_in x j).phase) t ∙ zj))
  one_job_lem (wrote c u i r n t y) {j} {k} A B zj zk = here j A zj ∙ sym (here k B zk)
    where
      here : (j : ℕ) {s : Stamp} → Asks P w p m j s → (row_in (the w p).core.table j).phase ≡ 0 → j ≡ i
      here j A z = go (ℕ_discrete j i)
        where
          go : Dec (j ≡ i) → j ≡ i
          go (yes e) = e
          go (no e) =
              absurd
              (A.phase (ap (λ (x : List Row). (row_in x j).phase) t ∙ ap (λ (q : Row). q.phase) (get_or-set_other (the w p).core.table i j r no_row e) ∙ z))
  one_job_lem (took a c k t) A B zj zk = never_lead a A
    where
      never_lead : {j : ℕ} {s : Stamp} {X : Type 0} (a : Stating P w p) → Asks P w p m j s → X
      never_lead a A = leader_waits (the w p).core.status A.lead a.waits
  one_job_lem (merged_it a q e N) A B zj zk = leader_waits (the w p).core.status A.lead a.waits

  n3' : {j k : ℕ} {b : Ballot} {s t : Stamp} {y : NewState} → Acc (next P w p m).post j b s → Acc (next P w p m).post k b t → News (next P w p m).post y
      → y.ballot ≡ b
      → (row_in y.table j).phase ≡ 0 → (row_in y.table k).phase ≡ 0 → j ≢ k → s ≢ t
  n3' {j} {k} {b} {s} {t} {y} h h' i e zj zk n = go (news_cases w.post (sent P w p m) i)
    where
      then : News w.post y → Fresh j b s → Fresh k b t → s ≢ t
      then u (was o) (was o') = I.locals.n3 o o' u e zj zk n
      then u (was o) (is_new N z q) = λ x. let l = old_time N o in let x' = ap (λ (r : Stamp). r.time) x in omega arith
      then u (is_new N z q) (was o) = λ x. let l = old_time N o in let x' = ap (λ (r : Stamp). r.time) x in omega arith
      then u (is_new N z q) (is_new N' z' q') = absurd (n (one_job_lem (table_step P w p known F m) N.asks N'.asks z z'))

      go : News w.post y ⊎ News (sent P w p m) y → s ≢ t
      go (inr u) = no_news h u e
      go (inl u) = then u (fresh h u e zj) (fresh h' u e zk)

  -- ---- G0

  -- a new DELIVER shows the row that its job has after the step
  pub row_shown : {i j : ℕ} {from : BoxNo} {b : Ballot} {s t : Stamp} → DelNew P w p m i j from b s t
      → (s ≡ (row_in (box P w p m).core.table j).local) × (t ≡ (row_in (box P w p m).core.table j).global)
  unfolding row_at
  row_shown {j = j} N =
      let e : (box P w p m).core.table ≡ N.y.core.table = ap (λ (x : BoxState). x.core.table) N.hand.box_is in (
        ap (λ (o : Handout). o.local) N.is ∙ ap (λ (x : List Row). (row_in x j).local) (sym e),
        ap (λ (o : Handout). o.global) N.is ∙ ap (λ (x : List Row). (row_in x j).global) (sym e),
      )

  -- the box that hands out: ballot, flags and head are the mover's
  pub hand_ballot : (y : BoxState) → HandFrom P w p y → y.core.cballot ≡ (the w p).core.cballot
  unfolding committed leading
  hand_ballot y (by_commit a t e) = ap (λ (x : BoxState). x.core.cballot) e
  hand_ballot y (by_lead a e) = ap (λ (x : BoxState). x.core.cballot) e

  pub hand_sent : (y : BoxState) → HandFrom P w p y → (j : ℕ) → sent_at y j ≡ sent_at (the w p) j
  unfolding committed leading sent_at
  hand_sent y (by_commit a t e) j = ap (λ (x : BoxState). sent_at x j) e
  hand_sent y (by_lead a e) j = ap (λ (x : BoxState). sent_at x j) e

  pub hand_head : (y : BoxState) → HandFrom P w p y → p ≡ (the w p).core.cballot.owner
  hand_head y (by_commit a t e) = sym (leads_own a.sound a.lead ∙ own_is P w p known F m)
  hand_head y (by_lead a e) = sym a.facts.theirs ∙ ap (λ (b : Ballot). b.owner) a.current

  pub at_place : {l : List Rec} {j : ℕ} {b : Ballot} {s t : Stamp} (h : Del l j b s t) → DelAt l h.there.place j b s t
  at_place h = record { from = h.from; to = h.to; there = h.there.there }

  -- what is handed out was not handed out before in the ballot
  pub not_before : {i j : ℕ} {from : BoxNo} {b : Ballot} {s t s' t' : Stamp} {A : Type 0} → DelNew P w p m i j from b s t → Del w.post j b s' t' → A
  not_before {j = j} {b = b} N o =
      let e : b ≡ (the w p).core.cballot = ap (λ (q : Handout). q.ballot) N.is ∙ hand_ballot N.y N.hand_from in
      never
      (hand_sent N.y N.hand_from j ∙ I.hands.i6_sent p known (hand_head N.y N.hand_from) (rw e at o))
      (ready_says P N.y j N.ready_it).fresh

  g0' : {j : ℕ} {b : Ballot} {s t s' t' : Stamp} → Del (next P w p m).post j b s t → Del (next P w p m).post j b s' t' → (s ≡ s') × (t ≡ t')
  g0' {j} {b} {s} {t} {s'} {t'} h h' = go (del_cases w.post (sent P w p m) h) (del_cases w.post (sent P w p m) h')
    where
      go : Del w.post j b s t ⊎ Del (sent P w p m) j b s t → Del w.post j b s' t' ⊎ Del (sent P w p m) j b s' t' → (s ≡ s') × (t ≡ t')
      go (inl o) (inl o') = I.locals.g0 o o'
      go (inl o) (inr n) = not_before (del_new P w p known F m (at_place n)) o
      go (inr n) (inl o) = not_before (del_new P w p known F m (at_place n)) o
      go (inr n) (inr n') =
          let a = row_shown (del_new P w p known F m (at_place n)) in
          let c = row_shown (del_new P w p known F m (at_place n')) in
          (a.0 ∙ sym c.0, a.1 ∙ sym c.1)

  pub locals_step : Locals P (next P w p m)
  locals_step = record { i1a = i1a'; l0 = l0'; l1 = λ q l o {m = j} {s = s} L. l1_next q l o j s L; n2 = n2'; n3 = n3'; g0 = g0' }
