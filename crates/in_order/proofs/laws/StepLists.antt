-- Delivered lists: every move keeps D1, and that a list's jobs differ and its stamps rise.
-- Work is in kind 4; a table that changes its ballot leaves D1's DELIVER below it.
use Prim.Native.Nat.{ℕ, ◌+◌, ◌-◌, ◌≤◌, ◌<◌}
use mathlib.Core.List.{List}
use mathlib.Core.Logic.{◌≢◌}
use mathlib.Core.Path.{◌≡◌, refl, sym, ap, ◌∙◌}
use native.Mathlib.Decide.{ℕ_discrete, dec_lt}
use native.Mathlib.Omega.{arith}
use lib.Dec.{ltb, eqb}
use lib.ListN.{get_or, set}
use lib.Seq.{get_or-set_same, get_or-set_other}
use borrow.Author.Tests.{lt-ltb, le-ltb, eq-eqb, ne_eqb}
use Rattle.laws.proofs.laws.Choice.{never, pick_true, pick_false}
use Rattle.laws.specs.Choice.{pick}
use Rattle.laws.proofs.laws.Fold.{some_is}
use Rattle.house.specs.Limits.{most_jobs}
use Rattle.house.specs.Pairs.{no_row}
use Rattle.house.proofs.laws.Orders.{ballot_order, stamp_order}
use Rattle.house.specs.declared.Stamp.{Stamp}
use Rattle.house.specs.declared.BoxNo.{BoxNo}
use Rattle.house.specs.declared.Row.{Row}
use Rattle.house.specs.Plan.{boxes_of, home_of}
use Rattle.house.proofs.laws.Says.{plan_says, names_job}
use Rattle.house.specs.declared.Plan.{Plan}
use Rattle.records.specs.Rec.{Rec}
use Rattle.boxes.specs.Box.{home_in, listed_at, last_stamp, on_list, no_listed}
use Rattle.boxes.specs.Accept.{kept, accepted}
use Rattle.boxes.specs.AcceptAck.{committed}
use Rattle.boxes.specs.Deliver.{delivered}
use Rattle.boxes.specs.Newleader.{joined}
use Rattle.boxes.specs.Merge.{merged}
use Rattle.boxes.specs.NewState.{followed}
use Rattle.boxes.specs.NewstateAck.{leading}
use Rattle.boxes.specs.Cut.{cut}
use Rattle.boxes.specs.declared.BoxState.{BoxState}
use Rattle.boxes.specs.declared.Listed.{Listed}
use Rattle.world.specs.World.{World}
use Rattle.in_order.proofs.laws.Compare.{Lower, Sooner, lt_lt, lt_self, lt_to_le, le_then_lt, le_ne, eq_le}
use Rattle.in_order.proofs.laws.Notions.{the, row_in}
use Rattle.in_order.proofs.laws.Inv.{Forms, Listing, Inv, State}
use Rattle.in_order.proofs.laws.Grow.{listing_up}
use Rattle.in_order.proofs.laws.Pigeon.{pigeon}
use Rattle.in_order.proofs.laws.Moves.{Delivering, Move, m_post, m_retry, m_stand, m_cut, m_propose, m_again, m_keep, m_accept, m_mark, m_commit}
use Rattle.in_order.proofs.laws.Moves.{m_deliver, m_join, m_hold, m_merge, m_state, m_lead, box, next}
use Rattle.in_order.proofs.laws.Steps.{commit_hands, lead_hands, proposed_is, TableStep, still, wrote, took, merged_it, Why, proposes, accepts}
use Rattle.in_order.proofs.laws.Steps.{commits_it, delivers_it, table_step}
use Rattle.in_order.proofs.laws.Next.{grows, boxes_next}
use Rattle.in_order.proofs.laws.StepHolds.{at_row}
use Rattle.in_order.proofs.laws.StepAcks.{took_up}
use Rattle.in_order.proofs.laws.Facts.{cballot_upto}

-- how the list changes
pub data ListStep (P : Plan) (w : World) (p : BoxNo) (x : BoxState) : Type 0 where
  list_same : x.core.list ≡ (the w p).core.list → x.core.count ≡ (the w p).core.count → ListStep P w p x
  list_more : (a : Delivering P w p) → x.core.list ≡ set (the w p).core.list (the w p).core.count (record { job = a.j; stamp = a.y.global })
      → x.core.count ≡ (the w p).core.count + 1 → x.core.cballot ≡ (the w p).core.cballot → (row_in x.core.table a.j).phase ≡ 3 → ListStep P w p x

module _ (P : Plan) (w : World) (p : BoxNo) (known : p.0 < boxes_of P) (F : Forms P w) where
  pub list_step : (m : Move P w p) → ListStep P w p (box P w p m)
  unfolding kept accepted committed delivered joined merged followed leading cut
  list_step (m_post j) = list_same refl refl
  list_step (m_retry j) = list_same refl refl
  list_step m_stand = list_same refl refl
  list_step m_cut = list_same refl refl
  list_step (m_propose a n) =
      let e = proposed_is P w p known F a n in list_same (ap (λ (x : BoxState). x.core.list) e) (ap (λ (x : BoxState). x.core.count) e)
  list_step (m_again a n) = list_same refl refl
  list_step (m_keep a) = list_same refl refl
  list_step (m_accept a f) = list_same refl refl
  list_step (m_mark a) = list_same refl refl
  list_step (m_commit a f) =
      let e = (commit_hands P w p known F a f).box_is in list_same (ap (λ (x : BoxState). x.core.list) e) (ap (λ (x : BoxState). x.core.count) e)
  list_step (m_deliver a) =
      list_more a refl refl refl
      (ap
      (λ (r : Row). r.phase)
      (get_or-set_same
      (the w p).core.table
      a.j
      _
      no_row
      (omega (arith, names_job P a.j (home_in P (the w p)) a.named, (plan_says P F.plan).jobs_most, (F.box p known).table))))
  list_step (m_join a) = list_same refl refl
  list_step (m_hold a) = list_same refl refl
  list_step (m_merge a q) = list_same refl refl
  list_step (m_state a) = list_same refl refl
  list_step (m_lead a) =
      let e = (lead_hands P w p known F a).box_is in list_same (ap (λ (x : BoxState). x.core.list) e) (ap (λ (x : BoxState). x.core.count) e)

module _ (P : Plan) (w : World) (p : BoxNo) (known : p.0 < boxes_of P) (m : Move P w p) (I : Inv P w) (S : State P w) where
  F : Forms P w
  F = I.forms

  -- ---- room for one job more

  not_listed : (a : Delivering P w p) (i : ℕ) → i < (the w p).core.count → (listed_at (the w p) i).job ≢ a.j
  unfolding on_list
  not_listed a i l e =
      never (some_is (λ k. eqb (listed_at (the w p) k).job a.j) (the w p).core.count i l (eq-eqb (listed_at (the w p) i).job a.j e)) a.new

  pub room : (a : Delivering P w p) → (the w p).core.count < most_jobs
  room a =
      let h = pigeon P.jobs ((the w p).core.count + 1) f low apart in
      let j = (plan_says P F.plan).jobs_most in
      omega arith
    where
      f : ℕ → ℕ
      f i = pick (ltb i (the w p).core.count) (listed_at (the w p) i).job a.j

      in_list : (i : ℕ) → i < (the w p).core.count → f i ≡ (listed_at (the w p) i).job
      in_list i l = pick_true (listed_at (the w p) i).job a.j (lt-ltb i (the w p).core.count l)

      behind : (i : ℕ) → (the w p).core.count ≤ i → f i ≡ a.j
      behind i l = pick_false (listed_at (the w p) i).job a.j (le-ltb i (the w p).core.count l)

      low : (i : ℕ) → i < (the w p).core.count + 1 → f i < P.jobs
      low i l = go (dec_lt i (the w p).core.count)
        where
          go : Dec (i < (the w p).core.count) → f i < P.jobs
          go (yes h) =
              let L = I.hands.d1 p known i h in
              let n = (I.acks.i3d L.del).named in
              rw (in_list i h) (names_job P (listed_at (the w p) i).job (home_of P L.ballot.owner) n)
          go (no h) = rw (behind i (omega arith)) (names_job P a.j (home_in P (the w p)) a.named)

      apart : (k i : ℕ) → k < i → i < (the w p).core.count + 1 → f k ≢ f i
      apart k i h l = go (dec_lt i (the w p).core.count)
        where
          go : Dec (i < (the w p).core.count) → f k ≢ f i
          go (yes u) = rw (in_list k (omega arith), in_list i u) (I.hands.once p known k i h u)
          go (no u) = rw (in_list k (omega arith), behind i (omega arith)) (not_listed a k (omega arith))

  -- the list with one job more
  module _ (a : Delivering P w p) (x : BoxState)
      (e : x.core.list ≡ set (the w p).core.list (the w p).core.count (record { job = a.j; stamp = a.y.global })) where
    last_is : listed_at x (the w p).core.count ≡ record { job = a.j; stamp = a.y.global }
    unfolding listed_at
    last_is = rw e (get_or-set_same (the w p).core.list (the w p).core.count _ no_listed (omega (arith, room a, (F.box p known).list)))

    first_are : (i : ℕ) → i < (the w p).core.count → listed_at x i ≡ listed_at (the w p) i
    unfolding listed_at
    first_are i l = rw e (get_or-set_other (the w p).core.list (the w p).core.count i _ no_listed (omega arith))

    -- every stamp on the list is below the new one
    above : (k : ℕ) → k < (the w p).core.count → Sooner (listed_at (the w p) k).stamp a.y.global
    unfolding last_stamp
    above k l =
        let h = rw (pick_false _ (listed_at (the w p) ((the w p).core.count - 1)).stamp (ne_eqb (the w p).core.count 0 (omega arith))) at a.above in
        go (ℕ_discrete k ((the w p).core.count - 1)) h
      where
        go : Dec (k ≡ (the w p).core.count - 1) → Sooner (listed_at (the w p) ((the w p).core.count - 1)).stamp a.y.global
            → Sooner (listed_at (the w p) k).stamp a.y.global
        go (yes q) h = rw q h
        go (no q) h = lt_lt stamp_order (I.hands.rising p known k ((the w p).core.count - 1) (omega arith) (omega arith)) h

  -- ---- D1

  -- a row in phase 3 that is written again stays so
  row_done : {x : BoxState} {l : List Rec} {j : ℕ} {r : Row} → Why P w p x l j r → (row_in (the w p).core.table j).phase ≡ 3 → r.phase ≡ 3
  row_done (proposes a ej n c k e) h = absurd (omega arith)
  row_done (accepts a ej t n c e) h = absurd (n h)
  row_done (commits_it a ej t c e) h = ap (λ (r : Row). r.phase) e
  row_done (delivers_it a ej c e) h = ap (λ (r : Row). r.phase) e

  -- what D1 says of the mover's old list after the step
  listing : TableStep P w p (box P w p m) (next P w p m).post → {j : ℕ} {s : Stamp}
      → Listing P w.post (home_of P p) j s (the w p).core.cballot (the w p).core.table
      → Listing P w.post (home_of P p) j s (box P w p m).core.cballot (box P w p m).core.table
  unfolding merged
  listing (still c u t) L = rw (c, t) L
  listing (wrote c u k r n t y) {j} L =
      rw (c, t) (record {
        ballot = L.ballot;
        local = L.local;
        del = L.del;
        home = L.home;
        upto = L.upto;
        now = λ e. at_row (the w p).core.table k r j (λ q. q.phase ≡ 3)
            (omega (arith, names_job P k (home_in P (the w p)) n, (plan_says P F.plan).jobs_most, (F.box p known).table))
            (λ ej. row_done y (rw ej at (L.now e))) (λ _. L.now e);
      })
  listing (took a c k t) L =
      let up : Lower L.ballot (box P w p m).core.cballot = rw c (le_then_lt ballot_order L.upto (took_up P w p known m I S a)) in
      record { ballot = L.ballot; local = L.local; del = L.del; home = L.home; upto = lt_to_le ballot_order up; now = λ e. lt_self ballot_order up e }
  listing (merged_it a q e N) L =
      let c : (box P w p m).core.cballot ≡ (the w p).core.ballot = ap (λ (x : BoxState). x.core.cballot) e in
      let up : Lower L.ballot (box P w p m).core.cballot =
      rw c (le_then_lt ballot_order L.upto (le_ne ballot_order (cballot_upto a.sound) a.pending)) in
      record { ballot = L.ballot; local = L.local; del = L.del; home = L.home; upto = lt_to_le ballot_order up; now = λ e. lt_self ballot_order up e }

  abbrev OnList : BoxNo → BoxState → Type 0
  OnList q y = (i : ℕ) → i < y.core.count → Listing P w.post (home_of P q) (listed_at y i).job (listed_at y i).stamp y.core.cballot y.core.table

  same_listed : (box P w p m).core.list ≡ (the w p).core.list → (i : ℕ) → listed_at (box P w p m) i ≡ listed_at (the w p) i
  unfolding listed_at
  same_listed e i = ap (λ (l : List Listed). get_or l i no_listed) e

  own_d1 : ListStep P w p (box P w p m) → OnList p (box P w p m)
  own_d1 (list_same e c) i l =
      let L = listing (table_step P w p known F m) (I.hands.d1 p known i (rw c at l)) in
      rw (same_listed e i) L
  own_d1 (list_more a e c b ph) i l = go (ℕ_discrete i (the w p).core.count)
    where
      go : Dec (i ≡ (the w p).core.count)
          → Listing P w.post (home_of P p) (listed_at (box P w p m) i).job (listed_at (box P w p m) i).stamp (box P w p m).core.cballot
          (box P w p m).core.table
      go (yes q) =
          rw (q, last_is a (box P w p m) e) (record {
            ballot = a.y.ballot;
            local = a.y.local;
            del = record { from = a.from; to = p; there = a.there };
            home = ap (home_of P) a.facts.mine ∙ a.facts.near.home;
            upto = eq_le ballot_order (a.same ∙ sym b);
            now = λ _. ph;
          })
      go (no q) =
          let l' : i < (the w p).core.count = omega arith in
          let L = listing (table_step P w p known F m) (I.hands.d1 p known i l') in
          rw (first_are a (box P w p m) e i l') L

  pub d1' : (q : BoxNo) → q.0 < boxes_of P → (i : ℕ) → i < (the (next P w p m) q).core.count
      →
      Listing
      P
      (next P w p m).post
      (home_of P q)
      (listed_at (the (next P w p m) q) i).job
      (listed_at (the (next P w p m) q) i).stamp
      (the (next P w p m) q).core.cballot
      (the (next P w p m) q).core.table
  d1' q l i h = listing_up (grows P w p known F m) (boxes_next P w p known F m OnList (own_d1 (list_step P w p known F m)) I.hands.d1 q l i h)

  -- ---- rising, once

  abbrev Rises : BoxNo → BoxState → Type 0
  Rises q y = (k i : ℕ) → k < i → i < y.core.count → Sooner (listed_at y k).stamp (listed_at y i).stamp

  own_rises : ListStep P w p (box P w p m) → Rises p (box P w p m)
  own_rises (list_same e c) k i h l = rw (same_listed e k, same_listed e i) (I.hands.rising p known k i h (rw c at l))
  own_rises (list_more a e c b ph) k i h l = go (ℕ_discrete i (the w p).core.count)
    where
      go : Dec (i ≡ (the w p).core.count) → Sooner (listed_at (box P w p m) k).stamp (listed_at (box P w p m) i).stamp
      go (yes q) = rw (q, last_is a (box P w p m) e, first_are a (box P w p m) e k (omega arith)) (above a (box P w p m) e k (omega arith))
      go (no q) = rw (first_are a (box P w p m) e k (omega arith), first_are a (box P w p m) e i (omega arith)) (I.hands.rising p known k i h (omega arith))

  abbrev Differ : BoxNo → BoxState → Type 0
  Differ q y = (k i : ℕ) → k < i → i < y.core.count → (listed_at y k).job ≢ (listed_at y i).job

  own_differ : ListStep P w p (box P w p m) → Differ p (box P w p m)
  own_differ (list_same e c) k i h l = rw (same_listed e k, same_listed e i) (I.hands.once p known k i h (rw c at l))
  own_differ (list_more a e c b ph) k i h l = go (ℕ_discrete i (the w p).core.count)
    where
      go : Dec (i ≡ (the w p).core.count) → (listed_at (box P w p m) k).job ≢ (listed_at (box P w p m) i).job
      go (yes q) = rw (q, last_is a (box P w p m) e, first_are a (box P w p m) e k (omega arith)) (not_listed a k (omega arith))
      go (no q) = rw (first_are a (box P w p m) e k (omega arith), first_are a (box P w p m) e i (omega arith)) (I.hands.once p known k i h (omega arith))

  pub rising' : (q : BoxNo) → q.0 < boxes_of P → (k i : ℕ) → k < i → i < (the (next P w p m) q).core.count
      → Sooner (listed_at (the (next P w p m) q) k).stamp (listed_at (the (next P w p m) q) i).stamp
  rising' = boxes_next P w p known F m Rises (own_rises (list_step P w p known F m)) I.hands.rising

  pub once' : (q : BoxNo) → q.0 < boxes_of P → (k i : ℕ) → k < i → i < (the (next P w p m) q).core.count
      → (listed_at (the (next P w p m) q) k).job ≢ (listed_at (the (next P w p m) q) i).job
  once' = boxes_next P w p known F m Differ (own_differ (list_step P w p known F m)) I.hands.once
