-- When a run breaks demand 3: for each statement that a bite breaks, the facts of one computed world that make it false (tests/bites).
-- Nothing here speaks of the steps: it holds whatever the definitions of a box are.
use Prim.Native.Nat.{ℕ, ◌<◌}
use mathlib.Core.Bool.{Bool, true, false, ◌&&◌}
use mathlib.Core.List.{List, [], ◌++◌, append-nil}
use mathlib.Core.Option.{Option, some}
use mathlib.Core.Path.{◌≡◌, refl, sym, ap, ◌∙◌}
use native.Mathlib.Omega.{arith}
use lib.ListN.{get_or, get_elem?}
use lib.Dec.{eqb}
use borrow.Author.Tests.{eq-eqb}
use Rattle.laws.proofs.laws.Choice.{and_both}
use Rattle.laws.specs.Fold.{some_below}
use Rattle.laws.proofs.laws.Fold.{some_is}
use Rattle.laws.specs.Place.{At}
use Rattle.laws.proofs.laws.Place.{get_d_at_is_lem}
use Rattle.house.specs.Pairs.{stamp_lt, same_ballot}
use Rattle.house.proofs.laws.Orders.{stamp_order, ballot_order}
use Rattle.house.specs.declared.Stamp.{Stamp}
use Rattle.house.specs.declared.Ballot.{Ballot}
use Rattle.house.specs.declared.BoxNo.{BoxNo}
use Rattle.house.specs.Plan.{boxes_of, home_of, names}
use Rattle.house.specs.declared.Plan.{Plan}
use Rattle.house.specs.declared.Order.{Order}
use Rattle.records.specs.Rec.{Rec, multicast, accept, accept_ack, deliver, newleader, newleader_ack, new_state, newstate_ack, unknown}
use Rattle.boxes.specs.Box.{listed_at}
use Rattle.world.specs.World.{box_at}
use Rattle.in_order.specs.Words.{after, Shows, written, FinalStamp, HandsOut, HandedTo}
use Rattle.in_order.specs.Demand3.{OneStamp, OwnStamp, ListRises, HandsInOrder}

-- a DELIVER of job m to box q in ballot b
abbrev pub is_handout : BoxNo → ℕ → Ballot → Rec → Bool
is_handout q m b (multicast from to j) = false
is_handout q m b (accept from to j y) = false
is_handout q m b (accept_ack from to j bs) = false
is_handout q m b (deliver from to j y) = eqb to.0 q.0 && (eqb j m && same_ballot y.ballot b)
is_handout q m b (newleader from to c) = false
is_handout q m b (newleader_ack from to y) = false
is_handout q m b (new_state from to y) = false
is_handout q m b (newstate_ack from to c) = false
is_handout q m b unknown = false

-- one of them stands before place i of the post
abbrev pub any_before : List Rec → ℕ → BoxNo → ℕ → Ballot → Bool
any_before l i q m b = some_below (λ n. is_handout q m b (get_or l n unknown)) i

handed_any : (l : List Rec) (i m : ℕ) (p q : BoxNo) (b : Ballot) (s : Stamp) → HandedTo l i p q m b s → any_before l i q m b ≡ true
handed_any l i m p q b s h =
    some_is (λ n. is_handout q m b (get_or l n unknown)) i h.place h.before
    (ap (is_handout q m b) (get_d_at_is_lem l h.place unknown h.there)
    ∙
    and_both
    (eqb q.0 q.0)
    (eqb m m && same_ballot b b)
    (eq-eqb q.0 q.0 refl)
    (and_both (eqb m m) (same_ballot b b) (eq-eqb m m refl) (ballot_order.eq_is b)))

-- ---- two DELIVERs of a post, and what they break

-- at this place box `by`, as leader of the ballot, hands the job out to box `to`
pub record Handed : Type 0 where
  pub place : ℕ
  pub by : BoxNo
  pub to : BoxNo
  pub job : ℕ
  pub ballot : Ballot
  pub local : Stamp
  pub global : Stamp

abbrev pub written_as : Handed → Rec
written_as h = deliver h.by h.to h.job (record { ballot = h.ballot; local = h.local; global = h.global })

-- what stands at the places of two of them: one equation, so that the run is computed once
abbrev pub at_both : List Rec → Handed → Handed → Option Rec × Option Rec
at_both l a c = (get_elem? l a.place, get_elem? l c.place)

abbrev pub written_both : Handed → Handed → Option Rec × Option Rec
written_both a c = (some (written_as a), some (written_as c))

module _ (P : Plan) (os : List Order) where
  -- the post after the orders
  abbrev pub posted : List Rec
  posted = (after P os).post

  shows : (h : Handed) → At posted h.place (written_as h) → Shows P (after P os) h.job h.global
  shows h e = written h.by h.to (record { ballot = h.ballot; local = h.local; global = h.global }) (record { place = h.place; there = e }) refl

  -- so the stamp is a final one of the run, and of the run with no order more
  final : (h : Handed) → At posted h.place (written_as h) → FinalStamp P os h.job h.global
  final h e = record { first = os; rest = []; split = sym (append-nil os); shows = shows h e }

  final_then : (h : Handed) → At posted h.place (written_as h) → FinalStamp P (os ++ []) h.job h.global
  final_then h e = record { first = os; rest = []; split = refl; shows = shows h e }

  -- `list_rises` is false: on the list of box p the stamp at place k is not below the one at place i
  pub falling_list : (p k i n : ℕ) (s t : Stamp)
      →
      ◌≡◌
      {A = ℕ × (Stamp × Stamp)}
      ((box_at (after P os) p).core.count, ((listed_at (box_at (after P os) p) k).stamp, (listed_at (box_at (after P os) p) i).stamp))
      (n, (s, t))
      → p < boxes_of P → k < i → i < n → stamp_lt s t ≡ false → ListRises P → ⊥
  falling_list p k i n s t e low l h falls d =
      let longer = ap (λ r. r.0) e in
      let one = ap (λ r. r.1.0) e in
      let two = ap (λ r. r.1.1) e in
      let rises = (d os p low).says k i l (omega arith) in
      let z : ◌≡◌ {A = ℕ} 0 1 = cc in
      omega arith

  module _ (a c : Handed) where
    -- `one_stamp` is false: one job is handed out with two stamps
    pub two_stamps_lem : at_both posted a c ≡ written_both a c → a.job ≡ c.job → stamp_lt a.global c.global ≡ true → OneStamp P → ⊥
    two_stamps_lem e same l d =
        let there : FinalStamp P (os ++ []) c.job c.global = final_then c (ap (λ r. r.1) e) in
        let eq = d os [] a.job a.global c.global (final a (ap (λ r. r.0) e)) (rw same there) in
        let h = stamp_order.irrefl a.global in
        let z : ◌≡◌ {A = ℕ} 0 1 = cc in
        omega arith

    -- `own_stamp` is false: two jobs are handed out with one stamp
    pub shared_stamp : at_both posted a c ≡ written_both a c → a.global ≡ c.global → a.job < c.job → OwnStamp P → ⊥
    shared_stamp e same l d =
        let there : FinalStamp P (os ++ []) c.job c.global = final_then c (ap (λ r. r.1) e) in
        let eq = d os [] a.job c.job a.global (final a (ap (λ r. r.0) e)) (rw same there) in
        omega arith

    -- `handed_before` is false: when the first is handed out, the second, with a smaller stamp, was not given to box q before in this ballot
    pub out_of_turn : (q : BoxNo)
        → ◌≡◌ {A = (Option Rec × Option Rec) × Bool} (at_both posted a c, any_before posted a.place q c.job a.ballot) (written_both a c, false)
        → stamp_lt c.global a.global ≡ true
        → names P c.job (home_of P a.by) ≡ true
        → q.0 < boxes_of P
        → home_of P q ≡ home_of P a.by
        → HandsInOrder P
        → ⊥
    out_of_turn q e l named low home d =
        let none = ap (λ r. r.1) e in
        let out : HandsOut posted a.place a.by a.job a.ballot a.global = record { to = a.to; local = a.local; there = ap (λ r. r.0.0) e } in
        let h = d os [] a.place a.job c.job a.by a.ballot a.global c.global out named (final_then c (ap (λ r. r.0.1) e)) l in
        let any = handed_any posted a.place c.job a.by q a.ballot c.global (h.each q low home) in
        let z : ◌≡◌ {A = ℕ} 0 1 = cc in
        omega arith
