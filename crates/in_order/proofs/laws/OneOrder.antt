-- The regulator's sentence from the statements of demand 3 alone: any two boxes hold the jobs they both have in one order.
-- A job has one final stamp, it stands with it on each list, and lists rise.
use Prim.Native.Nat.{ℕ, ◌<◌}
use mathlib.Core.List.{List, [], ◌++◌}
use mathlib.Core.Path.{◌≡◌, refl, sym, ap, subst, ◌∙◌}
use native.Mathlib.Decide.{dec_lt, ℕ_discrete}
use native.Mathlib.Omega.{arith}
use Rattle.house.proofs.laws.Orders.{stamp_order}
use Rattle.house.specs.declared.Stamp.{Stamp}
use Rattle.house.specs.Plan.{boxes_of}
use Rattle.house.specs.declared.Plan.{Plan}
use Rattle.house.specs.declared.Order.{Order}
use Rattle.boxes.specs.Box.{listed_at}
use Rattle.boxes.specs.declared.BoxState.{BoxState}
use Rattle.world.specs.World.{box_at}
use Rattle.in_order.specs.Words.{after, FinalStamp, Rises, Once, SameOrder}
use Rattle.in_order.specs.Demand3.{OneStamp, ListRises, ListOnce, ListFinal, Demand3, OneOrder}
use Rattle.in_order.proofs.laws.Compare.{Sooner, lt_lt, lt_self}
use Rattle.in_order.proofs.laws.CoreFinal.{final_now, final_later}

-- ---- two lists

-- a job on both lists has one stamp there
pub record Agree (x y : BoxState) : Type 0 where
  pub says : (i k : ℕ) → i < x.core.count → k < y.core.count → (listed_at x i).job ≡ (listed_at y k).job → (listed_at x i).stamp ≡ (listed_at y k).stamp

-- two places of a list that rises have two stamps, the earlier the smaller
rises_at : {x : BoxState} → Rises x → (k i : ℕ) → k < i → i < x.core.count → Sooner (listed_at x k).stamp (listed_at x i).stamp
rises_at R k i h l = record { says = R.says k i h l }

pub same_order : {x y : BoxState} → Rises x → Rises y → Agree x y → SameOrder x y
same_order {x} {y} R S A = record { says = λ i j k n h lj lk ln e f. go i j k n h lj lk ln e f (dec_lt k n) (ℕ_discrete k n) }
  where
    go : (i j k n : ℕ) → i < j → j < x.core.count → k < y.core.count → n < y.core.count
        → (listed_at x i).job ≡ (listed_at y k).job → (listed_at x j).job ≡ (listed_at y n).job → Dec (k < n) → Dec (k ≡ n) → k < n
    go i j k n h lj lk ln e f (yes o) _ = o
    go i j k n h lj lk ln e f (no o) (yes z) =
        lt_self stamp_order (rises_at R i j h lj) (A.says i k (omega arith) lk e ∙ ap (λ (m : ℕ). (listed_at y m).stamp) z ∙ sym (A.says j n lj ln f))
    go i j k n h lj lk ln e f (no o) (no z) =
        let back : Sooner (listed_at x j).stamp (listed_at y k).stamp =
        subst (λ (s : Stamp). Sooner s (listed_at y k).stamp) (sym (A.says j n lj ln f)) (rises_at S n k (omega arith) lk) in
        lt_self stamp_order (lt_lt stamp_order (rises_at R i j h lj) back) (A.says i k (omega arith) lk e)

pub once : {x : BoxState} → Rises x → Agree x x → Once x
once {x} R A = record { says = λ k i lk li e. go k i lk li e (dec_lt k i) (dec_lt i k) }
  where
    go : (k i : ℕ) → k < x.core.count → i < x.core.count → (listed_at x k).job ≡ (listed_at x i).job → Dec (k < i) → Dec (i < k) → k ≡ i
    go k i lk li e (yes h) _ = lt_self stamp_order (rises_at R k i h li) (A.says k i lk li e)
    go k i lk li e (no _) (yes h) = lt_self stamp_order (rises_at R i k h lk) (sym (A.says k i lk li e))
    go k i lk li e (no h) (no g) = omega arith

-- ---- any two boxes at any two moments

module _ {P : Plan} (one_stamp : OneStamp P) (list_rises : ListRises P) (list_final : ListFinal P) where
  agree : (first rest second more : List Order) (p q : ℕ) → first ++ rest ≡ second ++ more → p < boxes_of P → q < boxes_of P
      → Agree (box_at (after P first) p) (box_at (after P second) q)
  agree first rest second more p q run lp lq = record { says = meets }
    where
      x : BoxState
      x = box_at (after P first) p

      y : BoxState
      y = box_at (after P second) q

      meets : (i k : ℕ) → i < x.core.count → k < y.core.count → (listed_at x i).job ≡ (listed_at y k).job → (listed_at x i).stamp ≡ (listed_at y k).stamp
      meets i k li lk e =
          let a : FinalStamp P (first ++ rest) (listed_at x i).job (listed_at x i).stamp = final_later (final_now (list_final first p i lp li)) rest in
          let b : FinalStamp P (second ++ more) (listed_at y k).job (listed_at y k).stamp = final_later (final_now (list_final second q k lq lk)) more in
          let c : FinalStamp P (first ++ rest) (listed_at x i).job (listed_at y k).stamp = rw (run, e) b in
          one_stamp (first ++ rest) [] (listed_at x i).job (listed_at x i).stamp (listed_at y k).stamp a (final_later c [])

  pub list_once : ListOnce P
  list_once os p l = once (list_rises os p l) (agree os [] os [] p p refl l l)

  ordered : OneOrder P
  ordered first rest second more p q run lp lq = same_order (list_rises first p lp) (list_rises second q lq) (agree first rest second more p q run lp lq)

-- DEMAND 3 says that all boxes deliver in one order
pub one_order_follows : {P : Plan} → Demand3 P → OneOrder P
one_order_follows D = ordered D.one_stamp D.list_rises D.list_final
