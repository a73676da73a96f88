-- Laws of what specs/Says.antt defines.
use Prim.Native.Nat.{ℕ, zero, suc, ◌+◌, ◌*◌, ◌<◌}
use mathlib.Core.Bool.{true, false, not, ◌||◌}
use mathlib.Core.Logic.{◌⊎◌, inl, inr, ⊎_elim}
use mathlib.Core.Path.{◌≡◌, refl, sym, ◌∙◌}
use native.Mathlib.Nat.{eq-or-lt_of_le}
use native.Mathlib.Omega.{arith}
use Rattle.std.specs.Prelude.{Option, Some, None}
use Rattle.house.specs.declared.Row.{Row}
use Rattle.house.specs.declared.Stamp.{Stamp}
use Rattle.laws.proofs.laws.Choice.{pick_cases, not_off, look, or_other, or_left, or_right, not_of}
use Rattle.laws.proofs.laws.Fold.{all_says, all_is, some_says, some_is}
use Rattle.house.specs.Pairs.{district, box_no}
use Rattle.house.specs.Plan.{size_of, home_of, names}
use Rattle.house.proofs.laws.Says.{home_is}
use Rattle.house.specs.declared.Plan.{Plan}
use Rattle.boxes.specs.Box.{on_list}
use Rattle.rehearsal.specs.Night.{box_in}
use Rattle.rehearsal.specs.declared.Night.{Night}
use Rattle.closing.specs.Endings.{is_committed, first_of, first_below, listed_in, done_in, finished}
use Rattle.closing.specs.Says.{row_of, Lowest}

-- one box more found nothing: nothing was found before, nor is its row committed
none_of : (f : Option Stamp) (r : Row) → first_of f r ≡ None → (f ≡ None) × (is_committed r ≡ false)
unfolding first_of
none_of (Some stamp) r e = (cc, cc)
none_of None r e = pick_cases (is_committed r) (Some r.global) None e (λ h q. (refl, cc)) (λ h q. (refl, h))

-- with one box more a stamp is found: it was before, or its row is committed
some_of : (f : Option Stamp) (r : Row) {s : Stamp} → first_of f r ≡ Some s → (f ≡ Some s) ⊎ (f ≡ None) × (is_committed r ≡ true) × (Some s ≡ Some r.global)
unfolding first_of
some_of (Some stamp) r e = inl e
some_of None r e = pick_cases (is_committed r) (Some r.global) None e (λ h q. inr (refl, h, sym q)) (λ h q. inl q)

step : (n : Night) (j k : ℕ) → first_below n j (suc k) ≡ first_of (first_below n j k) (row_of n j k)
unfolding first_below
step n j k = refl

-- none is found: no box below k has it committed
pub first_none : (n : Night) (j k : ℕ) → first_below n j k ≡ None → (p : ℕ) → p < k → is_committed (row_of n j p) ≡ false
first_none n j zero e p h = absurd (omega arith)
first_none n j (suc k) e p h =
    let z = none_of (first_below n j k) (row_of n j k) (sym (step n j k) ∙ e) in
    ⊎_elim (λ q. rw q z.1) (λ l. first_none n j k z.0 p l) (eq-or-lt_of_le {n = p} {m = k} (omega arith))

-- one is found: it is the lowest, and the stamp is its global stamp there
pub first_some : (n : Night) (j k : ℕ) {s : Stamp} → first_below n j k ≡ Some s → Lowest n j k
unfolding first_below
first_some n j zero e = let z : ◌≡◌ {A = ℕ} 0 1 = cc in absurd (omega arith)
first_some n j (suc k) {s} e =
    ⊎_elim
    (λ q.
    let z = first_some n j k q in
    let b = z.is_box_lem in
    record { box = z.box; is_box_lem = omega arith; committed = z.committed; stamped = e ∙ sym q ∙ z.stamped; lowest = z.lowest })
    (λ q. record { box = k; is_box_lem = omega arith; committed = q.1; stamped = e ∙ q.2; lowest = first_none n j k q.0 })
    (some_of (first_below n j k) (row_of n j k) (sym (step n j k) ∙ e))

-- a finished job is on the list of a box in each district that it names
pub finished_says : (P : Plan) (n : Night) (j k : ℕ) → finished P n j k ≡ true → (d : ℕ) → d < k → names P j (district d) ≡ true
    → (p : ℕ) × (home_of P (box_no p) ≡ district d) × (on_list (box_in n p) j ≡ true)
unfolding finished done_in listed_in
finished_says P n j k e d h m =
    let s = all_says (done_in P n j) k e d h in
    let z =
    some_says
    (λ i. on_list (box_in n (d * size_of P + i)) j)
    (size_of P)
    (or_other (not (names P j (district d))) (listed_in n j (d * size_of P) (size_of P)) s (not_of m)) in
    (d * size_of P + z.0, home_is P d z.0 z.1, z.2)

-- and a job on such lists is finished
pub finished_is : (P : Plan) (n : Night) (j k : ℕ)
    → ((d : ℕ) → d < k → names P j (district d) ≡ true → (i : ℕ) × (i < size_of P) × (on_list (box_in n (d * size_of P + i)) j ≡ true))
    → finished P n j k ≡ true
unfolding finished done_in listed_in
finished_is P n j k f = all_is (done_in P n j) k (λ d h. go d h (look (names P j (district d))))
  where
    go : (d : ℕ) → d < k → (names P j (district d) ≡ true) ⊎ (names P j (district d) ≡ false)
        → not (names P j (district d)) || listed_in n j (d * size_of P) (size_of P) ≡ true
    go d h (inl m) =
        let z = f d h m in
        or_right
        (not (names P j (district d)))
        (listed_in n j (d * size_of P) (size_of P))
        (some_is (λ i. on_list (box_in n (d * size_of P + i)) j) (size_of P) z.0 z.1 z.2)
    go d h (inr m) = or_left (not (names P j (district d))) (listed_in n j (d * size_of P) (size_of P)) (not_off m)
