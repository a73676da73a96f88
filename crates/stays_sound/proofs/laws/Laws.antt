-- Laws that speak of no box: distinct numbers below a bound, and one digit set.
use Prim.Native.Nat.{ℕ, zero, suc, ◌+◌, ◌-◌, ◌*◌, ◌/◌, ◌%◌, ◌^◌, ◌≤◌, ◌<◌}
use mathlib.Core.Bool.{true, false}
use mathlib.Core.Logic.{◌⊎◌, inl, inr, ◌≢◌}
use mathlib.Core.Path.{◌≡◌, refl, sym, ap, ◌∙◌}
use native.Mathlib.Decide.{ℕ_discrete}
use native.Mathlib.Nat.{div-eq_of_lt, mul-mod_left, mul-le-mul_right, suc-mul}
use native.Mathlib.Omega.{arith}
use lib.Dec.{eqb}
use lib.Pow.{pow-lt, pow-add, shl-shr}
use lib.Bits.{or_lt, or_shr, or_mod, or_zero_r}
use borrow.Author.Tests.{eqb-true, eq-eqb, ne_eqb}
use Rattle.laws.specs.Choice.{pick}
use Rattle.laws.proofs.laws.Choice.{pick_true, pick_false, look, never}
use Rattle.laws.specs.Fold.{some_below}
use Rattle.laws.proofs.laws.Fold.{some_says, some_is}
use Rattle.laws.specs.Digits.{part, with_digit}

-- ---- numbers

-- n numbers below m, no two the same, are at most m
pub distinct_most : (m n : ℕ) (f : ℕ → ℕ) → ((i : ℕ) → i < n → f i < m) → ((i k : ℕ) → i < n → k < n → f i ≡ f k → i ≡ k) → n ≤ m
distinct_most zero zero f low once = omega arith
distinct_most zero (suc n) f low once = absurd (omega (arith, low 0 (omega arith)))
distinct_most (suc m) n f low once = go (look (some_below (λ i. eqb (f i) m) n)) (λ k g. distinct_most m k g)
  where
    -- f without place i: the last number stands in for it
    moved : ℕ → ℕ → ℕ
    moved i k = pick (eqb k i) (f (n - 1)) (f k)

    here : (i : ℕ) → moved i i ≡ f (n - 1)
    here i = pick_true (f (n - 1)) (f i) (eq-eqb i i refl)

    there : (i k : ℕ) → k ≢ i → moved i k ≡ f k
    there i k h = pick_false (f (n - 1)) (f k) (ne_eqb k i h)

    less : (i k : ℕ) → i < n → f i ≡ m → k < n - 1 → Dec (k ≡ i) → moved i k < m
    less i k l e h (yes q) =
        let z = low (n - 1) (omega arith) in
        let d : f (n - 1) ≢ m = λ s. let t = once (n - 1) i (omega arith) l (s ∙ sym e) in absurd (omega arith) in
        rw (q, here i) (omega arith)
    less i k l e h (no q) =
        let z = low k (omega arith) in
        let d : f k ≢ m = λ s. q (once k i (omega arith) l (s ∙ sym e)) in
        rw (there i k q) (omega arith)

    apart : (i a b : ℕ) → i < n → a < n - 1 → b < n - 1 → moved i a ≡ moved i b → Dec (a ≡ i) → Dec (b ≡ i) → a ≡ b
    apart i a b l ha hb e (yes p) (yes q) = p ∙ sym q
    apart i a b l ha hb e (yes p) (no q) =
        let t = once (n - 1) b (omega arith) (omega arith) (sym (here i) ∙ ap (moved i) (sym p) ∙ e ∙ there i b q) in absurd (omega arith)
    apart i a b l ha hb e (no p) (yes q) =
        let t = once (n - 1) a (omega arith) (omega arith) (sym (here i) ∙ ap (moved i) (sym q) ∙ sym e ∙ there i a p) in absurd (omega arith)
    apart i a b l ha hb e (no p) (no q) = once a b (omega arith) (omega arith) (sym (there i a p) ∙ e ∙ there i b q)

    go : (some_below (λ i. eqb (f i) m) n ≡ true) ⊎ (some_below (λ i. eqb (f i) m) n ≡ false)
        → ((k : ℕ) (g : ℕ → ℕ) → ((i : ℕ) → i < k → g i < m) → ((a b : ℕ) → a < k → b < k → g a ≡ g b → a ≡ b) → k ≤ m)
        → n ≤ suc m
    go (inl h) again =
        let w = some_says (λ i. eqb (f i) m) n h in
        let e = eqb-true (f w.0) m w.2 in
        let r = again (n - 1) (moved w.0) (λ k l. less w.0 k w.1 e l (ℕ_discrete k w.0))
        (λ a b ha hb q. apart w.0 a b w.1 ha hb q (ℕ_discrete a w.0) (ℕ_discrete b w.0)) in
        omega arith
    go (inr h) again =
        let r =
        again n f (λ i l. let z = low i l in let d : f i ≢ m = λ s. never (some_is (λ k. eqb (f k) m) n i l (eq-eqb (f i) m s)) h in omega arith) once in
        omega arith

-- the next multiple is not beyond a later one
pub next_multiple : (a c k : ℕ) → a < c → a * k + k ≤ c * k
next_multiple a c k h = let m = mul-le-mul_right {m = suc a} {n = c} k h in let e = suc-mul a k in omega arith

-- ---- digits

pub with_digit_low : (n w i : ℕ) → n < 2 ^ w → i < w → with_digit n i < 2 ^ w
unfolding with_digit
with_digit_low n w i h l = or_lt w n (2 ^ i) h (pow-lt l)

-- a digit outside a part does not change the part
pub part_below : (n i a k : ℕ) → i < a → part (with_digit n i) a k ≡ part n a k
unfolding with_digit part
part_below n i a k h = rw (or_shr n (2 ^ i) a, div-eq_of_lt (pow-lt h), or_zero_r (n / 2 ^ a))

pub part_above : (n i a k : ℕ) → a + k ≤ i → part (with_digit n i) a k ≡ part n a k
unfolding with_digit part
part_above n i a k h =
    let e : i ≡ (i - a - k + k) + a = omega arith in
    let s : 2 ^ i / 2 ^ a ≡ 2 ^ (i - a - k) * 2 ^ k =
    ap (λ (x : ℕ). 2 ^ x / 2 ^ a) e ∙ rw (pow-add 2 (i - a - k + k) a, shl-shr (2 ^ (i - a - k + k)) a) (pow-add 2 (i - a - k) k) in
    rw (or_shr n (2 ^ i) a, s, or_mod (n / 2 ^ a) (2 ^ (i - a - k) * 2 ^ k) k, mul-mod_left, or_zero_r (n / 2 ^ a % 2 ^ k))
