-- Laws of `Numeral`: what is known of a number that is read, how long a written one is,
-- and that a number is read as it is written.
use Prim.Native.Nat.{ℕ, zero, suc, ◌+◌, ◌-◌, ◌*◌, ◌/◌, ◌%◌, ◌^◌, ◌<◌, ◌≤◌}
use mathlib.Core.Bool.{true, false, not, ◌&&◌}
use mathlib.Core.List.{List, [], ◌∷◌, ◌++◌, foldl-append}
use mathlib.Core.Path.{◌≡◌, refl, sym, ◌∙◌, ap}
use native.Mathlib.Nat.{pow-suc, pow-le-pow_right, div-lt_iff_lt-mul}
use native.Mathlib.Omega.{arith}
use lib.ListN.{length, get_or, length-append}
use lib.Dec.{leb, ltb, eqb, lit<, lit≤}
use borrow.Author.Tests.{le-leb, leb-true, ltb-true, ltb-false, ne_eqb}
use Rattle.laws.proofs.laws.Choice.{pick_when, never, and_left, and_right, not_off}
use Rattle.lines.specs.Parts.{space, every}
use Rattle.lines.proofs.laws.Parts.{without}
use Rattle.lines.proofs.laws.PartLaws.{every_append, every_one, every_at, every_weaker}
use Rattle.lines.specs.Numeral.{is_digit, all_digits, is_number, value_of, in_digits, decimal}

-- digits alone have no other byte among them
pub digits_without : (c : ℕ) (l : List ℕ) → is_digit c ≡ false → all_digits l ≡ true → without c l ≡ true
digits_without c l n h =
    every_weaker is_digit (λ b. not (eqb b c)) l (λ b d. not_off (ne_eqb b c (λ z. never (ap is_digit (sym z) ∙ d) n))) h

-- a number has no space
pub number_solid : (l : List ℕ) → is_number l ≡ true → without space l ≡ true
unfolding is_number
number_solid l h = digits_without space l refl (and_right (leb 1 (length l) && leb (length l) 9) (all_digits l) h)

-- each byte of a number is a digit, and there are at most nine
pub number_digit : (l : List ℕ) (i : ℕ) → is_number l ≡ true → i < length l → (48 ≤ get_or l i 0) × (get_or l i 0 ≤ 57)
unfolding is_number
number_digit l i h k =
    let d = every_at is_digit l i (and_right (leb 1 (length l) && leb (length l) 9) (all_digits l) h) k in
    (leb-true 48 _ (and_left (leb 48 (get_or l i 0)) (leb (get_or l i 0) 57) d), leb-true _ 57 (and_right (leb 48 (get_or l i 0)) (leb (get_or l i 0) 57) d))

pub number_nine : (l : List ℕ) → is_number l ≡ true → length l ≤ 9
unfolding is_number
number_nine l h =
    leb-true (length l) 9 (and_right (leb 1 (length l)) (leb (length l) 9) (and_left (leb 1 (length l) && leb (length l) 9) (all_digits l) h))

-- before each digit there are at most eight
pub nine_digits : (l : List ℕ) (i : ℕ) → is_number l ≡ true → i < length l → 10 ^ i ≤ 100000000
nine_digits l i h k = let n = number_nine l h in pow-le-pow_right {n = 10} (lit< tt) {i = i} {j = 8} (omega arith)

-- what holds of one digit, and of the digits of n / 10 with one behind, holds of the digits of n
in_digits_lem : (Q : List ℕ → Type 0) (f n : ℕ) → (n < 10 → Q ((48 + n) ∷ [])) → (10 ≤ n → Q (in_digits f (n / 10) ++ ((48 + n % 10) ∷ [])))
    → Q (in_digits (suc f) n)
unfolding in_digits
in_digits_lem Q f n p q = pick_when Q (ltb n 10) (λ e. p (ltb-true n 10 e)) (λ e. q (ltb-false n 10 e))

digit_is : (d : ℕ) → d < 10 → is_digit (48 + d) ≡ true
digit_is d h = rw (le-leb 48 (48 + d) (omega arith), le-leb (48 + d) 57 (omega arith))

digits_all : (f n : ℕ) → all_digits (in_digits f n) ≡ true
unfolding in_digits every
digits_all zero n = refl
digits_all (suc f) n =
    in_digits_lem (λ (l : List ℕ). all_digits l ≡ true) f n
    (λ h. every_one is_digit (48 + n) ∙ digit_is n h)
    (λ h.
    every_append is_digit (in_digits f (n / 10)) ((48 + n % 10) ∷ [])
    ∙ rw (digits_all f (n / 10)) (every_one is_digit (48 + n % 10) ∙ digit_is (n % 10) (omega arith)))

digits_value : (f n : ℕ) → n < 10 ^ f → value_of (in_digits f n) ≡ n
unfolding in_digits value_of
digits_value zero n h = omega arith
digits_value (suc f) n h =
    in_digits_lem (λ (l : List ℕ). value_of l ≡ n) f n
    (λ k. omega arith)
    (λ k.
    foldl-append (λ (v b : ℕ). v * 10 + (b - 48)) 0 (in_digits f (n / 10)) ((48 + n % 10) ∷ [])
    ∙ rw (digits_value f (n / 10) ((div-lt_iff_lt-mul (lit< tt)).1 (rw pow-suc at h))) (omega arith))

digits_some : (f n : ℕ) → 1 ≤ length (in_digits (suc f) n)
digits_some f n =
    in_digits_lem (λ (l : List ℕ). 1 ≤ length l) f n (λ h. lit≤ tt) (λ h. rw length-append (omega arith))

digits_short : (k f n : ℕ) → n < 10 ^ suc k → length (in_digits f n) ≤ suc k
unfolding in_digits
digits_short k zero n h = omega arith
digits_short zero (suc f) n h =
    in_digits_lem (λ (l : List ℕ). length l ≤ 1) f n (λ b. lit≤ tt) (λ b. let z : n < 10 = h in absurd (omega arith))
digits_short (suc k) (suc f) n h =
    in_digits_lem (λ (l : List ℕ). length l ≤ suc (suc k)) f n (λ b. omega arith)
    (λ b. let i = digits_short k f (n / 10) ((div-lt_iff_lt-mul (lit< tt)).1 (rw pow-suc at h)) in rw length-append (omega arith))

digits_most : (f n : ℕ) → length (in_digits f n) ≤ f
unfolding in_digits
digits_most zero n = lit≤ tt
digits_most (suc f) n =
    in_digits_lem (λ (l : List ℕ). length l ≤ suc f) f n (λ b. omega arith) (λ b. let i = digits_most f (n / 10) in rw length-append (omega arith))

-- how long a written number is
pub decimal_most : (n : ℕ) → length (decimal n) ≤ 10
unfolding decimal
decimal_most n = digits_most 10 n

pub decimal_short : (k n : ℕ) → n < 10 ^ suc k → length (decimal n) ≤ suc k
unfolding decimal
decimal_short k n h = digits_short k 10 n h

-- a written number is digits alone
pub decimal_digits : (n : ℕ) → all_digits (decimal n) ≡ true
unfolding decimal
decimal_digits n = digits_all 10 n

-- a number below a thousand million is read as written
pub number_decimal : (n : ℕ) → n < 1000000000 → is_number (decimal n) ≡ true
unfolding is_number decimal
number_decimal n h =
    rw (le-leb 1 (length (in_digits 10 n)) (digits_some 9 n), le-leb (length (in_digits 10 n)) 9 (digits_short 8 10 n h), digits_all 10 n)

pub value_decimal : (n : ℕ) → n < 10000000000 → value_of (decimal n) ≡ n
unfolding decimal
value_decimal n h = digits_value 10 n h
