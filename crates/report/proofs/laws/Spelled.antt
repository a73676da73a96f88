-- What `io::decimal` writes is `decimal`:
-- the fewest digits that a number needs are its digits.
use Prim.Native.Nat.{ℕ, zero, suc, ◌+◌, ◌-◌, ◌*◌, ◌/◌, ◌%◌, ◌^◌, ◌<◌, ◌≤◌}
use mathlib.Core.Bool.{Bool, true, false}
use mathlib.Core.List.{List, [], ◌∷◌, ◌++◌}
use mathlib.Core.Path.{◌≡◌, refl, ap}
use native.Mathlib.Nat.{pow-suc, pow-le-pow_right, div-lt_iff_lt-mul, mod-eq_of_lt}
use native.Mathlib.Numerals.{unary_clauses}
use native.Mathlib.Omega.{arith}
use lib.Dec.{leb, lit<}
use borrow.Author.Tests.{lt-ltb, le-ltb, leb-true, leb-false}
use Rattle.io.specs.Digits.{last_digits, IsDigitCount, hex_digit_ascii}
use Rattle.laws.specs.Choice.{pick}
use Rattle.lines.specs.Numeral.{in_digits, decimal}

glyph_digit : (d : ℕ) → d < 10 → hex_digit_ascii d ≡ 48 + d
glyph_digit d h = rw (lt-ltb d 10 h)

-- k digits are enough and no fewer are: they are the digits
digits_are : (k f n : ℕ) → IsDigitCount 10 1 n k → k ≤ f → last_digits 10 k n ≡ in_digits f n
unfolding in_digits pick
digits_are zero f n w h = absurd (omega (arith, w.0))
digits_are (suc k) zero n w h = absurd (omega arith)
digits_are (suc zero) (suc f) n w h =
    let s : n < 10 = w.1 in
    rw (lt-ltb n 10 s, mod-eq_of_lt s, glyph_digit n s)
digits_are (suc (suc k)) (suc f) n w h =
    let p : 10 ^ k * 10 ≤ n = simp unary_clauses at (w.2 (omega arith)) in
    let q : 1 ≤ 10 ^ k = pow-le-pow_right {n = 10} (lit< tt) {i = 0} {j = k} (omega arith) in
    let u : n / 10 < 10 ^ suc k = (div-lt_iff_lt-mul (lit< tt)).1 (rw pow-suc at w.1) in
    let v : 1 < suc k → 10 ^ (suc k - 1) ≤ n / 10 = λ b. simp unary_clauses (let z : 10 ^ k ≤ n / 10 = omega arith in z) in
    rw (le-ltb n 10 (omega arith), glyph_digit (n % 10) (omega arith))
    (ap (λ (l : List ℕ). l ++ ((48 + n % 10) ∷ [])) (digits_are (suc k) f (n / 10) (omega arith, u, v) (omega arith)))

-- ten digits are enough below ten thousand million
at_most_ten : (n k : ℕ) → n < 10000000000 → IsDigitCount 10 1 n k → k ≤ 10
at_most_ten n k h w = go (leb k 10) refl
  where
    go : (t : Bool) → leb k 10 ≡ t → k ≤ 10
    go true e = leb-true k 10 e
    go false e =
        let g : 10 < k = leb-false k 10 e in
        let p : 10000000000 ≤ 10 ^ (k - 1) = pow-le-pow_right {n = 10} (lit< tt) {i = 10} {j = k - 1} (omega arith) in
        let q : 10 ^ (k - 1) ≤ n = w.2 (omega arith) in
        absurd (omega arith)

pub fewest_decimal : (n k : ℕ) → n < 10000000000 → IsDigitCount 10 1 n k → last_digits 10 k n ≡ decimal n
unfolding decimal
fewest_decimal n k h w = digits_are k 10 n w (at_most_ten n k h w)
