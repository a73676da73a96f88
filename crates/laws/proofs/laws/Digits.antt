-- Laws of what specs/Digits.antt defines.
use Prim.Native.Nat.{ℕ, zero, suc, ◌+◌, ◌-◌, ◌*◌, ◌/◌, ◌%◌, ◌^◌, ◌≤◌, ◌<◌, max}
use mathlib.Core.Bool.{Bool, true, false}
use mathlib.Core.List.{List, [], ◌∷◌}
use mathlib.Core.Logic.{◌≢◌}
use mathlib.Core.Path.{◌≡◌, refl, sym, ap, ◌∙◌}
use native.Mathlib.Nat.{div-eq_of_lt, div-one, div-div-eq-div-mul, lt_of_lt_of_le, pow-suc, pow-zero, mul_comm, zero-mod, zero-div}
use native.Mathlib.Nat.{mod-lt}
use native.Mathlib.Omega.{arith}
use lib.ListN.{length, get_or}
use lib.Dec.{eqb, lit<}
use lib.Pow.{pow_mono, pow_pos, shr-shr, field, mod-mod-pow}
use lib.Bits.{bit_or, or_step, or_shr, or_zero_r}
use lib.Count.{ones, ones_step}
use borrow.Author.Tests.{eq-eqb}
use Rattle.laws.proofs.laws.Majority.{count, flag}
use Rattle.laws.specs.Digits.{digit, part, with_digit}

-- a number has no digit beyond its width
pub beyond : (n w i : ℕ) → n < 2 ^ w → w ≤ i → n / 2 ^ i ≡ 0
beyond n w i h l = div-eq_of_lt (lt_of_lt_of_le h (pow_mono l))

pub digit_beyond : (n w i : ℕ) → n < 2 ^ w → w ≤ i → digit n i ≡ false
unfolding digit
digit_beyond n w i h l = rw (beyond n w i h l)

pub part_beyond : (n w i k : ℕ) → n < 2 ^ w → w ≤ i → part n i k ≡ 0
unfolding part
part_beyond n w i k h l = rw (beyond n w i h l) (zero-mod (2 ^ k))

pub part_low : (n i k : ℕ) → part n i k < 2 ^ k
unfolding part
part_low n i k = mod-lt (n / 2 ^ i) (pow_pos k)

-- digit r of the part is digit i + r of the number
pub part_digit : (n i k r : ℕ) → r < k → digit (part n i k) r ≡ digit n (i + r)
unfolding digit part
part_digit n i k r h =
    let e : k - r ≡ (k - r - 1) + 1 = omega arith in
    let s : k ≡ (k - r) + r = omega arith in
    let f : n / 2 ^ i % 2 ^ k / 2 ^ r ≡ n / 2 ^ i / 2 ^ r % 2 ^ (k - r) = ap (λ (x : ℕ). n / 2 ^ i % 2 ^ x / 2 ^ r) s ∙ field (n / 2 ^ i) (k - r) r in
    let g : n / 2 ^ i / 2 ^ r % 2 ^ (k - r) % 2 ≡ n / 2 ^ i / 2 ^ r % 2 =
    ap (λ (x : ℕ). n / 2 ^ i / 2 ^ r % 2 ^ x % 2) e ∙ mod-mod-pow (n / 2 ^ i / 2 ^ r) (k - r - 1) 1 in
    rw (f, g, shr-shr n i r)

-- no digit of 0 is set
pub digit_zero : (i : ℕ) → digit 0 i ≡ false
unfolding digit
digit_zero i = rw (zero-div (2 ^ i))

-- the digits above the lowest
digit_suc : (n i : ℕ) → digit n (suc i) ≡ digit (n / 2) i
unfolding digit
digit_suc n i = rw (pow-suc, mul_comm (2 ^ i) 2, ← div-div-eq-div-mul n 2 (2 ^ i))

digit_none : (n : ℕ) → digit n 0 ≡ eqb (n % 2) 1
unfolding digit
digit_none n = rw (pow-zero, div-one)

half_pow : (i : ℕ) → 2 ^ suc i / 2 ≡ 2 ^ i
half_pow i = rw pow-suc (omega arith)

even_pow : (i : ℕ) → 2 ^ suc i % 2 ≡ 0
even_pow i = rw pow-suc (omega arith)

or_half : (a b : ℕ) → bit_or a b / 2 ≡ bit_or (a / 2) (b / 2)
or_half a b = or_shr a b 1

or_low : (a b : ℕ) → bit_or a b % 2 ≡ max (a % 2) (b % 2)
or_low a b = let e = or_step a b in let p = mod-lt a {m = 2} (lit< tt) in let q = mod-lt b {m = 2} (lit< tt) in omega (arith, e, p, q)

-- the digit that is set
pub digit_same : (n i : ℕ) → digit (with_digit n i) i ≡ true
unfolding with_digit
digit_same n zero = digit_none (bit_or n (2 ^ 0)) ∙ eq-eqb (bit_or n (2 ^ 0) % 2) 1 (or_low n 1 ∙ omega (arith, mod-lt n {m = 2} (lit< tt)))
digit_same n (suc i) = digit_suc (bit_or n (2 ^ suc i)) i ∙ rw (or_half n (2 ^ suc i), half_pow i) (digit_same (n / 2) i)

-- the others stay
pub digit_other : (n i j : ℕ) → j ≢ i → digit (with_digit n i) j ≡ digit n j
unfolding with_digit
digit_other n zero zero h = absurd (h refl)
digit_other n zero (suc j) h = digit_suc (bit_or n (2 ^ 0)) j ∙ rw (or_half n 1, or_zero_r (n / 2)) (sym (digit_suc n j))
digit_other n (suc i) zero h =
    let e : max (n % 2) 0 ≡ n % 2 = omega arith in
    digit_none (bit_or n (2 ^ suc i)) ∙ rw (or_low n (2 ^ suc i), even_pow i, e) (sym (digit_none n))
digit_other n (suc i) (suc j) h =
    digit_suc (bit_or n (2 ^ suc i)) j ∙ rw (or_half n (2 ^ suc i), half_pow i) (digit_other (n / 2) i j (λ e. h (ap suc e))) ∙ sym (digit_suc n j)

-- the lowest k digits as flags
unfoldable pub flags : ℕ → ℕ → List Bool
flags zero n = []
flags (suc k) n = eqb (n % 2) 1 ∷ flags k (n / 2)

pub flags_length : (k n : ℕ) → length (flags k n) ≡ k
unfolding flags
flags_length zero n = refl
flags_length (suc k) n = ap suc (flags_length k (n / 2))

pub flags_at : (k n i : ℕ) → i < k → get_or (flags k n) i false ≡ digit n i
unfolding flags
flags_at zero n i h = absurd (omega arith)
flags_at (suc k) n zero h = sym (digit_none n)
flags_at (suc k) n (suc i) h = flags_at k (n / 2) i (omega arith) ∙ sym (digit_suc n i)

flag_low : (n : ℕ) → flag (eqb (n % 2) 1) ≡ n % 2
flag_low n = go (n % 2) (mod-lt n {m = 2} (lit< tt))
  where
    go : (m : ℕ) → m < 2 → flag (eqb m 1) ≡ m
    go zero h = refl
    go (suc zero) h = refl
    go (suc (suc m)) h = absurd (omega arith)

-- the count of ones of a part is the count of its flags
pub flags_ones : (k n : ℕ) → n < 2 ^ k → count (flags k n) ≡ ones n
unfolding flags count ones
flags_ones zero n h = let e : n ≡ 0 = omega arith in rw e
flags_ones (suc k) n h =
    let l : n / 2 < 2 ^ k = let q : n < 2 ^ k * 2 = rw pow-suc at h in omega arith in
    rw (flag_low n, flags_ones k (n / 2) l) (sym (ones_step n))
