-- Numbers as bytes, big end first, over any width, and back.
use Rattle.std.specs.Prelude.{ℕ, zero, suc, ◌+◌, ◌*◌, ◌/◌, ◌%◌, ◌^◌, ◌<◌, ◌≤◌, List, [], ◌∷◌, ◌++◌, ◌≡◌, refl, length, take, get_or}
use Rattle.std.proofs.Common.{append_assoc, sym, ◌∙◌, pow-suc, div-lt_iff_lt-mul, arith, length-append, lit<, take-suc}
use Rattle.std.proofs.lemmas.List.{get_or_at}

-- the last w bytes of n, the highest first
abbrev pub big_end : ℕ → ℕ → List ℕ
big_end zero n = []
big_end (suc w) n = big_end w (n / 256) ++ (n % 256 ∷ [])

-- the number that the first w + 1 bytes of s write
abbrev pub number : ℕ → List ℕ → ℕ
number zero s = get_or s 0 0
number (suc w) s = number w s * 256 + get_or s (suc w) 0

-- every element is a byte
abbrev pub Bytes : List ℕ → Type 0
Bytes s = (i : ℕ) → get_or s i 0 < 256

pub big_end_length : (w n : ℕ) → length (big_end w n) ≡ w
big_end_length zero n = refl
big_end_length (suc w) n = length-append (big_end w (n / 256)) (n % 256 ∷ []) ∙ rw (big_end_length w (n / 256)) (omega arith)

-- reading what was written
pub number_big_end : (w n : ℕ) (more : List ℕ) → n < 256 ^ suc w → number w (big_end (suc w) n ++ more) ≡ n
number_big_end zero n more h = omega arith
number_big_end (suc w) n more h =
    let high : n / 256 < 256 ^ suc w = (div-lt_iff_lt-mul (lit< tt)).1 (rw pow-suc at h) in
    let front = big_end (suc w) (n / 256) in
    rw (
      append_assoc front (n % 256 ∷ []) more,
      number_big_end w (n / 256) ((n % 256 ∷ []) ++ more) high,
      get_or_at front (n % 256) more 0 (suc w) (big_end_length (suc w) (n / 256)),
    )
    (omega arith)

-- writing what was read
pub big_end_number : (w : ℕ) (s : List ℕ) → Bytes s → suc w ≤ length s → big_end (suc w) (number w s) ≡ take (suc w) s
big_end_number zero s b h =
    let low : get_or s 0 0 % 256 ≡ get_or s 0 0 = omega (arith, b 0) in
    rw low (sym (take-suc s 0 0 h))
big_end_number (suc w) s b h =
    let x = b (suc w) in
    let high : (number w s * 256 + get_or s (suc w) 0) / 256 ≡ number w s = omega arith in
    let low : (number w s * 256 + get_or s (suc w) 0) % 256 ≡ get_or s (suc w) 0 = omega arith in
    rw (high, low, big_end_number w s b (omega arith)) (sym (take-suc s (suc w) 0 h))
