-- Numbers as text: what a number is that is read, and how a number is written.
-- A digit is a byte 30 to 39 hex.
use Rattle.std.specs.Prelude.{ℕ, zero, suc, ◌+◌, ◌-◌, ◌*◌, ◌/◌, ◌%◌, Bool, ◌&&◌, length, leb, ltb}
use mathlib.Core.List.{List, [], ◌∷◌, ◌++◌, foldl}
use Rattle.laws.specs.Choice.{pick}
use Rattle.lines.specs.Parts.{every}

-- the digits, in ASCII
abbrev pub is_digit : ℕ → Bool
is_digit b = leb 48 b && leb b 57

abbrev pub all_digits : List ℕ → Bool
all_digits l = every is_digit l

-- numbers have 1 to 9 digits
unfoldable pub is_number : List ℕ → Bool
is_number l = (leb 1 (length l) && leb (length l) 9) && all_digits l

-- the number that digits write
unfoldable pub value_of : List ℕ → ℕ
value_of l = foldl (λ v b. v * 10 + (b - 48)) 0 l

-- n in digits, at most f of them: the last one behind those of n / 10
unfoldable pub in_digits : ℕ → ℕ → List ℕ
in_digits zero n = []
in_digits (suc f) n = pick (ltb n 10) ((48 + n) ∷ []) (in_digits f (n / 10) ++ ((48 + n % 10) ∷ []))

-- a number as it is written; every u32 has at most 10 digits
unfoldable pub decimal : ℕ → List ℕ
decimal n = in_digits 10 n
