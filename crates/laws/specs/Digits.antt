-- A number's binary digits as flags: asked, set, cut to a part and counted; and a part's flags as a list.
use Rattle.std.specs.Prelude.{ℕ, ◌/◌, ◌%◌, ◌^◌, Bool, eqb}
use Rattle.std.specs.Int.Bits.{bit_or}

-- digit i of n is set
unfoldable pub digit : ℕ → ℕ → Bool
digit n i = eqb (n / 2 ^ i % 2) 1

-- the k digits of n from digit i on
unfoldable pub part : ℕ → ℕ → ℕ → ℕ
part n i k = n / 2 ^ i % 2 ^ k

-- n with digit i set
unfoldable pub with_digit : ℕ → ℕ → ℕ
with_digit n i = bit_or n (2 ^ i)
