-- How long the texts are: a byte has at most three digits, a u32 at most ten.
-- A writer's caller asks for that much room.
use Prim.Native.Nat.{ℕ, ◌<◌, ◌≤◌}
use native.Mathlib.Omega.{arith}
use lib.ListN.{length}
use Rattle.lines.specs.Numeral.{decimal}
use Rattle.lines.proofs.laws.NumeralLaws.{decimal_short}

-- a byte has at most three digits
pub byte_short : (n : ℕ) → n < 256 → length (decimal n) ≤ 3
byte_short n h = decimal_short 2 n (omega arith)
