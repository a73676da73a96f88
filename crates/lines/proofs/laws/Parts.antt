-- A text in parts: what stands between the bytes that part it.
-- The words of a line are parted by spaces, the lines of an input by LF.
use Prim.Native.Nat.{ℕ}
use mathlib.Core.Bool.{Bool, not}
use mathlib.Core.List.{List}
use lib.Dec.{eqb}
use Rattle.lines.specs.Parts.{every}

-- no byte is c
abbrev pub without : ℕ → List ℕ → Bool
without c l = every (λ b. not (eqb b c)) l
