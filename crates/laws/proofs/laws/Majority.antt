-- Laws of what specs/Majority.antt defines.
use Prim.Native.Nat.{ℕ, suc, ◌+◌, ◌≤◌, ◌<◌}
use mathlib.Core.Bool.{Bool, true, false}
use mathlib.Core.List.{List, [], ◌∷◌}
use mathlib.Core.Path.{◌≡◌, refl}
use native.Mathlib.Omega.{arith}
use lib.ListN.{length, get_or}
use Rattle.laws.specs.Majority.{majority}

abbrev pub flag : Bool → ℕ
flag true = 1
flag false = 0

-- how many flags are set
unfoldable pub count : List Bool → ℕ
count [] = 0
count (x ∷ xs) = flag x + count xs

-- a place that is set in both
pub record Shared (xs ys : List Bool) : Type 0 where
  pub place : ℕ
  pub inside : place < length xs
  pub one : get_or xs place false ≡ true
  pub two : get_or ys place false ≡ true

later : {x y : Bool} {xs ys : List Bool} → Shared xs ys → Shared (x ∷ xs) (y ∷ ys)
later s = record { place = suc s.place; inside = omega (arith, s.inside); one = s.one; two = s.two }

-- more flags than places: one place has two
meet : (xs ys : List Bool) → length xs ≡ length ys → length xs < count xs + count ys → Shared xs ys
unfolding count
meet [] [] e h = absurd (omega arith)
meet [] (y ∷ ys) e h = absurd (omega arith)
meet (x ∷ xs) [] e h = absurd (omega arith)
meet (true ∷ xs) (true ∷ ys) e h = record { place = 0; inside = omega arith; one = refl; two = refl }
meet (true ∷ xs) (false ∷ ys) e h = later (meet xs ys (omega arith) (omega arith))
meet (false ∷ xs) (true ∷ ys) e h = later (meet xs ys (omega arith) (omega arith))
meet (false ∷ xs) (false ∷ ys) e h = later (meet xs ys (omega arith) (omega arith))

-- two majorities of n meet
pub majorities_meet : (n : ℕ) (xs ys : List Bool) → length xs ≡ n → length ys ≡ n → majority n ≤ count xs → majority n ≤ count ys → Shared xs ys
unfolding majority
majorities_meet n xs ys ex ey hx hy = meet xs ys (omega arith) (omega arith)
