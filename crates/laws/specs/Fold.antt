-- Folds over the numbers below a bound and over a list from its front, and their for-all reading.
use Rattle.std.specs.Prelude.{ℕ, zero, suc, Bool, true, false, ◌&&◌, ◌||◌}

-- f for each number below n, from 0 up, beginning with s
abbrev pub upto : {S : Type 0} → (S → ℕ → S) → S → ℕ → S
upto f s zero = s
upto f s (suc n) = f (upto f s n) n

-- the test holds of every number below n
unfoldable pub all_below : (ℕ → Bool) → ℕ → Bool
all_below t n = upto (λ ok i. ok && t i) true n

-- the test holds of some number below n
unfoldable pub some_below : (ℕ → Bool) → ℕ → Bool
some_below t n = upto (λ ok i. ok || t i) false n
