-- A codec of fixed width: an element as bytes and back. Rows of it, and the pair of a number and one byte.
use Prim.Native.Nat.{ℕ, suc, ◌+◌, ◌-◌, ◌<◌}
use mathlib.Core.List.{List, [], ◌∷◌, ◌++◌, append_assoc}
use mathlib.Core.Path.{◌≡◌}
use native.Mathlib.Omega.{arith}
use lib.ListN.{length, set, replicate}
use lib.Seq.{set_at}

-- an array filled from its front: the next element
pub fill_step : {A : Type 0} (xs : List A) (n i : ℕ) (d a : A) → length xs ≡ i → i < n
    → set (xs ++ replicate (n - i) d) i a ≡ (xs ++ (a ∷ [])) ++ replicate (n - (i + 1)) d
fill_step xs n i d a e h =
    let k : n - i ≡ suc (n - (i + 1)) = omega arith in
    rw (k, set_at xs d (replicate (n - (i + 1)) d) a i e, append_assoc)
