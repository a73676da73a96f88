-- Strong induction on a number: what follows from all smaller ones holds of each.
use Prim.Native.Nat.{ℕ, zero, suc, ◌<◌}
use native.Mathlib.Omega.{arith}

below_all : (Q : ℕ → Type 0) → ((n : ℕ) → ((k : ℕ) → k < n → Q k) → Q n) → (n k : ℕ) → k < n → Q k
below_all Q f zero k h = absurd (omega arith)
below_all Q f (suc n) k h = f k (λ j g. below_all Q f n j (omega arith))

pub strong : (Q : ℕ → Type 0) → ((n : ℕ) → ((k : ℕ) → k < n → Q k) → Q n) → (n : ℕ) → Q n
strong Q f n = f n (below_all Q f n)
