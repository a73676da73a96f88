-- Laws of what specs/Fold.antt defines.
use Prim.Native.Nat.{ℕ, zero, suc, ◌+◌, ◌<◌, ◌≤◌}
use mathlib.Core.Bool.{Bool, true, false, ◌&&◌, ◌||◌}
use mathlib.Core.List.{List, foldl, foldl-append}
use mathlib.Core.Logic.{◌⊎◌, inl, inr, ⊎_elim}
use mathlib.Core.Path.{◌≡◌, refl}
use native.Mathlib.Nat.{eq-or-lt_of_le}
use native.Mathlib.Numerals.{add-one}
use native.Mathlib.Omega.{arith}
use lib.ListN.{length, take, get_or}
use lib.Seq.{take-suc}
use Rattle.laws.proofs.laws.Choice.{and_left, and_right, and_both, or_cases, or_left, or_right, or_other, or_if, not_so}
use Rattle.laws.specs.Fold.{upto, all_below, some_below}
use lib.Dec.{ltb}
use borrow.Author.Tests.{ltb-false, le-ltb}

pub upto_step : {S : Type 0} (f : S → ℕ → S) (s : S) (n : ℕ) → f (upto f s n) n ≡ upto f s (n + 1)
upto_step f s n = rw add-one

-- what holds at the start, and is kept by each turn, holds at the end
pub upto_keeps : {S : Type 0} (Q : S → Type 0) (f : S → ℕ → S) (s : S) (n : ℕ) → Q s → ((x : S) (i : ℕ) → i < n → Q x → Q (f x i)) → Q (upto f s n)
upto_keeps Q f s zero q k = q
upto_keeps Q f s (suc n) q k = k (upto f s n) n (omega arith) (upto_keeps Q f s n q (λ x i h. k x i (omega arith)))

-- two turns that agree below the bound give the same
pub upto_same : {S : Type 0} (f g : S → ℕ → S) (s : S) (n : ℕ) → ((x : S) (i : ℕ) → i < n → f x i ≡ g x i) → upto f s n ≡ upto g s n
upto_same f g s zero h = refl
upto_same f g s (suc n) h = rw (upto_same f g s n (λ x i l. h x i (omega arith))) (h (upto g s n) n (omega arith))

pub all_step : (t : ℕ → Bool) (n : ℕ) → all_below t n && t n ≡ all_below t (n + 1)
unfolding all_below
all_step t n = upto_step (λ (ok : Bool) (i : ℕ). ok && t i) true n

pub all_says : (t : ℕ → Bool) (n : ℕ) → all_below t n ≡ true → (i : ℕ) → i < n → t i ≡ true
unfolding all_below
all_says t zero h i l = absurd (omega arith)
all_says t (suc n) h i l =
    ⊎_elim
    (λ e. rw e (and_right (all_below t n) (t n) h))
    (λ b. all_says t n (and_left (all_below t n) (t n) h) i b)
    (eq-or-lt_of_le {n = i} {m = n} (omega arith))

pub all_is : (t : ℕ → Bool) (n : ℕ) → ((i : ℕ) → i < n → t i ≡ true) → all_below t n ≡ true
unfolding all_below
all_is t zero h = refl
all_is t (suc n) h = and_both (all_below t n) (t n) (all_is t n (λ i l. h i (omega arith))) (h n (omega arith))

pub some_step : (t : ℕ → Bool) (n : ℕ) → some_below t n || t n ≡ some_below t (n + 1)
unfolding some_below
some_step t n = upto_step (λ (ok : Bool) (i : ℕ). ok || t i) false n

pub some_says : (t : ℕ → Bool) (n : ℕ) → some_below t n ≡ true → (i : ℕ) × (i < n) × (t i ≡ true)
unfolding some_below
some_says t zero h = let z : ◌≡◌ {A = ℕ} 0 1 = cc in absurd (omega arith)
some_says t (suc n) h = go (or_cases (some_below t n) (t n) h) (λ k. some_says t n k)
  where
    go : (some_below t n ≡ true) ⊎ (t n ≡ true) → (some_below t n ≡ true → (i : ℕ) × (i < n) × (t i ≡ true)) → (i : ℕ) × (i < suc n) × (t i ≡ true)
    go (inl k) r = let z = r k in let l = z.1 in (z.0, omega arith, z.2)
    go (inr k) r = (n, omega arith, k)

pub some_is : (t : ℕ → Bool) (n i : ℕ) → i < n → t i ≡ true → some_below t n ≡ true
unfolding some_below
some_is t zero i l h = absurd (omega arith)
some_is t (suc n) i l h =
    ⊎_elim
    (λ e. or_right (some_below t n) (t n) (rw e at h))
    (λ b. or_left (some_below t n) (t n) (some_is t n i b h))
    (eq-or-lt_of_le {n = i} {m = n} (omega arith))

-- one element more of a fold over a list
pub over_step : {S : Type 0} (f : S → ℕ → S) (s : S) (l : List ℕ) (i : ℕ) → i < length l → f (foldl f s (take i l)) (get_or l i 0) ≡ foldl f s (take (i + 1) l)
over_step f s l i h = rw (add-one, take-suc l i 0 h, foldl-append)

-- a test that holds of no number below n
pub none_below : (t : ℕ → Bool) (n : ℕ) → ((i : ℕ) → i < n → t i ≡ true → ⊥) → some_below t n ≡ false
none_below t n f = not_so (some_below t n) (λ h. let w = some_says t n h in f w.0 w.1 w.2)

-- a test that is asked from place n on
pub from_says : (t : ℕ → Bool) (n k : ℕ) → all_below (λ i. ltb i n || t i) k ≡ true → (i : ℕ) → n ≤ i → i < k → t i ≡ true
from_says t n k h i m l = or_other (ltb i n) (t i) (all_says (λ q. ltb q n || t q) k h i l) (le-ltb i n m)

pub from_is : (t : ℕ → Bool) (n k : ℕ) → ((i : ℕ) → n ≤ i → i < k → t i ≡ true) → all_below (λ i. ltb i n || t i) k ≡ true
from_is t n k f = all_is (λ i. ltb i n || t i) k (λ i l. or_if (ltb i n) (t i) (λ e. f i (ltb-false i n e) l))
