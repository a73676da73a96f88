-- Different numbers below a bound are not more than the bound.
-- Why a delivered list has room for one job more.
use Prim.Native.Nat.{ℕ, zero, suc, ◌≤◌, ◌<◌}
use mathlib.Core.Bool.{true, false}
use mathlib.Core.Logic.{◌⊎◌, inl, inr, ◌≢◌}
use mathlib.Core.Path.{◌≡◌, sym}
use native.Mathlib.Decide.{dec_lt}
use native.Mathlib.Omega.{arith}
use lib.Dec.{eqb}
use borrow.Author.Tests.{eqb-true, eqb-false, eq-eqb}
use Rattle.laws.proofs.laws.Choice.{look, never, pick_when}
use Rattle.laws.specs.Choice.{pick}
use Rattle.laws.specs.Fold.{some_below}
use Rattle.laws.proofs.laws.Fold.{some_says, some_is}

pub pigeon : (n c : ℕ) (f : ℕ → ℕ) → ((i : ℕ) → i < c → f i < n) → ((k i : ℕ) → k < i → i < c → f k ≢ f i) → c ≤ n
pigeon zero zero f low apart = omega arith
pigeon zero (suc c) f low apart = absurd (let h = low 0 (omega arith) in omega arith)
pigeon (suc n) zero f low apart = omega arith
pigeon (suc n) (suc c) f low apart = go (look (some_below (λ i. eqb (f i) n) (suc c))) (λ g l a. pigeon n c g l a) (λ g l a. pigeon n (suc c) g l a)
  where
    Pigeon : ℕ → Type 0
    Pigeon d = (g : ℕ → ℕ) → ((i : ℕ) → i < d → g i < n) → ((k i : ℕ) → k < i → i < d → g k ≢ g i) → d ≤ n

    -- without the place of n
    without : (i₀ : ℕ) → i₀ < suc c → f i₀ ≡ n → Pigeon c → suc c ≤ suc n
    without i₀ l₀ e₀ r = let h = r g g_low g_apart in omega arith
      where
        g : ℕ → ℕ
        g k = pick (eqb k i₀) (f c) (f k)

        differ : (k i : ℕ) → k < suc c → i < suc c → k ≢ i → f k ≢ f i
        differ k i lk li n = side (dec_lt k i)
          where
            side : Dec (k < i) → f k ≢ f i
            side (yes h) = apart k i h li
            side (no h) = λ e. apart i k (omega arith) lk (sym e)

        g_low : (i : ℕ) → i < c → g i < n
        g_low i h =
            pick_when (λ v. v < n) (eqb i i₀)
            (λ t. let q = eqb-true i i₀ t in let b = low c (omega arith) in let d = differ c i₀ (omega arith) l₀ (omega arith) in omega arith)
            (λ t. let q = eqb-false i i₀ t in let b = low i (omega arith) in let d = differ i i₀ (omega arith) l₀ q in omega arith)

        g_apart : (k i : ℕ) → k < i → i < c → g k ≢ g i
        g_apart k i h l =
            pick_when (λ v. v ≢ g i) (eqb k i₀)
            (λ t.
            pick_when
            (λ v. f c ≢ v)
            (eqb i i₀)
            (λ u. absurd (let a = eqb-true k i₀ t in let b = eqb-true i i₀ u in omega arith))
            (λ u. differ c i (omega arith) (omega arith) (omega arith)))
            (λ t. pick_when (λ v. f k ≢ v) (eqb i i₀) (λ u. differ k c (omega arith) (omega arith) (omega arith)) (λ u. apart k i h (omega arith)))

    go : (some_below (λ i. eqb (f i) n) (suc c) ≡ true) ⊎ (some_below (λ i. eqb (f i) n) (suc c) ≡ false) → Pigeon c → Pigeon (suc c) → suc c ≤ suc n
    go (inl t) r s = let z = some_says (λ i. eqb (f i) n) (suc c) t in without z.0 z.1 (eqb-true (f z.0) n z.2) r
    go (inr t) r s = let h = s f below apart in omega arith
      where
        below : (i : ℕ) → i < suc c → f i < n
        below i l = let h = low i l in let d : f i ≢ n = λ e. never (some_is (λ i. eqb (f i) n) (suc c) i l (eq-eqb (f i) n e)) t in omega arith
