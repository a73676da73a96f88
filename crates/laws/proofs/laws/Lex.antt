-- Laws of what specs/Lex.antt defines.
use Prim.Native.Nat.{ℕ, suc, ◌+◌, ◌*◌, ◌≤◌, ◌<◌}
use mathlib.Core.Bool.{Bool, true, false, ◌&&◌}
use mathlib.Core.List.{List, [], ◌∷◌}
use mathlib.Core.Logic.{◌⊎◌, inl, inr, ◌≢◌}
use mathlib.Core.Path.{◌≡◌, refl, sym}
use native.Mathlib.Nat.{mul-le-mul_right, suc-mul}
use native.Mathlib.Omega.{arith}
use lib.Dec.{ltb, eqb}
use borrow.Author.Tests.{ltb-true, ltb-false, eqb-true, lt-ltb, le-ltb, eq-eqb}
use Rattle.laws.proofs.laws.Choice.{pick_when, look, never, or_cases, or_left, or_right, and_left, and_right, and_both}
use Rattle.laws.specs.Place.{In}
use Rattle.laws.proofs.laws.Place.{in_head, in_nil}
use Rattle.laws.specs.Lex.{lex_lt, lex_eq, Three, less, same, more, Order, larger, largest}

-- what the test says
pub data Below (a b c d : ℕ) : Type 0 where
  first : a < c → Below a b c d
  second : a ≡ c → b < d → Below a b c d

pub lex_below : (a b c d : ℕ) → lex_lt a b c d ≡ true → Below a b c d
lex_below a b c d e = go (or_cases (ltb a c) (eqb a c && ltb b d) e)
  where
    go : (ltb a c ≡ true) ⊎ ((eqb a c && ltb b d) ≡ true) → Below a b c d
    go (inl h) = first (ltb-true a c h)
    go (inr h) = second (eqb-true a c (and_left (eqb a c) (ltb b d) h)) (ltb-true b d (and_right (eqb a c) (ltb b d) h))

pub below_lex : (a b c d : ℕ) → Below a b c d → lex_lt a b c d ≡ true
below_lex a b c d (first h) = or_left (ltb a c) (eqb a c && ltb b d) (lt-ltb a c h)
below_lex a b c d (second e h) = or_right (ltb a c) (eqb a c && ltb b d) (and_both (eqb a c) (ltb b d) (eq-eqb a c e) (lt-ltb b d h))

below_trans : {a b c d e f : ℕ} → Below a b c d → Below c d e f → Below a b e f
below_trans (first h) (first k) = first (omega arith)
below_trans (first h) (second i k) = first (omega arith)
below_trans (second i h) (first k) = first (omega arith)
below_trans (second i h) (second j k) = second (omega arith) (omega arith)

-- the instance for any type of two numbers
module _ (A : Type 0) (f g : A → ℕ) (ext : (a b : A) → f a ≡ f b → g a ≡ g b → a ≡ b) (none : A) (f_none : f none ≡ 0) (g_none : g none ≡ 0) where
  lt_trans : (a b c : A) → lex_lt (f a) (g a) (f b) (g b) ≡ true → lex_lt (f b) (g b) (f c) (g c) ≡ true → lex_lt (f a) (g a) (f c) (g c) ≡ true
  lt_trans a b c p q = below_lex (f a) (g a) (f c) (g c) (below_trans (lex_below (f a) (g a) (f b) (g b) p) (lex_below (f b) (g b) (f c) (g c) q))

  lt_irrefl : (a : A) → lex_lt (f a) (g a) (f a) (g a) ≡ false
  lt_irrefl a = rw (le-ltb (f a) (f a) (omega arith), eq-eqb (f a) (f a) refl, le-ltb (g a) (g a) (omega arith))

  lt_lowest : (a : A) → lex_lt (f a) (g a) (f none) (g none) ≡ false
  lt_lowest a = go (look (lex_lt (f a) (g a) (f none) (g none)))
    where
      out : Below (f a) (g a) (f none) (g none) → lex_lt (f a) (g a) (f none) (g none) ≡ false
      out (first h) = absurd (omega arith)
      out (second e h) = absurd (omega arith)

      go : (lex_lt (f a) (g a) (f none) (g none) ≡ true) ⊎ (lex_lt (f a) (g a) (f none) (g none) ≡ false) → lex_lt (f a) (g a) (f none) (g none) ≡ false
      go (inl h) = out (lex_below (f a) (g a) (f none) (g none) h)
      go (inr h) = h

  lt_three : (a b : A) → Three A (λ x y. lex_lt (f x) (g x) (f y) (g y)) a b
  lt_three a b = go (look (ltb (f a) (f b))) (look (ltb (f b) (f a))) (look (ltb (g a) (g b))) (look (ltb (g b) (g a)))
    where
      go : (ltb (f a) (f b) ≡ true) ⊎ (ltb (f a) (f b) ≡ false) → (ltb (f b) (f a) ≡ true) ⊎ (ltb (f b) (f a) ≡ false)
          → (ltb (g a) (g b) ≡ true) ⊎ (ltb (g a) (g b) ≡ false) → (ltb (g b) (g a) ≡ true) ⊎ (ltb (g b) (g a) ≡ false)
          → Three A (λ x y. lex_lt (f x) (g x) (f y) (g y)) a b
      go (inl h) _ _ _ = less (below_lex (f a) (g a) (f b) (g b) (first (ltb-true (f a) (f b) h)))
      go (inr h) (inl k) _ _ = more (below_lex (f b) (g b) (f a) (g a) (first (ltb-true (f b) (f a) k)))
      go (inr h) (inr k) (inl u) _ = less (below_lex (f a) (g a) (f b) (g b) (second (omega (arith, ltb-false)) (ltb-true (g a) (g b) u)))
      go (inr h) (inr k) (inr u) (inl v) = more (below_lex (f b) (g b) (f a) (g a) (second (omega (arith, ltb-false)) (ltb-true (g b) (g a) v)))
      go (inr h) (inr k) (inr u) (inr v) = same (ext a b (omega (arith, ltb-false)) (omega (arith, ltb-false)))

  pub lex_order : Order A (λ a b. lex_lt (f a) (g a) (f b) (g b)) (λ a b. lex_eq (f a) (g a) (f b) (g b)) none
  lex_order =
      record {
        trans = lt_trans;
        irrefl = lt_irrefl;
        three = lt_three;
        eq_says =
            λ a b h.
            ext
            a
            b
            (eqb-true (f a) (f b) (and_left (eqb (f a) (f b)) (eqb (g a) (g b)) h))
            (eqb-true (g a) (g b) (and_right (eqb (f a) (f b)) (eqb (g a) (g b)) h));
        eq_is = λ a. and_both (eqb (f a) (f a)) (eqb (g a) (g a)) (eq-eqb (f a) (f a) refl) (eq-eqb (g a) (g a) refl);
        lowest = lt_lowest;
      }

-- consequences, for any such order
module _ {A : Type 0} {lt eq : A → A → Bool} {none : A} (O : Order A lt eq none) where
  -- below and not above at once
  pub lt_asym : (a b : A) → lt a b ≡ true → lt b a ≡ false
  lt_asym a b p = go (look (lt b a))
    where
      go : (lt b a ≡ true) ⊎ (lt b a ≡ false) → lt b a ≡ false
      go (inl q) = never (O.trans a b a p q) (O.irrefl a)
      go (inr q) = q

  -- not above and not the same is below
  pub lt_or_eq : (a b : A) → lt b a ≡ false → (lt a b ≡ true) ⊎ (a ≡ b)
  lt_or_eq a b n = go (O.three a b)
    where
      go : Three A lt a b → (lt a b ≡ true) ⊎ (a ≡ b)
      go (less h) = inl h
      go (same e) = inr e
      go (more h) = never h n

  -- not above, then not above
  pub le_trans : (a b c : A) → lt b a ≡ false → lt c b ≡ false → lt c a ≡ false
  le_trans a b c p q = go (look (lt c a)) (lt_or_eq a b p)
    where
      go : (lt c a ≡ true) ⊎ (lt c a ≡ false) → (lt a b ≡ true) ⊎ (a ≡ b) → lt c a ≡ false
      go (inr h) _ = h
      go (inl h) (inl k) = never (O.trans c a b h k) q
      go (inl h) (inr e) = never (rw e at h) q

  pub le_lt : (a b c : A) → lt b a ≡ false → lt b c ≡ true → lt a c ≡ true
  le_lt a b c p q = go (lt_or_eq a b p)
    where
      go : (lt a b ≡ true) ⊎ (a ≡ b) → lt a c ≡ true
      go (inl h) = O.trans a b c h q
      go (inr e) = rw e q

  -- none is below everything else
  pub above_none : (a : A) → a ≢ none → lt none a ≡ true
  above_none a n = go (O.three none a)
    where
      go : Three A lt none a → lt none a ≡ true
      go (less h) = h
      go (same e) = absurd (n (sym e))
      go (more h) = never h (O.lowest a)

  pub eq_decides : (a b : A) → eq a b ≡ false → a ≢ b
  eq_decides a b h e = never (rw e (O.eq_is b)) h

  -- the larger of two is one of them and below neither
  pub larger_left : (a b : A) → lt (larger lt a b) a ≡ false
  unfolding larger
  larger_left a b = pick_when (λ x. lt x a ≡ false) (lt a b) (λ h. lt_asym a b h) (λ h. O.irrefl a)

  pub larger_right : (a b : A) → lt (larger lt a b) b ≡ false
  unfolding larger
  larger_right a b = pick_when (λ x. lt x b ≡ false) (lt a b) (λ h. O.irrefl b) (λ h. h)

  -- the largest is below no element
  pub largest_first : (a : A) (l : List A) → lt (largest lt a l) a ≡ false
  unfolding largest
  largest_first a [] = O.irrefl a
  largest_first a (b ∷ l) = le_trans a (larger lt a b) (largest lt (larger lt a b) l) (larger_left a b) (largest_first (larger lt a b) l)

  pub largest_in : (a : A) (l : List A) (c : A) → In c l → lt (largest lt a l) c ≡ false
  unfolding largest
  largest_in a [] c i = absurd (in_nil i)
  largest_in a (b ∷ l) c i = go (in_head i) (λ k. largest_in (larger lt a b) l c k)
    where
      go : (c ≡ b) ⊎ In c l → (In c l → lt (largest lt (larger lt a b) l) c ≡ false) → lt (largest lt (larger lt a b) l) c ≡ false
      go (inl e) r = rw e (le_trans b (larger lt a b) (largest lt (larger lt a b) l) (larger_right a b) (largest_first (larger lt a b) l))
      go (inr k) r = r k

-- the order as one number: (a, b) with b below k is a * k + b
module _ (k : ℕ) where
  lex_step : (a c : ℕ) → a < c → a * k + k ≤ c * k
  lex_step a c h = let m = mul-le-mul_right {m = suc a} {n = c} k h in let e = suc-mul a k in omega arith

  pub lex_rank : (a b c d : ℕ) → b < k → d < k → lex_lt a b c d ≡ true → a * k + b < c * k + d
  lex_rank a b c d hb hd e = go (lex_below a b c d e)
    where
      go : Below a b c d → a * k + b < c * k + d
      go (first h) = let m = lex_step a c h in omega arith
      go (second i h) = rw i (omega arith)
