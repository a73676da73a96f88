-- Laws of what specs/Place.antt defines.
use Prim.Native.Nat.{ℕ, zero, suc, ◌+◌, ◌<◌}
use mathlib.Core.Bool.{Bool, true, false}
use mathlib.Core.List.{List, [], ◌∷◌, ◌++◌, map, append_assoc, append-nil}
use mathlib.Core.Logic.{◌⊎◌, inl, inr, ◌≢◌}
use mathlib.Core.Path.{◌≡◌, refl, sym, ap, ◌∙◌}
use native.Mathlib.Nat.{zero-add, suc-add}
use native.Mathlib.Omega.{arith}
use lib.ListN.{length, get_or, set}
use Rattle.laws.proofs.laws.Choice.{look}
use Rattle.laws.specs.Place.{At, In}
use native.Mathlib.Decide.{ℕ_discrete}
use lib.Seq.{get_or-set_same, get_or-set_other}

-- k begins with l
pub record Begins {A : Type 0} (l k : List A) : Type 0 where
  pub rest : List A
  pub split : k ≡ l ++ rest

-- where a place of l ++ k lies: in l, or so many places behind it
pub data Side {A : Type 0} (l k : List A) (i : ℕ) (m : A) : Type 0 where
  before : At l i m → Side l k i m
  after : (j : ℕ) → i ≡ length l + j → At k j m → Side l k i m

module _ {A : Type 0} where
  pub at_nil : (i : ℕ) {m : A} → At [] i m → ⊥
  at_nil zero e = let z : ◌≡◌ {A = ℕ} 0 1 = cc in omega arith
  at_nil (suc i) e = let z : ◌≡◌ {A = ℕ} 0 1 = cc in omega arith

  pub at_left : (l k : List A) (i : ℕ) {m : A} → At l i m → At (l ++ k) i m
  at_left [] k i e = absurd (at_nil i e)
  at_left (x ∷ l) k zero e = e
  at_left (x ∷ l) k (suc i) e = at_left l k i e

  pub at_right : (l k : List A) (j : ℕ) {m : A} → At k j m → At (l ++ k) (length l + j) m
  at_right [] k j e = rw zero-add e
  at_right (x ∷ l) k j e = rw suc-add (at_right l k j e)

  pub at_lt : (l : List A) (i : ℕ) {m : A} → At l i m → i < length l
  at_lt [] i e = absurd (at_nil i e)
  at_lt (x ∷ l) zero e = omega arith
  at_lt (x ∷ l) (suc i) e = let h = at_lt l i e in omega arith

  pub at_side : (l k : List A) (i : ℕ) {m : A} → At (l ++ k) i m → Side l k i m
  at_side [] k i e = after i (omega arith) e
  at_side (x ∷ l) k zero e = before e
  at_side (x ∷ l) k (suc i) {m} e = go (at_side l k i e)
    where
      go : Side l k i m → Side (x ∷ l) k (suc i) m
      go (before h) = before h
      go (after j q h) = after j (omega arith) h

  -- a place holds one element
  pub at_unique : (l : List A) (i : ℕ) {a b : A} → At l i a → At l i b → a ≡ b
  at_unique l i p q = cc

  -- the same by the element or a default
  pub at_get_d_lem : (l : List A) (i : ℕ) (d : A) → i < length l → At l i (get_or l i d)
  at_get_d_lem [] i d h = absurd (omega arith)
  at_get_d_lem (x ∷ l) zero d h = refl
  at_get_d_lem (x ∷ l) (suc i) d h = at_get_d_lem l i d (omega arith)

  pub get_d_at_is_lem : (l : List A) (i : ℕ) (d : A) {m : A} → At l i m → get_or l i d ≡ m
  get_d_at_is_lem [] i d e = absurd (at_nil i e)
  get_d_at_is_lem (x ∷ l) zero d e = cc
  get_d_at_is_lem (x ∷ l) (suc i) d e = get_d_at_is_lem l i d e

  pub in_nil : {m : A} → In m [] → ⊥
  in_nil h = at_nil h.place h.there

  pub in_left : (l k : List A) {m : A} → In m l → In m (l ++ k)
  in_left l k h = record { place = h.place; there = at_left l k h.place h.there }

  pub in_right : (l k : List A) {m : A} → In m k → In m (l ++ k)
  in_right l k h = record { place = length l + h.place; there = at_right l k h.place h.there }

  pub in_cases : (l k : List A) {m : A} → In m (l ++ k) → In m l ⊎ In m k
  in_cases l k {m} h = go (at_side l k h.place h.there)
    where
      go : Side l k h.place m → In m l ⊎ In m k
      go (before e) = inl (record { place = h.place; there = e })
      go (after j q e) = inr (record { place = j; there = e })

  pub in_head : {x : A} {l : List A} {m : A} → In m (x ∷ l) → (m ≡ x) ⊎ In m l
  in_head {x} {l} {m} h = go h.place h.there
    where
      go : (i : ℕ) → At (x ∷ l) i m → (m ≡ x) ⊎ In m l
      go zero e = inl (cc)
      go (suc i) e = inr (record { place = i; there = e })

  pub in_tail : {x : A} {l : List A} {m : A} → In m l → In m (x ∷ l)
  in_tail h = record { place = suc h.place; there = h.there }

  pub in_one : {a m : A} → In m (a ∷ []) → m ≡ a
  in_one {a} {m} h = go (in_head h)
    where
      go : (m ≡ a) ⊎ In m [] → m ≡ a
      go (inl e) = e
      go (inr i) = absurd (in_nil i)

  pub begins_refl : (l : List A) → Begins l l
  begins_refl l = record { rest = []; split = sym (append-nil l) }

  pub begins_append : (l k : List A) → Begins l (l ++ k)
  begins_append l k = record { rest = k; split = refl }

  pub begins_trans : {l k m : List A} → Begins l k → Begins k m → Begins l m
  begins_trans {l} h g =
      record { rest = h.rest ++ g.rest; split = g.split ∙ ap (λ (x : List A). x ++ g.rest) h.split ∙ append_assoc l h.rest g.rest }

  pub begins_at : {l k : List A} → Begins l k → (i : ℕ) {m : A} → At l i m → At k i m
  begins_at {l} h i e = rw h.split (at_left l h.rest i e)

  pub begins_in : {l k : List A} → Begins l k → {m : A} → In m l → In m k
  begins_in h i = record { place = i.place; there = begins_at h i.place i.there }

  -- what stands before the seam stands in the beginning
  pub begins_back : {l k : List A} → Begins l k → (i : ℕ) {m : A} → i < length l → At k i m → At l i m
  begins_back {l} h i {m} lt e = go (at_side l h.rest i (rw h.split at e))
    where
      go : Side l h.rest i m → At l i m
      go (before x) = x
      go (after j q x) = absurd (omega arith)

-- membership in a mapped list
pub in_map : {A B : Type 0} (f : A → B) (l : List A) {m : B} → In m (map f l) → (a : A) × In a l × (m ≡ f a)
in_map f [] h = absurd (in_nil h)
in_map {A} f (x ∷ l) {m} h = go (in_head h) (λ k. in_map f l k)
  where
    go : (m ≡ f x) ⊎ In m (map f l) → (In m (map f l) → (a : A) × In a l × (m ≡ f a)) → (a : A) × In a (x ∷ l) × (m ≡ f a)
    go (inl e) r = (x, record { place = 0; there = refl }, e)
    go (inr i) r = let z = r i in (z.0, in_tail z.1, z.2)

-- a test finds an element, or fails of each
pub data Found {A : Type 0} (t : A → Bool) (l : List A) : Type 0 where
  found : (m : A) → In m l → t m ≡ true → Found t l
  nowhere : ((m : A) → In m l → t m ≡ false) → Found t l

pub find : {A : Type 0} (t : A → Bool) (l : List A) → Found t l
find t [] = nowhere (λ m i. absurd (in_nil i))
find {A} t (x ∷ l) = go (look (t x)) (find t l)
  where
    go : (t x ≡ true) ⊎ (t x ≡ false) → Found t l → Found t (x ∷ l)
    go (inl h) _ = found x (record { place = 0; there = refl }) h
    go (inr h) (found m i e) = found m (in_tail i) e
    go (inr h) (nowhere f) = nowhere (λ m i. at m (in_head i))
      where
        at : (m : A) → (m ≡ x) ⊎ In m l → t m ≡ false
        at m (inl e) = rw e h
        at m (inr k) = f m k

-- what holds of the new element at its place and of the old ones elsewhere holds after a place is set
pub at_each : {A : Type 0} (Q : A → Type 0) (l : List A) (i k : ℕ) (a d : A) → i < length l → (k ≡ i → Q a) → (k ≢ i → Q (get_or l k d))
    → Q (get_or (set l i a) k d)
at_each Q l i k a d h f g = go (ℕ_discrete k i)
  where
    go : Dec (k ≡ i) → Q (get_or (set l i a) k d)
    go (yes e) = rw (e, get_or-set_same l i a d h) (f e)
    go (no n) = rw (get_or-set_other l i k a d n) (g n)
