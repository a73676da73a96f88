-- Pairs of numbers ordered by first part, then second: stamps and ballots are its two instances.
use Rattle.std.specs.Prelude.{ℕ, Bool, true, false, ◌&&◌, ◌||◌, List, [], ◌∷◌, ◌≡◌, ltb, eqb}
use Rattle.laws.specs.Choice.{pick}

-- (a, b) is below (c, d)
abbrev pub lex_lt : ℕ → ℕ → ℕ → ℕ → Bool
lex_lt a b c d = ltb a c || (eqb a c && ltb b d)

-- (a, b) is (c, d)
abbrev pub lex_eq : ℕ → ℕ → ℕ → ℕ → Bool
lex_eq a b c d = eqb a c && eqb b d

-- one below, the same, or one above
pub data Three (A : Type 0) (lt : A → A → Bool) (a b : A) : Type 0 where
  less : lt a b ≡ true → Three A lt a b
  same : a ≡ b → Three A lt a b
  more : lt b a ≡ true → Three A lt a b

-- a strict total order that a test decides, with a test for equality and a lowest element
pub record Order (A : Type 0) (lt eq : A → A → Bool) (none : A) : Type 0 where
  pub trans : (a b c : A) → lt a b ≡ true → lt b c ≡ true → lt a c ≡ true
  pub irrefl : (a : A) → lt a a ≡ false
  pub three : (a b : A) → Three A lt a b
  pub eq_says : (a b : A) → eq a b ≡ true → a ≡ b
  pub eq_is : (a : A) → eq a a ≡ true
  pub lowest : (a : A) → lt a none ≡ false

-- the larger of two, the first if they are the same
unfoldable pub larger : {A : Type 0} → (A → A → Bool) → A → A → A
larger lt a b = pick (lt a b) b a

-- the largest of a list and a first element
unfoldable pub largest : {A : Type 0} → (A → A → Bool) → A → List A → A
largest lt a [] = a
largest lt a (b ∷ l) = largest lt (larger lt a b) l
