-- Ballots and stamps compared: a strict and a weak relation over any order that a test decides, and their laws.
-- 'Lt' and 'Le' are records, so what they compare is found by the checker.
use mathlib.Core.Bool.{Bool, true, false}
use mathlib.Core.Logic.{◌≢◌}
use mathlib.Core.Path.{◌≡◌}
use Rattle.laws.proofs.laws.Choice.{never}
use Rattle.laws.specs.Lex.{Order, Three, less, same, more}
use Rattle.laws.proofs.laws.Lex.{lt_asym, le_trans, le_lt}
use Rattle.house.specs.Pairs.{stamp_lt, ballot_lt}
use Rattle.house.specs.declared.Stamp.{Stamp}
use Rattle.house.specs.declared.Ballot.{Ballot}

pub record Lt {A : Type 0} (lt : A → A → Bool) (a b : A) : Type 0 where
  pub says : lt a b ≡ true

pub record Le {A : Type 0} (lt : A → A → Bool) (a b : A) : Type 0 where
  pub says : lt b a ≡ false

-- one ballot is lower than another, or not higher
abbrev pub Lower : Ballot → Ballot → Type 0
Lower a b = Lt ballot_lt a b

abbrev pub Upto : Ballot → Ballot → Type 0
Upto a b = Le ballot_lt a b

-- one stamp is below another, or not above
abbrev pub Sooner : Stamp → Stamp → Type 0
Sooner s t = Lt stamp_lt s t

abbrev pub Until : Stamp → Stamp → Type 0
Until s t = Le stamp_lt s t

-- below, the same or above
pub data Compared {A : Type 0} (lt : A → A → Bool) (a b : A) : Type 0 where
  under : Lt lt a b → Compared lt a b
  level : a ≡ b → Compared lt a b
  over : Lt lt b a → Compared lt a b

-- below or the same
pub data Within {A : Type 0} (lt : A → A → Bool) (a b : A) : Type 0 where
  strict : Lt lt a b → Within lt a b
  equal : a ≡ b → Within lt a b

module _ {A : Type 0} {lt eq : A → A → Bool} {none : A} (O : Order A lt eq none) where
  pub lt_lt : {a b c : A} → Lt lt a b → Lt lt b c → Lt lt a c
  lt_lt {a} {b} {c} h k = record { says = O.trans a b c h.says k.says }

  pub lt_to_le : {a b : A} → Lt lt a b → Le lt a b
  lt_to_le {a} {b} h = record { says = lt_asym O a b h.says }

  pub le_refl : {a : A} → Le lt a a
  le_refl {a} = record { says = O.irrefl a }

  pub eq_le : {a b : A} → a ≡ b → Le lt a b
  eq_le {a} {b} e = record { says = rw e (O.irrefl b) }

  pub le_le : {a b c : A} → Le lt a b → Le lt b c → Le lt a c
  le_le {a} {b} {c} h k = record { says = le_trans O a b c h.says k.says }

  pub le_then_lt : {a b c : A} → Le lt a b → Lt lt b c → Lt lt a c
  le_then_lt {a} {b} {c} h k = record { says = le_lt O a b c h.says k.says }

  -- not below itself, and not below what is not above
  pub lt_self : {X : Type 0} {a b : A} → Lt lt a b → a ≡ b → X
  lt_self {X} {a} {b} h e = never (rw e at h.says) (O.irrefl b)

  pub lt_not : {X : Type 0} {a b : A} → Lt lt a b → Le lt b a → X
  lt_not h k = never h.says k.says

  pub compare : (a b : A) → Compared lt a b
  compare a b = go (O.three a b)
    where
      go : Three A lt a b → Compared lt a b
      go (less h) = under (record { says = h })
      go (same e) = level e
      go (more h) = over (record { says = h })

  pub within : {a b : A} → Le lt a b → Within lt a b
  within {a} {b} h = go (O.three a b)
    where
      go : Three A lt a b → Within lt a b
      go (less k) = strict (record { says = k })
      go (same e) = equal e
      go (more k) = never k h.says

  -- not above and not the same is below
  pub le_ne : {a b : A} → Le lt a b → a ≢ b → Lt lt a b
  le_ne {a} {b} h n = go (within h)
    where
      go : Within lt a b → Lt lt a b
      go (strict k) = k
      go (equal e) = absurd (n e)

  -- not above each other is the same
  pub le_both : {a b : A} → Le lt a b → Le lt b a → a ≡ b
  le_both {a} {b} h k = go (within h)
    where
      go : Within lt a b → a ≡ b
      go (strict i) = lt_not i k
      go (equal e) = e
