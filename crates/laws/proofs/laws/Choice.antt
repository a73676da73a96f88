-- Laws of what specs/Choice.antt defines.
use mathlib.Core.Bool.{Bool, true, false, not, ◌&&◌, ◌||◌}
use mathlib.Core.Path.{◌≡◌, refl}
use Prim.Native.Nat.{ℕ, min}
use lib.Dec.{ltb}
use borrow.Author.Tests.{ltb-true, ltb-false}
use mathlib.Core.Logic.{◌⊎◌, inl, inr}
use native.Mathlib.Omega.{arith}
use Rattle.laws.specs.Choice.{pick}

pub pick_true : {A : Type 0} {t : Bool} (a b : A) → t ≡ true → pick t a b ≡ a
unfolding pick
pick_true a b e = rw e

pub pick_false : {A : Type 0} {t : Bool} (a b : A) → t ≡ false → pick t a b ≡ b
unfolding pick
pick_false a b e = rw e

pub and_left : (a b : Bool) → a && b ≡ true → a ≡ true
and_left true b h = refl
and_left false b h = h

pub and_right : (a b : Bool) → a && b ≡ true → b ≡ true
and_right true b h = h
and_right false b h = cc

pub and_both : (a b : Bool) → a ≡ true → b ≡ true → a && b ≡ true
and_both true b p q = q
and_both false b p q = p

pub not_off : {a : Bool} → a ≡ false → not a ≡ true
not_off e = rw e

-- both ways of a choice, each with what its test says
pub pick_cases : {A C : Type 0} (t : Bool) (a b : A) {c : A} → pick t a b ≡ c → (t ≡ true → a ≡ c → C) → (t ≡ false → b ≡ c → C) → C
unfolding pick
pick_cases true a b e f g = f refl e
pick_cases false a b e f g = g refl e

-- what holds of both holds of the choice
pub pick_both : {A : Type 0} (Q : A → Type 0) (t : Bool) {a b : A} → Q a → Q b → Q (pick t a b)
unfolding pick
pick_both Q true p q = p
pick_both Q false p q = q

-- the same, where each way may use its test
pub pick_when : {A : Type 0} (Q : A → Type 0) (t : Bool) {a b : A} → (t ≡ true → Q a) → (t ≡ false → Q b) → Q (pick t a b)
unfolding pick
pick_when Q true p q = p refl
pick_when Q false p q = q refl

-- a function of a choice
pub pick_ap : {A B : Type 0} (f : A → B) (t : Bool) (a b : A) → f (pick t a b) ≡ pick t (f a) (f b)
unfolding pick
pick_ap f true a b = refl
pick_ap f false a b = refl

-- a test holds or fails, with the equation
pub look : (t : Bool) → (t ≡ true) ⊎ (t ≡ false)
look true = inl refl
look false = inr refl

-- no test both holds and fails
pub never : {A : Type 0} {t : Bool} → t ≡ true → t ≡ false → A
never p q = let z : ◌≡◌ {A = Bool} true false = cc in let y : ◌≡◌ {A = ℕ} 0 1 = cc in absurd (omega arith)

pub and_fails : (a b : Bool) → a && b ≡ false → (a ≡ false) ⊎ (b ≡ false)
and_fails true b h = inr h
and_fails false b h = inl refl

pub or_cases : (a b : Bool) → a || b ≡ true → (a ≡ true) ⊎ (b ≡ true)
or_cases true b h = inl refl
or_cases false b h = inr h

pub or_fails : (a b : Bool) → a || b ≡ false → (a ≡ false) × (b ≡ false)
or_fails true b h = (h, cc)
or_fails false b h = (refl, h)

pub or_left : (a b : Bool) → a ≡ true → a || b ≡ true
or_left true b h = refl
or_left false b h = cc

pub or_right : (a b : Bool) → b ≡ true → a || b ≡ true
or_right true b h = refl
or_right false b h = h

-- of two, one of which holds, the second holds if the first fails
pub or_other : (a b : Bool) → a || b ≡ true → a ≡ false → b ≡ true
or_other true b h e = never {t = true} refl e
or_other false b h e = h

pub not_of : {a : Bool} → a ≡ true → not a ≡ false
not_of e = rw e

-- both parts of a passed test
pub both : {a b : Bool} → a && b ≡ true → (a ≡ true) × (b ≡ true)
both {a} {b} h = (and_left a b h, and_right a b h)

-- one of two tests holds where the second does whenever the first fails
pub or_if : (a b : Bool) → (a ≡ false → b ≡ true) → a || b ≡ true
or_if true b f = refl
or_if false b f = f refl

-- a test that cannot hold fails
pub not_so : (a : Bool) → (a ≡ true → ⊥) → a ≡ false
not_so true f = absurd (f refl)
not_so false f = refl

-- the smaller of two, as a choice
pub min_pick : (a b : ℕ) → min a b ≡ pick (ltb a b) a b
min_pick a b = pick_when (λ (n : ℕ). min a b ≡ n) (ltb a b) (λ h. let l = ltb-true a b h in omega arith) (λ h. let l = ltb-false a b h in omega arith)
