-- Laws of what specs/Answers.antt defines.
use Rattle.std.specs.Prelude.{ℕ, Bool, true, false, [], ◌∷◌, get_or, ◌≡◌, refl, Result, Ok, Err, IfOk}
use Rattle.std.specs.Result.{is_ok}
use Rattle.std.proofs.Common.{arith, sym, ap, ◌∙◌}
use Rattle.records.specs.declared.answers.Refusal.{Refusal}
use Rattle.records.specs.declared.answers.Refusal.TheVariants.{NotSound, SmallTray, Unreadable, BrokenRule, OtherBox, NotNamed, WrongStatus, WrongBallot, AlreadyDone, AtLimit, NoSuch, PostFull}
use Rattle.records.specs.Answers.{refusal_no, Answer, answer_no, Answered, or_no}

-- the refusal that has a number
abbrev with_number : ℕ → Refusal
with_number n =
    get_or
    (PostFull ∷ NotSound ∷ SmallTray ∷ Unreadable ∷ BrokenRule ∷ OtherBox ∷ NotNamed ∷ WrongStatus ∷ WrongBallot ∷ AlreadyDone ∷ AtLimit ∷ NoSuch ∷ [])
    n
    PostFull

number_back : (why : Refusal) → with_number (refusal_no why) ≡ why
number_back NotSound = refl
number_back SmallTray = refl
number_back Unreadable = refl
number_back BrokenRule = refl
number_back OtherBox = refl
number_back NotNamed = refl
number_back WrongStatus = refl
number_back WrongBallot = refl
number_back AlreadyDone = refl
number_back AtLimit = refl
number_back NoSuch = refl
number_back PostFull = refl

-- no two refusals have one number
pub one_number : {v w : Refusal} → refusal_no v ≡ refusal_no w → v ≡ w
one_number {v} {w} e = sym (number_back v) ∙ ap with_number e ∙ number_back w

-- no two answers with the same value say the same
pub one_result : {T : Type 0} {a b : Result T Refusal} {d : Bool} {n : ℕ} (x : T) → Answered a d n → Answered b d n
    → IfOk a (λ v. v ≡ x) → IfOk b (λ v. v ≡ x) → a ≡ b
one_result {T} {a} {b} x p q = go a b (p.done_is ∙ sym q.done_is) (p.number ∙ sym q.number)
  where
    go : (a b : Result T Refusal) → is_ok a ≡ is_ok b → answer_no a ≡ answer_no b → IfOk a (λ v. v ≡ x) → IfOk b (λ v. v ≡ x) → a ≡ b
    go (Ok v) (Ok w) e f g h = ap Ok (g ∙ sym h)
    go (Ok v) (Err w) e f g h = cc
    go (Err v) (Ok w) e f g h = cc
    go (Err v) (Err w) e f g h = ap Err (one_number f)

pub one_answer : {a b : Answer} {d : Bool} {n : ℕ} → Answered a d n → Answered b d n → a ≡ b
one_answer {a} {b} p q = one_result tt p q (any a) (any b)
  where
    any : (a : Answer) → IfOk a (λ v. v ≡ tt)
    any (Ok u) = refl
    any (Err w) = tt

pub answered_of : {T : Type 0} {a : Result T Refusal} {d : Bool} {n : ℕ} → is_ok a ≡ d → answer_no a ≡ n → Answered a d n
answered_of e f = record { done_is = e; number = f }

-- a refusal is not done, and has one reason
pub no_done : {T A : Type 0} {why : Refusal} {v : T} → ◌≡◌ {A = Result T Refusal} (Err why) (Ok v) → A
no_done e = let z : ◌≡◌ {A = ℕ} 0 1 = cc in absurd (omega arith)

pub no_is : {T : Type 0} {v w : Refusal} → ◌≡◌ {A = Result T Refusal} (Err v) (Err w) → v ≡ w
no_is e = cc

pub ok_is : {T : Type 0} {v w : T} → ◌≡◌ {A = Result T Refusal} (Ok v) (Ok w) → v ≡ w
ok_is e = cc

-- what is not refused has passed its test
pub or_no_done : {T : Type 0} (t : Bool) (why : Refusal) (a : Result T Refusal) {v : T} → or_no t why a ≡ Ok v → (t ≡ true) × (a ≡ Ok v)
or_no_done true why a e = (refl, e)
or_no_done false why a e = cc
