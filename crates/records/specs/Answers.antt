-- Answers: the table of document 01, the number of each refusal in the order of checking; and what an answer of the code says in these numbers.
use Rattle.std.specs.Prelude.{ℕ, Bool, true, false, ◌≡◌, Result, Ok, Err}
use Rattle.std.specs.Result.{is_ok}
use Rattle.records.specs.declared.answers.Refusal.{Refusal}
use Rattle.records.specs.declared.answers.Refusal.TheVariants.{NotSound, SmallTray, Unreadable, BrokenRule, OtherBox, NotNamed, WrongStatus, WrongBallot, AlreadyDone, AtLimit, NoSuch, PostFull}

abbrev pub refusal_no : Refusal → ℕ
-- plan or box not sound
refusal_no NotSound = 1
-- tray under 4,096 bytes
refusal_no SmallTray = 2
-- unknown kind, a section count that isn't its kind's, bytes missing or left over
refusal_no Unreadable = 3
-- a value breaks a rule
refusal_no BrokenRule = 4
-- "to" is another box
refusal_no OtherBox = 5
-- job doesn't name the district
refusal_no NotNamed = 6
-- status
refusal_no WrongStatus = 7
-- ballot
refusal_no WrongBallot = 8
-- already done
refusal_no AlreadyDone = 9
-- clock or ballot limit
refusal_no AtLimit = 10
-- rehearsal: no such box, job or record; after 1 for the plan, before all the others
refusal_no NoSuch = 11
-- rehearsal: post full; after 1 to 10
refusal_no PostFull = 12

-- what a call answers that gives nothing but its answer
abbrev pub Answer : Type 0
Answer = Result (Unit {0}) Refusal

abbrev pub done : Answer
done = Ok tt

-- the number of an answer; 0 where all was done
abbrev pub answer_no : {T : Type 0} → Result T Refusal → ℕ
answer_no (Ok v) = 0
answer_no (Err why) = refusal_no why

-- an answer says 'done' or not, and this number
pub record Answered {T : Type 0} (a : Result T Refusal) (done : Bool) (n : ℕ) : Type 0 where
  pub done_is : is_ok a ≡ done
  pub number : answer_no a ≡ n

-- refused unless the test holds: tests one in another are refused by the first that fails
abbrev pub or_no : {T : Type 0} → Bool → Refusal → Result T Refusal → Result T Refusal
or_no true why a = a
or_no false why a = Err why
