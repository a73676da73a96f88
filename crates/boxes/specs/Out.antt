-- What a step comes to: a refusal with its number, or the new box, the records to send and the job delivered. Sends.
use Rattle.std.specs.Prelude.{ℕ, Bool, true, false, not, ◌&&◌, List, [], ◌∷◌, ◌++◌, eqb, length, Err, None, Ok, Option, Some}
use Rattle.laws.specs.Choice.{pick}
use Rattle.laws.specs.Fold.{upto}
use Rattle.house.specs.Pairs.{box_no}
use Rattle.house.specs.declared.BoxNo.{BoxNo}
use Rattle.house.specs.Plan.{boxes_of, home_of, same_home, names}
use Rattle.house.specs.declared.Plan.{Plan}
use Rattle.records.specs.Rec.{Rec}
use Rattle.records.specs.Bytes.{encode_all}
use Rattle.records.specs.declared.answers.Refusal.{Refusal}
use Rattle.boxes.specs.Box.{own_of}
use Rattle.boxes.specs.declared.BoxState.{BoxState}
use Rattle.boxes.specs.declared.Outcome.{Outcome}
use Rattle.records.specs.Answers.{or_no, Answer, done}
use Rattle.records.specs.declared.answers.Refusal.TheVariants.{NotNamed, WrongStatus, WrongBallot, AlreadyDone, AtLimit}

pub data Out : Type 0 where
  refused : (why : Refusal) → Out
  does : (x : BoxState) (sent : List Rec) (delivered : Option ℕ) → Out

-- refused unless the test holds
unfoldable pub guard : Bool → Refusal → Out → Out
guard true why o = o
guard false why o = refused why

-- the job that a delivery names, or none
abbrev pub jobs_in : Option ℕ → List ℕ
jobs_in None = []
jobs_in (Some j) = j ∷ []

-- the records of a step; a refusal sends none
abbrev pub records_of : Out → List Rec
records_of (refused why) = []
records_of (does x l d) = l

-- what the code answers: the same box, 0 bytes and no delivery for a refusal
abbrev pub refusal : BoxState → Refusal → Outcome
refusal x why = record { answer = Err why; used = 0; records = 0; state = x; delivery = None }

abbrev pub result_of : Plan → BoxState → Out → Outcome
result_of P x (refused why) = refusal x why
result_of P x (does y l d) = record { answer = done; used = length (encode_all P l); records = length l; state = y; delivery = d }

-- a record to each box that is meant, by rising box number
unfoldable pub to_each : Plan → (BoxNo → Bool) → (BoxNo → Rec) → List Rec
to_each P meant f = upto (λ l p. l ++ pick (meant (box_no p)) (f (box_no p) ∷ []) []) [] (boxes_of P)

-- to all boxes of the districts that job j names
abbrev pub to_named : Plan → ℕ → (BoxNo → Rec) → List Rec
to_named P j f = to_each P (λ p. names P j (home_of P p)) f

-- to the boxes of the own district
abbrev pub to_home : Plan → BoxState → (BoxNo → Rec) → List Rec
to_home P x f = to_each P (λ p. same_home P p (own_of x)) f

-- to the other boxes of the own district
abbrev pub to_others : Plan → BoxState → (BoxNo → Rec) → List Rec
to_others P x f = to_each P (λ p. same_home P p (own_of x) && not (eqb p.0 (own_of x).0)) f

-- the first of the tests 6 to 10 that fails
abbrev pub in_order : Bool → Bool → Bool → Bool → Bool → Answer
in_order a b c d e = or_no a NotNamed (or_no b WrongStatus (or_no c WrongBallot (or_no d AlreadyDone (or_no e AtLimit done))))

-- a step under an answer
abbrev pub under : Answer → Out → Out
under (Ok u) o = o
under (Err why) o = refused why
