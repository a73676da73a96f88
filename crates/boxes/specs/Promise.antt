-- What a step promises (document 01, 'Answers'): a refusal gives the same box, 0 bytes, no delivery; done gives the new box, the bytes written,
-- the delivered job or none; the tray after those bytes is unchanged. No second answer fits it.
use Rattle.std.specs.Prelude.{ℕ, Bool, true, false, List, [], ◌≡◌, length}
use Rattle.laws.specs.Tray.{onto}
use Rattle.house.specs.declared.Plan.{Plan}
use Rattle.records.specs.Answers.{refusal_no, Answered}
use Rattle.records.specs.Bytes.{encode_all}
use Rattle.boxes.specs.Out.{Out, refused, does, jobs_in, records_of}
use Rattle.boxes.specs.declared.BoxState.{BoxState}
use Rattle.boxes.specs.declared.Outcome.{Outcome}

-- done or refused, and the number of the refusal
abbrev pub was_done : Out → Bool
was_done (refused why) = false
was_done (does x l d) = true

abbrev pub number_of : Out → ℕ
number_of (refused why) = refusal_no why
number_of (does x l d) = 0

-- the box after the step: the same one with a refusal
abbrev pub box_after : BoxState → Out → BoxState
box_after x (refused why) = x
box_after x (does y l d) = y

-- the delivered job or none
abbrev pub jobs_of : Out → List ℕ
jobs_of (refused why) = []
jobs_of (does x l d) = jobs_in d

-- an outcome says what the step o from box x comes to
pub record Says (P : Plan) (x : BoxState) (o : Out) (r : Outcome) : Type 0 where
  pub answer : Answered r.answer (was_done o) (number_of o)
  pub used : r.used ≡ length (encode_all P (records_of o))
  pub records : r.records ≡ length (records_of o)
  pub state : r.state ≡ box_after x o
  pub delivered : jobs_in r.delivery ≡ jobs_of o

-- and the tray holds the step's records one behind the other, then what it held before
pub record Stepped (P : Plan) (x : BoxState) (o : Out) (before : List ℕ) (r : Outcome) (after : List ℕ) : Type 0 where
  pub says : Says P x o r
  pub tray : after ≡ onto (encode_all P (records_of o)) before
