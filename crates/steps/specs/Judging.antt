-- Bytes given to a sound box: the answers 3 to 10 and the record that they hold; a refusal, or the record whose step the box will do.
use Rattle.std.specs.Prelude.{ℕ, ◌≤◌, List, ◌≡◌, Result, Err, Ok}
use Rattle.house.specs.Limits.{least_tray}
use Rattle.house.specs.declared.Plan.{Plan}
use Rattle.records.specs.Rec.{meaning}
use Rattle.records.specs.Answers.{done}
use Rattle.records.specs.declared.answers.Refusal.{Refusal}
use Rattle.records.specs.declared.Record.{Record}
use Rattle.boxes.specs.Out.{refused}
use Rattle.boxes.specs.Step.{react, receives}
use Rattle.boxes.specs.declared.BoxState.{BoxState}
use Rattle.steps.specs.Acting.{Acting}
use Rattle.steps.specs.Judged.{judged}

-- the answer a to bytes s, whatever tray is lent
pub record Judging (P : Plan) (x : BoxState) (s : List ℕ) (a : Result Record Refusal) : Type 0 where
  -- a refusal is the box's
  pub refuse : (why : Refusal) → a ≡ Err why → (room : ℕ) → least_tray ≤ room → receives P x room s ≡ refused why
  -- else the box does the record's step, and nothing in it is refused
  pub go : (r : Record) → a ≡ Ok r → (room : ℕ) → least_tray ≤ room → (receives P x room s ≡ react P x (meaning r)) × Acting P x r room
  pub taken : (r : Record) → a ≡ Ok r → judged P x (meaning r) ≡ done
