-- A record that passed the tests 1 to 5: what the kinds' steps ask of it, and that all records of its step fit into the tray.
use Rattle.std.specs.Prelude.{ℕ, ◌≤◌, true, ◌≡◌, length}
use Rattle.house.specs.declared.Plan.{Plan}
use Rattle.records.specs.Bytes.{encode_all}
use Rattle.records.specs.Rec.{meaning}
use Rattle.records.specs.Rules.{valid}
use Rattle.records.specs.declared.Record.{Record}
use Rattle.boxes.specs.Out.{records_of}
use Rattle.boxes.specs.Sound.{sound}
use Rattle.boxes.specs.Step.{react}
use Rattle.boxes.specs.declared.BoxState.{BoxState}

pub record Acting (P : Plan) (x : BoxState) (r : Record) (room : ℕ) : Type 0 where
  pub is_sound : sound P x ≡ true
  pub is_valid : valid P r ≡ true
  pub fits : length (encode_all P (records_of (react P x (meaning r)))) ≤ room
