-- An order judged over the box as it is: refused, or done as a step of the box, with the record that the box takes or sends.
use Rattle.std.specs.Prelude.{ℕ, ◌≤◌, ◌<◌, true, List, [], ◌≡◌, length, Err, None, Ok, Result}
use Rattle.house.specs.Limits.{most_jobs, most_number, least_tray}
use Rattle.house.specs.Plan.{plan_sound}
use Rattle.house.specs.declared.Plan.{Plan}
use Rattle.house.specs.declared.Order.{Order}
use Rattle.house.specs.declared.Order.TheVariants.{Post, Stand, Retry, Cut, Carry}
use Rattle.records.specs.Bytes.{encode_all}
use Rattle.records.specs.Rec.{meaning}
use Rattle.records.specs.Answers.{done}
use Rattle.records.specs.declared.answers.Refusal.{Refusal}
use Rattle.records.specs.declared.Record.{Record}
use Rattle.boxes.specs.Sound.{sound}
use Rattle.boxes.specs.Out.{Out, refused, does, records_of}
use Rattle.boxes.specs.Post.{posts}
use Rattle.boxes.specs.Retry.{retries}
use Rattle.boxes.specs.Stand.{standing}
use Rattle.boxes.specs.Cut.{cut}
use Rattle.boxes.specs.Promise.{was_done, box_after}
use Rattle.boxes.specs.Step.{react}
use Rattle.boxes.specs.declared.BoxState.{BoxState}
use Rattle.steps.specs.Acting.{Acting}
use Rattle.steps.specs.Judged.{judged}
use Rattle.rehearsal.specs.Night.{exists, if_fits}
use Rattle.rehearsal.specs.Alone.{here, alone}

-- the step of an order that nothing refuses; a carry takes the record r
abbrev pub step_of : Plan → BoxState → Order → Record → Out
step_of P x (Post j) r = does x (posts P j) None
step_of P x (Stand p) r = does x (standing P x) None
step_of P x (Retry p j) r = does x (retries P x j) None
step_of P x (Cut p) r = does (cut x) [] None
step_of P x (Carry k) r = react P x (meaning r)

-- what its code needs: a job's number that is a byte, room for the next ballot's number, or a record that the box may act on
abbrev pub Can : Plan → BoxState → Order → Record → Type 0
Can P x (Post j) r = j < most_jobs
Can P x (Stand p) r = x.core.ballot.number < most_number
Can P x (Retry p j) r = j < most_jobs
Can P x (Cut p) r = plan_sound P ≡ true
Can P x (Carry k) r = Acting P x r least_tray × (judged P x (meaning r) ≡ done)

-- an order that nothing refuses but a full post
pub record Goes (P : Plan) (used : ℕ) (x : BoxState) (s : List ℕ) (o : Order) (r : Record) : Type 0 where
  pub plan_is_sound : plan_sound P ≡ true
  pub there : exists P (here used) s o ≡ true
  pub can : Can P x o r
  -- its step is done
  pub done : was_done (step_of P x o r) ≡ true
  -- its records fit into the smallest tray
  pub fits : length (encode_all P (records_of (step_of P x o r))) ≤ least_tray
  -- it comes to this step, or to 12
  pub is : alone P used x s o ≡ if_fits P (here used) s (step_of P x o r)
  -- a sound box stays sound
  pub stays : sound P x ≡ true → sound P (box_after x (step_of P x o r)) ≡ true

-- the answer a: a refusal, or the record with which the order goes
pub record Judges (P : Plan) (used : ℕ) (x : BoxState) (s : List ℕ) (o : Order) (a : Result Record Refusal) : Type 0 where
  pub refuse : (why : Refusal) → a ≡ Err why → alone P used x s o ≡ refused why
  pub go : (r : Record) → a ≡ Ok r → Goes P used x s o r
