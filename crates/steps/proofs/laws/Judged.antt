-- Laws of what specs/Judged.antt defines.
use Rattle.records.specs.declared.answers.Refusal.{Refusal}
use Rattle.records.proofs.laws.Answers.{no_done, no_is}
use Rattle.std.specs.Prelude.{Err}
use mathlib.Core.Bool.{Bool, true}
use mathlib.Core.Path.{◌≡◌, refl, ap}
use Rattle.laws.specs.Choice.{pick}
use Rattle.laws.proofs.laws.Choice.{pick_both}
use Rattle.house.specs.declared.Plan.{Plan}
use Rattle.records.specs.Answers.{done}
use Rattle.records.specs.Rec.{Rec, multicast, accept, accept_ack, deliver, newleader, newleader_ack, new_state, newstate_ack, unknown}
use Rattle.boxes.specs.Out.{Out, refused}
use Rattle.boxes.specs.Accept.{when_kept}
use Rattle.boxes.specs.AcceptAck.{when_marked}
use Rattle.boxes.specs.NewleaderAck.{when_voted}
use Rattle.boxes.specs.Promise.{was_done}
use Rattle.boxes.specs.Step.{react}
use Rattle.boxes.proofs.laws.Answers.{multicast_is, accept_is, accept_ack_is, deliver_is, newleader_is, newleader_ack_is, new_state_is, newstate_ack_is}
use Rattle.boxes.specs.declared.BoxState.{BoxState}
use Rattle.steps.specs.Judged.{judged}

-- a record that is refused: its step is that refusal
pub judged_no : (P : Plan) (x : BoxState) (m : Rec) (why : Refusal) → judged P x m ≡ Err why → react P x m ≡ refused why
unfolding judged react
judged_no P x (multicast from to j) why e = multicast_is P x j e
judged_no P x (accept from to j y) why e = accept_is P x from j y e
judged_no P x (accept_ack from to j bs) why e = accept_ack_is P x from j bs e
judged_no P x (deliver from to j y) why e = deliver_is P x j y e
judged_no P x (newleader from to b) why e = newleader_is P x from b e
judged_no P x (newleader_ack from to y) why e = newleader_ack_is P x from y e
judged_no P x (new_state from to y) why e = new_state_is P x from y e
judged_no P x (newstate_ack from to b) why e = newstate_ack_is P x b e
judged_no P x unknown why e = ap refused (no_is e)

-- a record that is not refused: its step is done
whether : (t : Bool) (a b : Out) → was_done a ≡ true → was_done b ≡ true → was_done (pick t a b) ≡ true
whether t a b p q = pick_both (λ (o : Out). was_done o ≡ true) t p q

pub judged_done : (P : Plan) (x : BoxState) (m : Rec) → judged P x m ≡ done → was_done (react P x m) ≡ true
unfolding judged react when_kept when_marked when_voted
judged_done P x (multicast from to j) e = rw (multicast_is P x j e)
judged_done P x (accept from to j y) e = rw (accept_is P x from j y e) (whether _ _ _ refl refl)
judged_done P x (accept_ack from to j bs) e = rw (accept_ack_is P x from j bs e) (whether _ _ _ refl refl)
judged_done P x (deliver from to j y) e = rw (deliver_is P x j y e)
judged_done P x (newleader from to b) e = rw (newleader_is P x from b e)
judged_done P x (newleader_ack from to y) e = rw (newleader_ack_is P x from y e) (whether _ _ _ refl refl)
judged_done P x (new_state from to y) e = rw (new_state_is P x from y e)
judged_done P x (newstate_ack from to b) e = rw (newstate_ack_is P x b e)
judged_done P x unknown e = no_done e
