-- The answer to a record that passed the tests 1 to 5: the first of the tests 6 to 10 that fails, by the record's kind.
use Rattle.std.specs.Prelude.{Err}
use Rattle.house.specs.declared.Plan.{Plan}
use Rattle.records.specs.Answers.{Answer}
use Rattle.records.specs.declared.answers.Refusal.TheVariants.{Unreadable}
use Rattle.records.specs.Rec.{Rec, multicast, accept, accept_ack, deliver, newleader, newleader_ack, new_state, newstate_ack, unknown}
use Rattle.boxes.specs.Multicast.{multicast_answer}
use Rattle.boxes.specs.Accept.{accept_answer}
use Rattle.boxes.specs.AcceptAck.{accept_ack_answer}
use Rattle.boxes.specs.Deliver.{deliver_answer}
use Rattle.boxes.specs.Newleader.{newleader_answer}
use Rattle.boxes.specs.NewleaderAck.{newleader_ack_answer}
use Rattle.boxes.specs.NewState.{new_state_answer}
use Rattle.boxes.specs.NewstateAck.{newstate_ack_answer}
use Rattle.boxes.specs.declared.BoxState.{BoxState}

unfoldable pub judged : Plan → BoxState → Rec → Answer
judged P x (multicast from to j) = multicast_answer P x j
judged P x (accept from to j y) = accept_answer P x from j y
judged P x (accept_ack from to j bs) = accept_ack_answer P x from j bs
judged P x (deliver from to j y) = deliver_answer P x j y
judged P x (newleader from to b) = newleader_answer x b
judged P x (newleader_ack from to y) = newleader_ack_answer x from y.ballot
judged P x (new_state from to y) = new_state_answer x y.ballot
judged P x (newstate_ack from to b) = newstate_ack_answer x b
judged P x unknown = Err Unreadable
