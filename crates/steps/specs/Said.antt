-- The record of one box to another that says a thing.
use Rattle.house.specs.declared.BoxNo.{BoxNo}
use Rattle.records.specs.Rec.{Rec, multicast, accept, accept_ack, deliver, newleader, newleader_ack, new_state, newstate_ack}
use Rattle.steps.specs.declared.said.Said.{Said}
use Rattle.steps.specs.declared.said.Said.TheVariants.{Multicast, Accept, AcceptAck, Deliver, Newleader, NewleaderAck, NewState, NewstateAck}

unfoldable pub says : BoxNo → BoxNo → Said → Rec
says from to (Multicast j) = multicast from to j
says from to (Accept j y) = accept from to j y
says from to (AcceptAck j bs) = accept_ack from to j bs
says from to (Deliver j y) = deliver from to j y
says from to (Newleader b) = newleader from to b
says from to (NewleaderAck y) = newleader_ack from to y
says from to (NewState y) = new_state from to y
says from to (NewstateAck b) = newstate_ack from to b
