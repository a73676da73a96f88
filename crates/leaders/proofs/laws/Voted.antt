-- NEW_STATE to the other boxes of the district is one struct, first addressed to the sender.
use mathlib.Core.Bool.{true}
use mathlib.Core.Path.{◌≡◌}
use Rattle.house.specs.Marks.{other_boxes}
use Rattle.house.specs.Plan.{plan_sound}
use Rattle.house.specs.declared.Plan.{Plan}
use Rattle.records.specs.Rec.{new_state, carried}
use Rattle.boxes.specs.Box.{own_of}
use Rattle.boxes.specs.Newleader.{clock_stamp}
use Rattle.boxes.specs.NewleaderAck.{new_states}
use Rattle.boxes.specs.declared.BoxState.{BoxState}
use Rattle.sending.specs.Sends.{Sends}
use Rattle.sending.proofs.laws.Kinds.{new_states_sent}

module _ (P : Plan) (s : plan_sound P ≡ true) (x : BoxState) where
  pub states_sent :
      Sends P (new_states P x) (other_boxes P (own_of x))
      (carried (new_state (own_of x) (own_of x) (record { ballot = x.core.ballot; clock = clock_stamp P x; table = x.core.table })))
  unfolding new_states
  states_sent = new_states_sent P s (own_of x) x (record { ballot = x.core.ballot; clock = clock_stamp P x; table = x.core.table })
