-- Laws of what specs/Rec.antt defines.
use mathlib.Core.Path.{◌≡◌, refl}
use Rattle.laws.specs.Choice.{pick}
use Rattle.records.specs.Rec.{Rec, multicast, accept, accept_ack, deliver, newleader, newleader_ack, new_state, newstate_ack, unknown, carried, meaning}

-- a struct says what it carries
pub meaning_carried : (r : Rec) → meaning (carried r) ≡ r
unfolding meaning carried pick
meaning_carried (multicast from to j) = refl
meaning_carried (accept from to j y) = refl
meaning_carried (accept_ack from to j bs) = refl
meaning_carried (deliver from to j y) = refl
meaning_carried (newleader from to b) = refl
meaning_carried (newleader_ack from to y) = refl
meaning_carried (new_state from to y) = refl
meaning_carried (newstate_ack from to b) = refl
meaning_carried unknown = refl
