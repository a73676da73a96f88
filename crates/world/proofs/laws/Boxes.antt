-- A record that obeys the rules is addressed to a box of the plan.
use Prim.Native.Nat.{◌<◌}
use mathlib.Core.Bool.{true}
use mathlib.Core.Path.{◌≡◌}
use Rattle.house.specs.declared.BoxNo.{BoxNo}
use Rattle.house.specs.Plan.{boxes_of, is_box, plan_sound}
use Rattle.house.proofs.laws.Says.{box_says}
use Rattle.house.specs.declared.Plan.{Plan}
use Rattle.records.specs.Rec.{Rec, multicast, accept, accept_ack, deliver, newleader, newleader_ack, new_state, newstate_ack, unknown, addressee_of, carried}
use Rattle.records.proofs.laws.Obeys.{Obeys}
use Rattle.stays_sound.proofs.laws.Sends.{Good}
use Rattle.stays_sound.proofs.laws.Goods.{good_obeys}

-- a record that obeys the rules is addressed to a box
obeys_box : (P : Plan) (m : Rec) → Obeys P m → is_box P (addressee_of m) ≡ true
unfolding addressee_of carried
obeys_box P (multicast from to j) o = o.addressee
obeys_box P (accept from to j y) o = o.addressee
obeys_box P (accept_ack from to j bs) o = o.addressee
obeys_box P (deliver from to j y) o = o.near.addressee
obeys_box P (newleader from to b) o = o.near.addressee
obeys_box P (newleader_ack from to y) o = o.near.addressee
obeys_box P (new_state from to y) o = o.other.near.addressee
obeys_box P (newstate_ack from to b) o = o.other.near.addressee
obeys_box P unknown o = absurd o

-- and so is a good one
pub good_box : {P : Plan} {from : BoxNo} {m : Rec} → plan_sound P ≡ true → Good P from m → (addressee_of m).0 < boxes_of P
good_box {P} {from} {m} s g = box_says P (addressee_of m) (obeys_box P m (good_obeys s g))
