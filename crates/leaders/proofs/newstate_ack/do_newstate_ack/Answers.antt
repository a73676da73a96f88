-- `leaders::newstate_ack::do_newstate_ack` meets its contract.
use Rattle.std.proofs.Common.{rules, ◌≡◌, ◌∙◌}
use Rattle.boxes.specs.Ready.{hand_out}
use Rattle.boxes.specs.NewstateAck.{on_newstate_ack}
use Rattle.leaders.proofs.newstate_ack.do_newstate_ack.Goals as goal

pub hand_out-h-requires : goal.hand_out-h-requires
unfolding on_newstate_ack
hand_out-h-requires c = (c.requires.0, (c.lead.new.x.volatile, search rules))

pub returns : goal.returns
unfolding on_newstate_ack
returns c =
    let a = c.args in
    let y = c.lead.new.x in
    let q = c.hand_out-h.ensures y.volatile in
    let z : c.put_sent.new.x ≡ (hand_out a.plan y).box = c.put_sent.ensures ∙ q.0 in
    search rules
