-- `jobs::accept_ack::when_marked` meets its contract.
use Rattle.std.proofs.Common.{rules, ◌≡◌, ◌∙◌}
use Rattle.laws.specs.Choice.{pick}
use Rattle.boxes.specs.Ready.{hand_out}
use Rattle.boxes.specs.AcceptAck.{when_marked}
use Rattle.jobs.proofs.accept_ack.when_marked.Goals as goal

pub hand_out-h-requires : goal.hand_out-h-requires
unfolding when_marked pick
hand_out-h-requires c = let y = c.commit.new.x in (c.requires.0, (y.volatile, search rules))

pub returns-then-is_enough : goal.returns-then-is_enough
unfolding when_marked pick
returns-then-is_enough c =
    let a = c.args in
    let y = c.commit.new.x in
    let q = c.hand_out-h.ensures y.volatile in
    let z : c.put_sent.new.x ≡ (hand_out a.plan y).box = c.put_sent.ensures ∙ q.0 in
    search rules
