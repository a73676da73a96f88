-- `steps::judging::judge_bytes` meets its contract.
use Rattle.boxes.proofs.laws.Sound.{sound_plan}
use Rattle.steps.proofs.judging.judge_bytes.Goals as goal

pub read_bytes-requires : goal.read_bytes-requires
read_bytes-requires c = sound_plan c.args.plan c.args.x.now c.requires

pub judge_read-requires : goal.judge_read-requires
judge_read-requires c = (c.requires, (c.args.bytes.now, c.read_bytes.ensures))

pub returns : goal.returns
returns c = c.judge_read.ensures.0 c.args.bytes.now c.read_bytes.ensures
