-- `reader::read::read_record` meets its contract.
use Rattle.std.proofs.Common.{rules, ◌≡◌, false}
use Rattle.house.specs.Plan.{plan_sound}
use Rattle.records.specs.Outcome.{read_answer, read_record}
use Rattle.records.proofs.laws.Outcome.{reads, read_promised}
use Rattle.reader.proofs.read.read_record.Goals as goal

pub returns-then-not-plan_sound : goal.returns-then-not-plan_sound
unfolding reads read_record read_answer
returns-then-not-plan_sound c = let p : plan_sound c.args.plan ≡ false = search rules in read_promised (rw p)
