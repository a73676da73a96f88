-- `reader::get::read_section` meets its contract.
use Rattle.std.proofs.Common.{rules, sym, ◌∙◌}
use Rattle.reader.proofs.laws.Turns.{taken_none, taken_turn, taken_all}
use Rattle.reader.proofs.get.read_section.Goals as goal

pub loop-i-init : goal.loop-i-init
loop-i-init g c = taken_none c.requires.few c.none-parts.ensures

pub loop-i-preserved : goal.loop-i-preserved
loop-i-preserved g c = taken_turn (g.T.Part.wide ∙ sym c.WIDTH.ensures) (search rules) c.loop-i.invariant c.get.ensures

pub returns : goal.returns
returns g c = taken_all (search rules) c.loop-i.invariant
