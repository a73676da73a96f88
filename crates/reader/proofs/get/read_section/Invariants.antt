-- `reader::get::read_section` meets its contract.
use Rattle.reader.proofs.laws.Turns.{Taken}
use Rattle.reader.proofs.get.read_section.Given as goal

abbrev pub invariant-loop-i : goal.invariant-loop-i
invariant-loop-i g l = let T = g.T.Part in Taken T.codec g.row.N T.nothing l.s l.n l.parts l.i
