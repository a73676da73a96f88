-- `writer::put::put_section` meets its contract.
use Rattle.writer.proofs.laws.Sections.{Filled}
use Rattle.writer.proofs.put.put_section.Given as goal

abbrev pub invariant-loop-part : goal.invariant-loop-part
invariant-loop-part g l = let part = g.T.Part in Filled part.codec part.WIDTH part.wide l.parts l.initial.t l.t l.used l.part-index
