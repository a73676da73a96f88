-- `writer::put::put_section` meets its contract.
use Rattle.std.proofs.Common.{rules}
use Rattle.writer.proofs.laws.Sections.{filled_none, filled_turn, filled_all}
use Rattle.writer.proofs.put.put_section.Goals as goal

pub loop-part-init : goal.loop-part-init
loop-part-init g c = let T = g.T.Part in filled_none T.codec T.WIDTH T.wide c.args.parts.now c.args.t.now c.requires.room

pub loop-part-preserved : goal.loop-part-preserved
loop-part-preserved g c =
    let T = g.T.Part in
    let part = c.part-item in
    let turn =
    filled_turn T.codec T.WIDTH T.wide c.args.parts.now part.result part.is c.loop-part-test.true c.loop-part.invariant c.put.ensures (search rules) in
    rw c.WIDTH-used.ensures turn

pub returns-clause-used : goal.returns-clause-used
returns-clause-used g c = let T = g.T.Part in (filled_all T.codec T.WIDTH T.wide c.args.parts.now c.args.t.now (search rules) c.loop-part.invariant).0

pub returns-clause-bytes : goal.returns-clause-bytes
returns-clause-bytes g c = let T = g.T.Part in (filled_all T.codec T.WIDTH T.wide c.args.parts.now c.args.t.now (search rules) c.loop-part.invariant).1
