-- `post::extend` meets its contract.
use Rattle.post.proofs.laws.Index.{indexed_more}
use Rattle.std.proofs.Common.{rules, arith, ◌∙◌}
use lib.ListN.{length-set}
use Rattle.post.proofs.extend.Goals as goal

pub loop-preserved : goal.loop-preserved
loop-preserved c =
    let l = c.loop in
    let q = c.next_start-next in (
      indexed_more _ _ _ l.index l.last l.invariant.0 q.result (search rules) (search rules) q.ensures.0 (search rules),
      length-set _ _ _ ∙ l.invariant.1,
      omega (arith, l.invariant.2),
    )
