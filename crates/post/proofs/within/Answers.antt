-- `post::within` meets its contract.
use Rattle.laws.proofs.laws.Choice.{min_pick}
use Rattle.std.proofs.Common.{◌∙◌, arith}
use Rattle.post.proofs.within.Goals as goal

pub returns : goal.returns
returns c = (c.min.ensures ∙ min_pick _ _, omega (arith, c.min.ensures), omega (arith, c.min.ensures))
