-- `post::room_of` meets its contract.
use Rattle.post.specs.Posting.{room_of}
use Rattle.laws.proofs.laws.Choice.{min_pick}
use Rattle.std.proofs.Common.{◌∙◌, arith}
use Rattle.post.proofs.room_of.Goals as goal

pub returns : goal.returns
unfolding room_of
returns c = (c.min.ensures ∙ min_pick _ _, omega (arith, c.min.ensures))
