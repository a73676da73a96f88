-- `post::next_start` meets its contract.
use Rattle.post.specs.Posting.{next_start, length_at}
use Rattle.laws.specs.Choice.{pick}
use Rattle.std.proofs.Common.{rules}
use borrow.Author.Tests.{tests}
use Rattle.post.proofs.next_start.Goals as goal

pub returns-then-at-used : goal.returns-then-at-used
unfolding next_start length_at pick
returns-then-at-used c = search (rules, tests)

pub returns : goal.returns
unfolding next_start pick
returns c = search (rules, tests)
