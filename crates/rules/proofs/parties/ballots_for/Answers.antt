-- `rules::parties::ballots_for` meets its contract.
use borrow.Author.Tests.{tests}
use Rattle.std.proofs.Common.{rules}
use Rattle.laws.proofs.laws.Ranges.{all_in_range}
use Rattle.records.specs.Rules.{ballot_for, ballots_for}
use Rattle.rules.proofs.parties.ballots_for.Goals as goal

pub returns : goal.returns
unfolding ballots_for
returns c = let a = c.args in all_in_range (ballot_for a.plan a.job a.ballots) a.n c.all.ensures.ran (cc) (λ x b q k. search (rules, tests))
