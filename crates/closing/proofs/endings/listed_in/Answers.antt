-- `closing::endings::listed_in` meets its contract.
use Rattle.closing.specs.Holders.{marked_in}
use Rattle.house.specs.Marks.{has_mark}
use Rattle.house.specs.Pairs.{box_no}
use Rattle.laws.proofs.laws.Ranges.{some_in_range}
use Rattle.std.proofs.Common.{rules, ◌+◌}
use borrow.Author.Tests.{tests}
use Rattle.closing.proofs.endings.listed_in.Goals as goal

pub returns : goal.returns
unfolding marked_in
returns c = let a = c.args in some_in_range (λ i. has_mark a.holders (box_no (a.low.0 + i))) a.size c.any.ensures.ran (cc) (λ x b q k. search (rules, tests))
