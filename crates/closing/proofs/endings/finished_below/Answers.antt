-- `closing::endings::finished_below` meets its contract.
use Rattle.closing.specs.Holders.{held_in}
use Rattle.closing.proofs.laws.Holders.{held_finished}
use Rattle.laws.proofs.laws.Ranges.{all_in_range}
use Rattle.std.proofs.Common.{rules, ◌∙◌}
use borrow.Author.Tests.{tests}
use Rattle.closing.proofs.endings.finished_below.Goals as goal

pub returns : goal.returns
returns c =
    let a = c.args in
    λ night h.
    all_in_range (held_in a.plan a.job a.holders) a.n c.all.ensures.ran (cc) (λ x b q k. search (rules, tests))
    ∙ held_finished a.plan night a.job a.holders a.n h
