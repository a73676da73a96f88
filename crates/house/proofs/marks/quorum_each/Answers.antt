-- `house::marks::quorum_each` meets its contract.
use Rattle.std.proofs.Common.{rules, ℕ, Bool, not, ◌||◌}
use borrow.Author.Tests.{tests}
use Rattle.laws.proofs.laws.Ranges.{all_in_range}
use Rattle.house.specs.Pairs.{district}
use Rattle.house.specs.Plan.{names}
use Rattle.house.specs.Marks.{quorum_in, quorum_below, quorum_each}
use Rattle.house.proofs.marks.quorum_each.Goals as goal

pub returns : goal.returns
unfolding quorum_each quorum_below
returns c =
    let a = c.args in
    let t : ℕ → Bool = λ d. not (names a.plan a.job (district d)) || quorum_in a.plan a.marks (district d) in
    all_in_range t a.plan.districts c.all.ensures.ran (cc) (λ x b q k. search (rules, tests))
