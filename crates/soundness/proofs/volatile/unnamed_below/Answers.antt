-- `soundness::volatile::unnamed_below` meets its contract.
use Rattle.std.proofs.Common.{rules, ℕ, Bool, ◌||◌, ◌==◌}
use borrow.Author.Tests.{tests}
use Rattle.laws.proofs.laws.Ranges.{all_in_range}
use Rattle.house.specs.Marks.{marks_in}
use Rattle.house.specs.Pairs.{district}
use Rattle.house.specs.Plan.{names}
use Rattle.soundness.specs.Pairs.{unnamed_below}
use Rattle.soundness.proofs.volatile.unnamed_below.Goals as goal

pub returns : goal.returns
unfolding unnamed_below
returns c =
    let a = c.args in
    let t : ℕ → Bool = λ d. names a.plan a.job (district d) || marks_in a.plan a.marks (district d) == 0 in
    all_in_range t a.plan.districts c.all.ensures.ran (cc) (λ x b q k. search (rules, tests))
