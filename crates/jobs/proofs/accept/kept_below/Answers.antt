-- `jobs::accept::kept_below` meets its contract.
use Rattle.std.proofs.Common.{rules, ℕ, Bool, not, ◌||◌}
use borrow.Author.Tests.{tests}
use Rattle.laws.proofs.laws.Ranges.{all_in_range}
use Rattle.house.specs.Pairs.{district, is_no_ballot, same_ballot}
use Rattle.house.specs.Plan.{names}
use Rattle.boxes.specs.Box.{kept_ballot}
use Rattle.boxes.specs.Accept.{kept_below}
use Rattle.jobs.proofs.accept.kept_below.Goals as goal

pub returns : goal.returns
unfolding kept_below is_no_ballot same_ballot
returns c =
    let a = c.args in
    let t : ℕ → Bool = λ d. not (names a.plan a.job (district d)) || not (is_no_ballot (kept_ballot a.x.now a.job (district d))) in
    all_in_range t a.n c.all.ensures.ran (cc) (λ x b q k. search (rules, tests))
