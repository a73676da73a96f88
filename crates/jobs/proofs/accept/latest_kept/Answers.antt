-- `jobs::accept::latest_kept` meets its contract.
use Rattle.std.proofs.Common.{rules}
use borrow.Author.Tests.{tests}
use Rattle.laws.specs.Choice.{pick}
use Rattle.laws.specs.Lex.{larger}
use Rattle.laws.proofs.laws.Ranges.{fold_passed_in_range}
use Rattle.house.specs.Pairs.{district, stamp_lt, later_stamp}
use Rattle.house.specs.Plan.{names}
use Rattle.boxes.specs.Box.{kept_stamp}
use Rattle.boxes.specs.Accept.{latest_kept}
use Rattle.jobs.proofs.accept.latest_kept.Goals as goal

pub returns : goal.returns
unfolding latest_kept larger stamp_lt pick
returns c =
    let a = c.args in
    rw c.no_stamp.ensures at
    (fold_passed_in_range district (names a.plan a.job) (λ s d. later_stamp s (kept_stamp a.x.now a.job d)) a.n c.fold.ensures.ran (cc)
    c.map.ensures.closure c.filter.ensures.closure
    (λ x y q k. search (rules, tests))
    (λ x b q k. search (rules, tests))
    (λ s x b q k. search (rules, tests)))
