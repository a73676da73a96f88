-- `house::marks::boxes_where` meets its contract.
use Rattle.std.proofs.Common.{rules, arith}
use borrow.Author.Tests.{tests}
use Rattle.laws.proofs.laws.Ranges.{fold_passed_in_range}
use Rattle.house.specs.Pairs.{box_no}
use Rattle.house.specs.Plan.{boxes_of}
use Rattle.house.specs.Marks.{marked, marks_of}
use Rattle.house.proofs.laws.Says.{boxes_most}
use Rattle.house.proofs.marks.boxes_where.Goals as goal

pub overflow_cast-boxes_of : goal.overflow_cast-boxes_of
overflow_cast-boxes_of g c = omega (arith, c.boxes_of.ensures.0, boxes_most c.args.plan c.requires.sound)

pub returns : goal.returns
unfolding marks_of
returns g c t same =
    rw c.no_marks.ensures at
    (fold_passed_in_range box_no t marked (boxes_of c.args.plan) c.fold.ensures.ran (cc) c.map.ensures.closure c.filter.ensures.closure
    (λ x y q k. search (rules, tests))
    (λ x b q k. search (rules, tests, same))
    (λ a x b q k. search (rules, tests)))
