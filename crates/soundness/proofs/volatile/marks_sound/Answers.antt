-- `soundness::volatile::marks_sound` meets its contract.
use Rattle.std.proofs.Common.{rules, ◌∙◌, ℕ, Bool}
use borrow.Author.Tests.{tests}
use Rattle.laws.proofs.laws.Ranges.{all_in_zip}
use Rattle.house.specs.Marks.{no_marks}
use Rattle.soundness.specs.Pairs.{job_marks_sound}
use Rattle.soundness.proofs.laws.Pairs.{marks_below, marks_is, unmarked}
use Rattle.soundness.proofs.volatile.marks_sound.Goals as goal

pub returns : goal.returns
unfolding marks_below
returns c =
    let a = c.args in
    let t : ℕ × ℕ → Bool = λ p. job_marks_sound a.plan p.0 p.1 in
    all_in_zip t 64 a.x.now.volatile.marks no_marks c.all.new.self c.all.ensures.ran c.zip.ensures.first c.zip.ensures.second.0
    (unmarked a.plan)
    (λ x b q k. search (rules, tests))
    ∙ marks_is a.plan a.x.now
