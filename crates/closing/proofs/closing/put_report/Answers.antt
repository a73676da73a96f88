-- `closing::closing::put_report` meets its contract.
use Rattle.closing.specs.Closing.{box_report, job_report, sound_report}
use Rattle.closing.specs.Ends.{AllEnded}
use Rattle.house.proofs.laws.Says.{plan_says, boxes_most}
use Rattle.house.specs.Plan.{boxes_of}
use Rattle.laws.specs.Tray.{onto, all_for}
use Rattle.laws.proofs.laws.Tray.{then}
use lib.ListN.{length}
use native.Mathlib.Omega.{arith}
use Prim.Native.Nat.{ℕ}
use mathlib.Core.List.{List}
use mathlib.Core.Path.{ap, subst, ◌∙◌}
use borrow.Author.Rules.{rules}
use Rattle.closing.proofs.closing.put_report.Goals as goal

pub put_boxes-boxed-requires : goal.put_boxes-boxed-requires
put_boxes-boxed-requires c = (omega (arith, c.boxes_of.ensures.0, boxes_most c.args.plan c.requires.0), search rules)

pub put_jobs-requires : goal.put_jobs-requires
put_jobs-requires c = (c.requires.0, (plan_says c.args.plan c.requires.0).jobs_most, search rules)

pub returns : goal.returns
unfolding sound_report
returns c =
    let a = c.args in
    let p = c.put_boxes-boxed in
    let q = c.put_jobs in
    let n = c.boxes_of.ensures.0 in
    let e = ap (all_for (box_report a.night)) n in
    let j = q.ensures.1 a.night (subst (λ (k : ℕ). AllEnded a.night k p.result.ends) n p.ensures.3) in
    let s =
    then (all_for (box_report a.night) (boxes_of a.plan)) (all_for (job_report a.plan a.night) a.plan.jobs) a.t.now _ _ _ _
    (p.ensures.1 ∙ ap length e) (p.ensures.2 ∙ ap (λ (l : List ℕ). onto l a.t.now) e) j.0 j.1 in
    (omega (arith, p.ensures.0, q.ensures.0), s.0, s.1)
