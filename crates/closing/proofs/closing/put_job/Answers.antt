-- `closing::closing::put_job` meets its contract.
use Rattle.closing.specs.Closing.{job_report}
use Rattle.std.specs.Prelude.{Option}
use Rattle.house.specs.declared.Stamp.{Stamp}
use Rattle.closing.specs.declared.endings.JobEnd.{JobEnd}
use Rattle.closing.specs.Endings.{first_below, finished}
use Rattle.closing.specs.Holders.{Ended}
use Rattle.rehearsal.specs.declared.Night.{Night}
use Rattle.report.specs.Report.{job_text}
use Rattle.house.proofs.laws.Says.{plan_says}
use Rattle.house.specs.Plan.{boxes_of}
use Rattle.house.specs.declared.Plan.{Plan}
use Rattle.laws.specs.Tray.{onto}
use lib.ListN.{length}
use Prim.Native.Nat.{ℕ}
use mathlib.Core.Bool.{Bool}
use mathlib.Core.List.{List}
use mathlib.Core.Path.{◌≡◌, ap, ◌∙◌}
use Rattle.closing.proofs.closing.put_job.Goals as goal

line_is : (P : Plan) (night : Night) (j : ℕ) (e : JobEnd) (y : Bool) → Ended night j (boxes_of P) e → y ≡ finished P night j P.districts
    → job_text j e.first y ≡ job_report P night j
unfolding job_report
line_is P night j e y d f = ap (λ (x : Option Stamp). job_text j x y) d.first_is ∙ ap (job_text j (first_below night j (boxes_of P))) f

pub finished_below-finished-requires : goal.finished_below-finished-requires
finished_below-finished-requires c = (plan_says c.args.plan c.requires.0).districts_most

pub returns : goal.returns
unfolding boxes_of
returns c =
    let a = c.args in
    let q = c.job_line in
    let f = c.finished_below-finished in
    let v : (night : Night) → Ended night a.job (boxes_of a.plan) a.end
    → job_text a.job a.end.first f.result ≡ job_report a.plan night a.job =
    λ night d. line_is a.plan night a.job a.end f.result d (f.ensures night d.holders_are) in
    (q.ensures.0, λ night d. (q.ensures.1 ∙ ap length (v night d), q.ensures.2 ∙ ap (λ (l : List ℕ). onto l a.t.now) (v night d)))
