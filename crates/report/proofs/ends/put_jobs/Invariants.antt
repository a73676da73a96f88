-- `report::ends::put_jobs` meets its contract.
use Rattle.report.specs.Report.{jobs_text}
use Rattle.laws.specs.Tray.{onto}
use Rattle.std.proofs.Common.{◌≡◌, ◌*◌, ◌≤◌, length}
use Rattle.report.proofs.ends.put_jobs.Given as goal

abbrev pub invariant-loop-job : goal.invariant-loop-job
invariant-loop-job l =
    (l.used ≤ 4 * l.job-index) × (l.used ≡ length (jobs_text l.fn.list l.job-index)) × (l.t ≡ onto (jobs_text l.fn.list l.job-index) l.initial.t)
