-- `closing::closing::put_jobs` meets its contract.
use Rattle.closing.specs.Closing.{job_report}
use Rattle.closing.specs.Ends.{AllEnded}
use Rattle.report.specs.Report.{job_most}
use Rattle.house.specs.Plan.{boxes_of}
use Rattle.house.specs.declared.Plan.{Plan}
use Rattle.rehearsal.specs.declared.Night.{Night}
use Rattle.laws.specs.Tray.{onto, all_for}
use lib.ListN.{length}
use Prim.Native.Nat.{ℕ, ◌*◌, ◌≤◌}
use mathlib.Core.List.{List}
use mathlib.Core.Path.{◌≡◌}
use Rattle.closing.proofs.closing.put_jobs.Given as goal

-- the lines of the first j jobs
abbrev pub lines : Plan → Night → ℕ → List ℕ
lines plan night j = all_for (job_report plan night) j

abbrev pub invariant-loop-j : goal.invariant-loop-j
invariant-loop-j l =
    (l.used ≤ job_most * l.j)
    × ((night : Night) → AllEnded night (boxes_of l.plan) l.fn.ends
    → (l.used ≡ length (lines l.plan night l.j)) × (l.t ≡ onto (lines l.plan night l.j) l.initial.t))
