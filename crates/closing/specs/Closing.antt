-- The report at the end, with a sound plan: a line for each box by number, then a line for each job by number.
use Rattle.std.specs.Prelude.{ℕ, ◌+◌, ◌*◌, List, [], ◌++◌}
use Rattle.laws.specs.Choice.{pick}
use Rattle.laws.specs.Tray.{all_for}
use Rattle.house.specs.Limits.{most_boxes, most_jobs}
use Rattle.house.specs.Plan.{boxes_of, plan_sound}
use Rattle.house.specs.declared.Plan.{Plan}
use Rattle.rehearsal.specs.Night.{box_in}
use Rattle.rehearsal.specs.declared.Night.{Night}
use Rattle.report.specs.Report.{box_text, job_text, box_most, job_most}
use Rattle.closing.specs.Endings.{jobs_of, shown_of, first_below, finished}

-- `box B list` and the jobs of its list
unfoldable pub box_report : Night → ℕ → List ℕ
box_report n p = box_text p (jobs_of (box_in n p)) (shown_of (box_in n p))

-- `job K TIME DISTRICT yes|no`: the global stamp at the lowest box that has it committed, and whether it is finished
unfoldable pub job_report : Plan → Night → ℕ → List ℕ
job_report P n j = job_text j (first_below n j (boxes_of P)) (finished P n j P.districts)

unfoldable pub sound_report : Plan → Night → List ℕ
sound_report P n = all_for (box_report n) (boxes_of P) ++ all_for (job_report P n) P.jobs

-- nothing for an unsound plan
unfoldable pub night_report : Plan → Night → List ℕ
night_report P n = pick (plan_sound P) (sound_report P n) []

-- twelve lines of boxes and 64 of jobs
abbrev pub report_most : ℕ
report_most = most_boxes * box_most + most_jobs * job_most
