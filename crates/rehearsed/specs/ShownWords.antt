-- The words of what the program shows: the plan and the orders among the lines typed, and the lists that stand in the report.
-- Plain definitions over the lines; nothing is proved here.
use Rattle.std.specs.Prelude.{ℕ, ◌<◌}
use mathlib.Core.List.{List, [], ◌∷◌, ◌++◌, foldl}
use Rattle.laws.specs.Choice.{pick}
use Rattle.laws.specs.Place.{At}
use Rattle.house.specs.declared.Plan.{Plan}
use Rattle.house.specs.declared.Order.{Order}
use Rattle.rehearsal.specs.Night.{box_in, whose, turn_of}
use Rattle.rehearsal.specs.declared.Night.{Night}
use Rattle.lines.specs.declared.Typed.{Typed}
use Rattle.lines.specs.declared.Typed.TheVariants.{Districts, Job, Given, Unreadable}
use Rattle.session.specs.Desk.{empty_desk, districts_here, job_here, with_districts, with_job, fixed_desk}
use Rattle.session.specs.declared.Desk.{Desk}
use Rattle.report.specs.Texts.{turn_text}
use Rattle.session.specs.World.{World, act}
use Rattle.session.specs.Whole.{first_world}
use Rattle.closing.specs.Endings.{first_jobs, shown_of}
use Rattle.rehearsed.specs.Runs.{Stage, answered}

-- ---- the plan typed

-- the desk after a line: a plan line in place draws, an order fixes, an unreadable line does nothing
unfoldable pub desk_after : Desk → Typed → Desk
desk_after d (Districts g) = pick (districts_here d) (with_districts d g) d
desk_after d (Job m) = pick (job_here d) (with_job d m) d
desk_after d (Given o) = fixed_desk d
desk_after d Unreadable = d

abbrev pub desk_of : List Typed → Desk
desk_of lines = foldl desk_after empty_desk lines

-- the plan of some lines
abbrev pub plan_of : List Typed → Plan
plan_of lines = (desk_of lines).plan

-- ---- the orders typed

-- the order that a line gives to the rehearsal; a plan line and an unreadable line give none
unfoldable pub asked : Typed → List Order
asked (Districts g) = []
asked (Job m) = []
asked (Given o) = o ∷ []
asked Unreadable = []

-- the orders of some lines, as they were typed
unfoldable pub asked_by : List Typed → List Order
asked_by [] = []
asked_by (o ∷ lines) = asked o ++ asked_by lines

-- ---- the program

-- the program after some lines, with a lent post of any bytes
abbrev pub played : List ℕ → List Typed → World
played lent lines = foldl act (first_world lent) lines

-- its night and post
abbrev pub stage_of : World → Stage
stage_of w = record { night = w.night; post = w.post }

-- what the rehearsal's answer to an order is as a line: `ok N` with the records written, or `no N`
unfoldable pub answer_shown : Plan → Stage → Order → List ℕ
answer_shown P r o =
    turn_text (turn_of P r.night (whose P r.night r.post o) (answered P r o)).answer

-- the jobs that stand behind `box P list` in the report of a night
unfoldable pub jobs_shown : Night → ℕ → List ℕ
jobs_shown n p = first_jobs (box_in n p) (shown_of (box_in n p))

-- two lists of jobs have those that they both have in one order: a job that stands before another in the one stands before it in the other
pub record InOneOrder (a b : List ℕ) : Type 0 where
  pub says : (i j k n m l : ℕ) → i < j → At a i m → At a j l → At b k m → At b n l → k < n
