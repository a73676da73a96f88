-- The desk: what is known of the plan while lines come. A `districts` line is in place if none came before and no order; a `job` line
-- if `districts` came before and no order. Lines in place count, whatever their number; others change nothing.
use Rattle.std.specs.Prelude.{ℕ, ◌+◌, Bool, true, false, not, ◌&&◌, ◌||◌, set, replicate, leb}
use Rattle.laws.specs.Choice.{pick}
use Rattle.house.specs.Limits.{most_jobs}
use Rattle.house.specs.declared.Plan.{Plan}
use Rattle.session.specs.declared.Desk.{Desk}

-- a number as a byte of the plan: 255 stands for every larger one, and is as unsound
unfoldable pub capped : ℕ → ℕ
capped n = pick (leb 255 n) 255 n

-- a plan without districts and jobs
abbrev pub no_plan : Plan
no_plan = record { districts = 0; jobs = 0; masks = replicate most_jobs 0 }

abbrev pub empty_desk : Desk
empty_desk = record { plan = no_plan; drawn = false; fixed = false }

-- a `districts` line is in place: not after another, nor after an order
unfoldable pub districts_here : Desk → Bool
districts_here d = not (d.drawn || d.fixed)

-- a `job` line is in place: after `districts`, not after an order
unfoldable pub job_here : Desk → Bool
job_here d = d.drawn && not d.fixed

-- `districts g` in place
abbrev pub with_districts : Desk → ℕ → Desk
with_districts d g = record { plan = record { districts = capped g; jobs = d.plan.jobs; masks = d.plan.masks }; drawn = true; fixed = d.fixed }

-- one job more; 65 stands for more than 64
unfoldable pub one_job : Plan → ℕ → Plan
one_job P m =
    pick (leb most_jobs P.jobs)
    (record { districts = P.districts; jobs = most_jobs + 1; masks = P.masks })
    (record { districts = P.districts; jobs = P.jobs + 1; masks = set P.masks P.jobs (capped m) })

-- `job m` in place
abbrev pub with_job : Desk → ℕ → Desk
with_job d m = record { plan = one_job d.plan m; drawn = d.drawn; fixed = d.fixed }

-- an order fixes the plan
abbrev pub fixed_desk : Desk → Desk
fixed_desk d = record { plan = d.plan; drawn = d.drawn; fixed = true }
