-- What a session's closing report shows of a world, and a plan as a session names it.
use Rattle.std.specs.Prelude.{ℕ, List, ◌++◌, map, length, replicate, take}
use Rattle.house.specs.Limits.{most_jobs}
use Rattle.house.specs.declared.Plan.{Plan}
use Rattle.boxes.specs.declared.BoxState.{BoxState}
use Rattle.boxes.specs.declared.Listed.{Listed}
use Rattle.world.specs.World.{World}

-- the districts, and a mask for each job
abbrev pub plan : ℕ → List ℕ → Plan
plan districts masks = record { districts = districts; jobs = length masks; masks = take most_jobs (masks ++ replicate most_jobs 0) }

-- the delivered list of each box
abbrev pub lists : World → List (List Listed)
lists w = map (λ (x : BoxState). take x.core.count x.core.list) w.boxes
