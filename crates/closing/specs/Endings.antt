-- What the report says of a night: the jobs of a box's list; the global stamp of a job at the lowest box that has it committed; and
-- whether a job is finished, which is: on the list of at least one box in each district that it names.
use Rattle.std.specs.Prelude.{ℕ, ◌+◌, ◌*◌, Bool, not, Option, Some, None, ◌||◌, List, [], ◌∷◌, ◌++◌, ltb, eqb}
use Rattle.laws.specs.Choice.{pick}
use Rattle.laws.specs.Fold.{upto, all_below, some_below}
use Rattle.house.specs.Limits.{most_jobs, committed_phase}
use Rattle.house.specs.Pairs.{district}
use Rattle.house.specs.declared.Stamp.{Stamp}
use Rattle.house.specs.declared.Row.{Row}
use Rattle.house.specs.Plan.{size_of, names}
use Rattle.house.specs.declared.Plan.{Plan}
use Rattle.boxes.specs.Box.{row_at, listed_at, on_list}
use Rattle.boxes.specs.declared.BoxState.{BoxState}
use Rattle.rehearsal.specs.Night.{box_in}
use Rattle.rehearsal.specs.declared.Night.{Night}

-- the first n jobs of a box's list, place by place
unfoldable pub first_jobs : BoxState → ℕ → List ℕ
first_jobs x n = upto (λ l i. l ++ ((listed_at x i).job ∷ [])) [] n

abbrev pub jobs_of : BoxState → List ℕ
jobs_of x = first_jobs x most_jobs

-- how many of them are on the list: 64 places are there (a sound box never counts more)
unfoldable pub shown_of : BoxState → ℕ
shown_of x = pick (ltb most_jobs x.core.count) most_jobs x.core.count

-- committed is phase 3
abbrev pub is_committed : Row → Bool
is_committed r = eqb r.phase committed_phase

-- what was found before, or the stamp of a row that is committed
unfoldable pub first_of : Option Stamp → Row → Option Stamp
first_of (Some stamp) r = Some stamp
first_of None r = pick (is_committed r) (Some r.global) None

abbrev pub nowhere : Option Stamp
nowhere = None

-- the lowest of the first n boxes that has the job committed: its global stamp there
unfoldable pub first_below : Night → ℕ → ℕ → Option Stamp
first_below n j k = upto (λ f p. first_of f (row_at (box_in n p) j)) nowhere k

-- on the list of at least one of some boxes, which stand one behind the other
unfoldable pub listed_in : Night → ℕ → ℕ → ℕ → Bool
listed_in n j low size = some_below (λ i. on_list (box_in n (low + i)) j) size

-- district d is done with job j: not named, or on the list of one of its boxes
unfoldable pub done_in : Plan → Night → ℕ → ℕ → Bool
done_in P n j d = not (names P j (district d)) || listed_in n j (d * size_of P) (size_of P)

-- so are the districts below k
unfoldable pub finished : Plan → Night → ℕ → ℕ → Bool
finished P n j k = all_below (done_in P n j) k
