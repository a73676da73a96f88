-- Kept ACCEPTs, marks and the vote, over the arrays and numbers alone.
use Rattle.std.specs.Prelude.{ℕ, Bool, ◌&&◌, ◌||◌, ◌==◌}
use Rattle.laws.specs.Fold.{all_below}
use Rattle.house.specs.Pairs.{district, is_no_ballot, is_no_stamp, stamp_of}
use Rattle.house.specs.declared.District.{District}
use Rattle.house.specs.declared.Ballot.{Ballot}
use Rattle.house.specs.declared.Stamp.{Stamp}
use Rattle.house.specs.Plan.{names, ballot_in}
use Rattle.house.specs.declared.Plan.{Plan}
use Rattle.house.specs.Marks.{marks_in, only_boxes}

-- one pair of ballot and stamp
unfoldable pub pair_sound : Plan → ℕ → District → Ballot → Stamp → Bool
pair_sound P j d b s = (is_no_ballot b && is_no_stamp s) || (names P j d && (ballot_in P d b && stamp_of d s))

-- the marks of job j
unfoldable pub unnamed_below : Plan → ℕ → ℕ → ℕ → Bool
unnamed_below P j m n = all_below (λ d. names P j (district d) || marks_in P m (district d) == 0) n

unfoldable pub job_marks_sound : Plan → ℕ → ℕ → Bool
job_marks_sound P j m = only_boxes P m && unnamed_below P j m P.districts
