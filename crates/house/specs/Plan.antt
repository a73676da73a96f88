-- The plan: how many districts and jobs, which boxes a district has, which districts a job names, and whether all that is sound.
use Rattle.std.specs.Prelude.{ℕ, ◌*◌, ◌/◌, ◌^◌, Bool, ◌&&◌, ◌||◌, get_or, leb, ltb, eqb}
use Rattle.laws.specs.Choice.{pick}
use Rattle.laws.specs.Fold.{all_below}
use Rattle.laws.specs.Digits.{digit}
use Rattle.laws.specs.Majority.{majority}
use Rattle.house.specs.Limits.{most_districts, most_jobs}
use Rattle.house.specs.Pairs.{district, box_no, real_stamp, real_ballot, is_no_ballot}
use Rattle.house.specs.declared.District.{District}
use Rattle.house.specs.declared.BoxNo.{BoxNo}
use Rattle.house.specs.declared.Stamp.{Stamp}
use Rattle.house.specs.declared.Ballot.{Ballot}
use Rattle.house.specs.declared.Plan.{Plan}

-- how many boxes a district has: 3 in every plan today
unfoldable pub size_of : Plan → ℕ
size_of P = 3

-- a quorum is the smallest majority of a district's boxes
unfoldable pub quorum_of : Plan → ℕ
quorum_of P = majority (size_of P)

-- boxes are numbered from 0, district by district; the office has the next number
unfoldable pub boxes_of : Plan → ℕ
boxes_of P = P.districts * size_of P

unfoldable pub office_of : Plan → BoxNo
office_of P = box_no (boxes_of P)

unfoldable pub home_of : Plan → BoxNo → District
home_of P p = district (p.0 / size_of P)

unfoldable pub is_box : Plan → BoxNo → Bool
is_box P p = ltb p.0 (boxes_of P)

unfoldable pub is_office : Plan → BoxNo → Bool
is_office P p = eqb p.0 (boxes_of P)

unfoldable pub is_job : Plan → ℕ → Bool
is_job P j = ltb j P.jobs

-- two boxes of one district
unfoldable pub same_home : Plan → BoxNo → BoxNo → Bool
same_home P p q = eqb (home_of P p).0 (home_of P q).0

-- the mask of a job; a number that is no job has none
unfoldable pub mask_of : Plan → ℕ → ℕ
mask_of P j = pick (is_job P j) (get_or P.masks j 0) 0

-- job j names district d
unfoldable pub names : Plan → ℕ → District → Bool
names P j d = digit (mask_of P j) d.0

-- a real ballot of a box of district d
unfoldable pub ballot_in : Plan → District → Ballot → Bool
ballot_in P d b = real_ballot b && (is_box P b.owner && eqb (home_of P b.owner).0 d.0)

unfoldable pub none_or_in : Plan → District → Ballot → Bool
none_or_in P d b = is_no_ballot b || ballot_in P d b

-- a real stamp of a district that job j names
unfoldable pub stamp_named : Plan → ℕ → Stamp → Bool
stamp_named P j s = real_stamp s && names P j s.district

-- a mask names districts 0 to G - 1, at least one: 1 to 2^G - 1
unfoldable pub mask_sound : ℕ → ℕ → Bool
mask_sound g m = leb 1 m && ltb m (2 ^ g)

-- 1 to 4 districts and 1 to 64 jobs
unfoldable pub counts_sound : Plan → Bool
counts_sound P = (leb 1 P.districts && leb P.districts most_districts) && (leb 1 P.jobs && leb P.jobs most_jobs)

unfoldable pub masks_sound : Plan → ℕ → Bool
masks_sound P n = all_below (λ j. mask_sound P.districts (get_or P.masks j 0)) n

unfoldable pub plan_sound : Plan → Bool
plan_sound P = counts_sound P && masks_sound P P.jobs
