-- The rules that a record's values obey, one definition a kind in document 01's words, and the rows of a table.
use Rattle.std.specs.Prelude.{ℕ, Bool, false, not, ◌&&◌, ◌||◌, List, get_or, ltb, eqb}
use Rattle.laws.specs.Choice.{pick}
use Rattle.laws.specs.Fold.{all_below}
use Rattle.house.specs.Limits.{most_districts, most_jobs, no_job, start_phase, proposed_phase, accepted_phase, committed_phase}
use Rattle.house.specs.Pairs.{district, no_stamp, no_ballot, no_row, stamp_lt, ballot_lt, is_no_stamp, is_no_ballot, time_fits, stamp_of, ballot_of}
use Rattle.house.specs.declared.Stamp.{Stamp}
use Rattle.house.specs.declared.Ballot.{Ballot}
use Rattle.house.specs.declared.BoxNo.{BoxNo}
use Rattle.house.specs.declared.District.{District}
use Rattle.house.specs.declared.Row.{Row}
use Rattle.house.specs.Plan.{is_box, is_office, is_job, home_of, same_home, names, ballot_in, none_or_in, stamp_named}
use Rattle.house.specs.declared.Plan.{Plan}
use Rattle.records.specs.Format.{known, ballots_in, stamps_in, rows_in, has_job}
use Rattle.records.specs.Rec.{Rec, multicast, accept, accept_ack, deliver, newleader, newleader_ack, new_state, newstate_ack, unknown, meaning}
use Rattle.records.specs.declared.Record.{Record}

-- a clock is a stamp of the sender's district; its time may be 0
unfoldable pub clock_of : District → Stamp → Bool
clock_of d s = time_fits s.time && eqb s.district.0 d.0

-- phase 3 has both stamps: the local of the own district, the global of a named one, global not below local
unfoldable pub both_stamps : Plan → ℕ → District → Stamp → Stamp → Bool
both_stamps P j d l g = stamp_of d l && (stamp_named P j g && not (stamp_lt g l))

-- phase 0 has no stamps
unfoldable pub start_row : Row → Bool
start_row r = eqb r.phase start_phase && (is_no_stamp r.local && is_no_stamp r.global)

-- phases 1 and 2 have a local stamp only
unfoldable pub open_row : District → Row → Bool
open_row d r = (eqb r.phase proposed_phase || eqb r.phase accepted_phase) && (stamp_of d r.local && is_no_stamp r.global)

unfoldable pub done_row : Plan → ℕ → District → Row → Bool
done_row P j d r = eqb r.phase committed_phase && both_stamps P j d r.local r.global

-- a row of district d for job j; a job that doesn't name the district is in phase 0
unfoldable pub row_sound : Plan → District → ℕ → Row → Bool
row_sound P d j r = start_row r || (names P j d && (open_row d r || done_row P j d r))

unfoldable pub rows_sound : Plan → District → List Row → ℕ → Bool
rows_sound P d t n = all_below (λ j. row_sound P d j (get_or t j no_row)) n

-- a NEW_STATE has no phase 1
unfoldable pub none_proposed : List Row → ℕ → Bool
none_proposed t n = all_below (λ j. not (eqb (get_or t j no_row).phase proposed_phase)) n

-- in 3 ballot d is of a box of district d if the job names it, none if not
unfoldable pub ballot_for : Plan → ℕ → List Ballot → ℕ → Bool
ballot_for P j bs d = pick (names P j (district d)) (ballot_in P (district d) (get_or bs d no_ballot)) (is_no_ballot (get_or bs d no_ballot))

unfoldable pub ballots_for : Plan → ℕ → List Ballot → ℕ → Bool
ballots_for P j bs n = all_below (ballot_for P j bs) n

-- from and to are boxes
unfoldable pub boxes : Plan → BoxNo → BoxNo → Bool
boxes P from to = is_box P from && is_box P to

-- kinds 4 to 8 stay in one district
unfoldable pub neighbours : Plan → BoxNo → BoxNo → Bool
neighbours P from to = boxes P from to && same_home P from to

-- in 7 and 8 from differs from to
unfoldable pub others : Plan → BoxNo → BoxNo → Bool
others P from to = neighbours P from to && not (eqb from.0 to.0)

unfoldable pub rules : Plan → Rec → Bool
-- in 1 from may be the office
rules P (multicast from to j) = ((is_box P from || is_office P from) && is_box P to) && is_job P j
-- the ballot is the sender's, the stamp has its district, which is named
rules P (accept from to j y) =
    (boxes P from to && is_job P j) && (ballot_of from y.ballot && (stamp_of (home_of P from) y.stamp && names P j (home_of P from)))
-- the sender's district is named
rules P (accept_ack from to j bs) = (boxes P from to && is_job P j) && (names P j (home_of P from) && ballots_for P j bs P.districts)
-- phase 3 rules hold; that the job names the district is asked later (6)
rules P (deliver from to j y) = (neighbours P from to && is_job P j) && (ballot_of from y.ballot && both_stamps P j (home_of P from) y.local y.global)
rules P (newleader from to b) = neighbours P from to && ballot_of from b
-- the ballot's box is the addressee; cballot is lower than ballot, and none or of that district
rules P (newleader_ack from to y) =
    (neighbours P from to && ballot_of to y.ballot)
    &&
    ((ballot_lt y.cballot y.ballot && none_or_in P (home_of P from) y.cballot)
    && (clock_of (home_of P from) y.clock && rows_sound P (home_of P from) y.table P.jobs))
rules P (new_state from to y) =
    (others P from to && ballot_of from y.ballot)
    && (clock_of (home_of P from) y.clock && (rows_sound P (home_of P from) y.table P.jobs && none_proposed y.table P.jobs))
rules P (newstate_ack from to b) = others P from to && ballot_of to b
rules P unknown = false

-- the struct's places behind each section's count are none, and so is the job of a kind that has none
unfoldable pub spare_ballots : List Ballot → ℕ → Bool
spare_ballots bs n = all_below (λ i. ltb i n || is_no_ballot (get_or bs i no_ballot)) most_districts

unfoldable pub spare_stamps : List Stamp → ℕ → Bool
spare_stamps ss n = all_below (λ i. ltb i n || is_no_stamp (get_or ss i no_stamp)) 2

unfoldable pub is_no_row : Row → Bool
is_no_row r = start_row r

unfoldable pub spare_rows : List Row → ℕ → Bool
spare_rows t n = all_below (λ i. ltb i n || is_no_row (get_or t i no_row)) most_jobs

unfoldable pub spare : Plan → Record → Bool
spare P r =
    (has_job r.kind || eqb r.job no_job)
    && ((spare_ballots r.ballots (ballots_in P r.kind) && spare_stamps r.stamps (stamps_in r.kind)) && spare_rows r.table (rows_in P r.kind))

-- a struct that carries a record whose values obey the rules
unfoldable pub valid : Plan → Record → Bool
valid P r = known r.kind && (spare P r && rules P (meaning r))
