-- Laws of what specs/Examples.antt defines.
use mathlib.Core.Bool.{true, false}
use mathlib.Core.List.{[], ◌∷◌, map}
use mathlib.Core.Path.{◌≡◌, refl}
use lib.ListN.{replicate}
use Rattle.laws.specs.Choice.{pick}
use Rattle.laws.specs.Digits.{digit}
use Rattle.laws.specs.Fold.{all_below}
use Rattle.house.specs.Pairs.{stamp, ballot, box_no, stamp_lt, ballot_lt, same_stamp, same_ballot}
use Rattle.house.specs.Pairs.{is_no_stamp, is_no_ballot, time_fits, real_stamp, real_ballot, stamp_of}
use Rattle.house.specs.Pairs.{ballot_of}
use Rattle.house.specs.Plan.{size_of, boxes_of, is_box, is_office, is_job, home_of, same_home, mask_of, names, ballot_in, none_or_in, stamp_named}
use Rattle.house.specs.declared.Plan.{Plan}
use Rattle.records.specs.Format.{known, entry, or_plan, ballots_in, stamps_in, rows_in, has_job}
use Rattle.records.specs.Fields.{ballots, stamps, rows}
use Rattle.records.specs.Rec.{accept, newleader, carried}
use Rattle.records.specs.Rules.{clock_of, both_stamps, start_row, open_row, done_row, row_sound, rows_sound, none_proposed, ballot_for, ballots_for, boxes}
use Rattle.records.specs.Rules.{neighbours, others, rules, spare}
use Rattle.records.specs.Bytes.{head_bytes, ballot_bytes, stamp_bytes, row_bytes, encode, stamps_at, rows_at, length_of, shaped}
use Rattle.records.specs.Examples.{good, bad, shapeless}

-- job 0 names both districts, job 1 names district 0
abbrev pub two_districts : Plan
two_districts = record { districts = 2; jobs = 2; masks = 3 ∷ 1 ∷ [] }

pub good_obey : map (rules two_districts) good ≡ replicate 12 true
unfolding
    rules clock_of both_stamps start_row open_row done_row row_sound rows_sound none_proposed ballot_for ballots_for boxes
    neighbours others all_below pick digit stamp_lt ballot_lt same_stamp same_ballot is_no_stamp is_no_ballot time_fits real_stamp
    real_ballot stamp_of ballot_of size_of boxes_of is_box is_office is_job home_of same_home mask_of names ballot_in none_or_in
    stamp_named
good_obey = refl

pub bad_break : map (rules two_districts) bad ≡ replicate 31 false
unfolding
    rules clock_of both_stamps start_row open_row done_row row_sound rows_sound none_proposed ballot_for ballots_for boxes
    neighbours others all_below pick digit stamp_lt ballot_lt same_stamp same_ballot is_no_stamp is_no_ballot time_fits real_stamp
    real_ballot stamp_of ballot_of size_of boxes_of is_box is_office is_job home_of same_home mask_of names ballot_in none_or_in
    stamp_named
bad_break = refl

-- a NEWLEADER has no job
pub no_job_here : spare two_districts (record { kind = 5; from = box_no 0; to = box_no 1; job = 0; ballots = ballot 1 0 ∷ []; stamps = []; table = [] }) ≡ false
unfolding spare has_job entry
no_job_here = refl

pub no_shape : map (shaped two_districts) shapeless ≡ replicate 9 false
unfolding shaped known length_of rows_at stamps_at ballots_in stamps_in rows_in or_plan pick entry
no_shape = refl

-- document 01, example 14: NEWLEADER (1,0) from 0 to 1
pub newleader_bytes : (P : Plan) → encode P (carried (newleader (box_no 0) (box_no 1) (ballot 1 0))) ≡ 4 ∷ 5 ∷ 0 ∷ 1 ∷ 255 ∷ 1 ∷ 0 ∷ 1 ∷ 0 ∷ 0 ∷ 0 ∷ []
unfolding encode head_bytes ballot_bytes stamp_bytes row_bytes ballots stamps rows carried ballots_in stamps_in rows_in or_plan pick entry
newleader_bytes P = refl

-- numbers big end first, ballots before stamps: ACCEPT of job 0 from 0 to 3, ballot (258,0), stamp (66051,0)
pub accept_bytes : (P : Plan) → encode P (carried (accept (box_no 0) (box_no 3) 0 (record { ballot = ballot 258 0; stamp = stamp 66051 0 })))
    ≡ 4 ∷ 2 ∷ 0 ∷ 3 ∷ 0 ∷ 1 ∷ 1 ∷ 2 ∷ 0 ∷ 1 ∷ 0 ∷ 1 ∷ 2 ∷ 3 ∷ 0 ∷ 0 ∷ []
unfolding encode head_bytes ballot_bytes stamp_bytes row_bytes ballots stamps rows carried ballots_in stamps_in rows_in or_plan pick entry
accept_bytes P = refl
