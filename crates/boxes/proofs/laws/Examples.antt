-- Laws of what specs/Examples.antt defines.
use mathlib.Core.Bool.{true}
use mathlib.Core.Path.{◌≡◌, refl}
use lib.Count.{ones}
use lib.ListN.{replicate}
use Rattle.laws.specs.Choice.{pick}
use Rattle.laws.specs.Fold.{all_below}
use Rattle.laws.specs.Digits.{digit, part, with_digit}
use Rattle.laws.specs.Lex.{larger, largest}
use Rattle.laws.specs.Majority.{majority}
use Rattle.house.specs.Pairs.{stamp_lt, ballot_lt, same_stamp, same_ballot, is_no_stamp, is_no_ballot, time_fits, real_ballot}
use Rattle.house.specs.Plan.{size_of, quorum_of, is_job, mask_of, names, plan_sound, counts_sound, masks_sound}
use Rattle.house.specs.Plan.{mask_sound, is_box, boxes_of, home_of, ballot_in, none_or_in}
use Rattle.house.specs.Marks.{only_boxes, marked, marks_in, quorum_in, quorum_below, quorum_each}
use Rattle.records.specs.Format.{entry, or_plan, ballots_in, stamps_in, rows_in}
use Rattle.records.specs.Fields.{ballots, stamps, rows}
use Rattle.records.specs.Rec.{carried}
use Rattle.records.specs.Rules.{row_sound, rows_sound, start_row, is_no_row, spare_rows}
use Rattle.records.specs.Bytes.{head_bytes, ballot_bytes, stamp_bytes, row_bytes, encode}
use Rattle.boxes.specs.Box.{fresh, fresh_volatile, row_at, sent_at, kept_at, kept_ballot, kept_stamp, marks_at, listed_at, raised}
use Rattle.boxes.specs.Sound.{sound, box_sound, range_sound, ballots_sound, table_sound, sent_sound, kept_sound, job_kept_sound, all_kept_sound, marks_sound}
use Rattle.boxes.specs.Sound.{all_marks_sound, unlisted, list_sound, unvoted, vote_sound}
use Rattle.boxes.specs.Ready.{is_open, open_above, ready, better, next_below}
use Rattle.boxes.specs.Merge.{top_ballot, vote_row, committed_at, accepted_at, first_row, merged_row}
use Rattle.boxes.specs.Stand.{next_ballot}
use Rattle.boxes.specs.Examples.{examples}

pub all_examples : examples ≡ replicate 14 true
unfolding examples stamp_lt ballot_lt same_stamp same_ballot larger largest pick all_below digit part with_digit majority ones size_of quorum_of is_job mask_of
    names marked marks_in quorum_in quorum_below quorum_each entry or_plan ballots_in stamps_in rows_in ballots stamps rows carried head_bytes ballot_bytes
    stamp_bytes row_bytes encode fresh row_at sent_at is_open open_above ready better next_below raised top_ballot vote_row committed_at accepted_at first_row
    merged_row next_ballot sound box_sound range_sound ballots_sound table_sound sent_sound kept_sound job_kept_sound all_kept_sound marks_sound all_marks_sound
    unlisted list_sound unvoted vote_sound row_sound rows_sound start_row is_no_row spare_rows plan_sound counts_sound masks_sound mask_sound
    is_box boxes_of home_of
    ballot_in none_or_in is_no_stamp is_no_ballot time_fits real_ballot kept_at kept_ballot kept_stamp marks_at fresh_volatile listed_at only_boxes
all_examples = refl
