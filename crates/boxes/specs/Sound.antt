-- Sound: what document 01 asks of a box under a plan, clause by clause.
use Rattle.std.specs.Prelude.{ℕ, ◌-◌, ◌^◌, Bool, not, ◌&&◌, ◌||◌, leb, ltb, eqb}
use Rattle.laws.specs.Choice.{pick}
use Rattle.laws.specs.Fold.{all_below, some_below}
use Rattle.house.specs.Limits.{most_districts, most_jobs}
use Rattle.house.specs.Pairs.{district, stamp, stamp_lt, ballot_lt, same_ballot, is_no_stamp, is_no_ballot, time_fits, stamp_of, ballot_of}
use Rattle.house.specs.declared.District.{District}
use Rattle.house.specs.Plan.{boxes_of, is_box, is_job, home_of, names, ballot_in, none_or_in, stamp_named, plan_sound}
use Rattle.house.specs.declared.Plan.{Plan}
use Rattle.house.specs.Marks.{marks_in}
use Rattle.records.specs.Rec.{newleader_ack}
use Rattle.records.specs.declared.Ballotpaper.{Ballotpaper}
use Rattle.records.specs.Rules.{rules, rows_sound, spare_rows}
use Rattle.boxes.specs.Box.{is_leader, is_recovering, home_in, own_of, sent_at, listed_at, kept_ballot, kept_stamp, marks_at}
use Rattle.boxes.specs.declared.BoxState.{BoxState}
use Rattle.boxes.specs.declared.Vote.{Vote}

-- own number and clock in range
unfoldable pub range_sound : Plan → BoxState → Bool
range_sound P x = is_box P (own_of x) && time_fits x.core.clock

-- cballot at most ballot, and equal unless recovering; each none or of the own district; a leader's cballot is real and its own
unfoldable pub ballots_sound : Plan → BoxState → Bool
ballots_sound P x =
    ((not (ballot_lt x.core.ballot x.core.cballot) && (is_recovering x.core.status || same_ballot x.core.cballot x.core.ballot))
    && (none_or_in P (home_in P x) x.core.ballot && none_or_in P (home_in P x) x.core.cballot))
    && (not (is_leader x.core.status) || ballot_of (own_of x) x.core.cballot)

-- the rows of the plan's jobs obey the phases' rules; the others are as in a fresh box
unfoldable pub table_sound : Plan → BoxState → Bool
table_sound P x = rows_sound P (home_in P x) x.core.table P.jobs && spare_rows x.core.table P.jobs

-- flags have no rule; a number that is no job has none
unfoldable pub sent_sound : Plan → BoxState → Bool
sent_sound P x = all_below (λ j. is_job P j || not (sent_at x j)) most_jobs

-- an ACCEPT is kept only for a named district, by a box and with a stamp of that district
unfoldable pub kept_sound : Plan → BoxState → ℕ → District → Bool
kept_sound P x j d =
    (is_no_ballot (kept_ballot x j d) && is_no_stamp (kept_stamp x j d)) || (names P j d
    && (ballot_in P d (kept_ballot x j d) && stamp_of d (kept_stamp x j d)))

unfoldable pub job_kept_sound : Plan → BoxState → ℕ → Bool
job_kept_sound P x j = all_below (λ d. kept_sound P x j (district d)) most_districts

unfoldable pub all_kept_sound : Plan → BoxState → Bool
all_kept_sound P x = all_below (job_kept_sound P x) most_jobs

-- marks only of boxes in named districts
unfoldable pub marks_sound : Plan → BoxState → ℕ → Bool
marks_sound P x j = ltb (marks_at x j) (2 ^ boxes_of P) && all_below (λ d. names P j (district d) || eqb (marks_in P (marks_at x j) (district d)) 0) P.districts

unfoldable pub all_marks_sound : Plan → BoxState → Bool
all_marks_sound P x = all_below (marks_sound P x) most_jobs

-- the list: job i names the district, has a stamp of a named district, above the one before it, and stands there once
unfoldable pub listed_sound : Plan → BoxState → ℕ → Bool
listed_sound P x i =
    (names P (listed_at x i).job (home_in P x) && stamp_named P (listed_at x i).job (listed_at x i).stamp)
    && ((eqb i 0 || stamp_lt (listed_at x (i - 1)).stamp (listed_at x i).stamp) && not (some_below (λ k. eqb (listed_at x k).job (listed_at x i).job) i))

-- behind the list nothing is listed
unfoldable pub unlisted : BoxState → ℕ → Bool
unlisted x i = eqb (listed_at x i).job 0 && is_no_stamp (listed_at x i).stamp

unfoldable pub list_sound : Plan → BoxState → Bool
list_sound P x = leb x.core.count most_jobs && all_below (λ i. pick (ltb i x.core.count) (listed_sound P x i) (unlisted x i)) most_jobs

-- what a kept vote says: the kind 6 record for this box's ballot that held it
unfoldable pub paper_of : Plan → BoxState → Ballotpaper
paper_of P x =
    record {
      ballot = x.core.ballot;
      cballot = x.volatile.vote.cballot;
      clock = stamp x.volatile.vote.clock (home_of P x.volatile.vote.voter).0;
      table = x.volatile.vote.table;
    }

-- a kept vote is what a valid kind 6 record to this box for its ballot holds
unfoldable pub held_sound : Plan → BoxState → Bool
held_sound P x = rules P (newleader_ack x.volatile.vote.voter (own_of x) (paper_of P x)) && spare_rows x.volatile.vote.table P.jobs

-- no vote is kept
unfoldable pub unvoted : Vote → Bool
unvoted v = (eqb v.voter.0 0 && is_no_ballot v.cballot) && (eqb v.clock 0 && spare_rows v.table 0)

unfoldable pub vote_sound : Plan → BoxState → Bool
vote_sound P x = pick x.volatile.vote.held (held_sound P x) (unvoted x.volatile.vote)

-- sound: the plan and the box
unfoldable pub box_sound : Plan → BoxState → Bool
box_sound P x =
    ((range_sound P x && ballots_sound P x) && (table_sound P x && sent_sound P x))
    && ((all_kept_sound P x && all_marks_sound P x) && (list_sound P x && vote_sound P x))

unfoldable pub sound : Plan → BoxState → Bool
sound P x = plan_sound P && box_sound P x
