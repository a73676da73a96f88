-- 3 ACCEPT_ACK: a leader counts marks, commits, and hands out what is ready (Figure 4, lines 17-23).
use Rattle.std.specs.Prelude.{ℕ, Bool, not, ◌&&◌, ◌||◌, List, [], get_or, eqb, None}
use Rattle.laws.specs.Choice.{pick}
use Rattle.laws.specs.Fold.{all_below}
use Rattle.house.specs.Limits.{committed_phase}
use Rattle.house.specs.Pairs.{district, no_ballot, same_ballot}
use Rattle.house.specs.declared.Ballot.{Ballot}
use Rattle.house.specs.declared.BoxNo.{BoxNo}
use Rattle.house.specs.Plan.{names}
use Rattle.house.specs.declared.Plan.{Plan}
use Rattle.house.specs.Marks.{has_mark, marked, quorum_each}
use Rattle.records.specs.Answers.{or_no, Answer, done}
use Rattle.records.specs.declared.answers.Refusal.TheVariants.{NotNamed, WrongStatus, WrongBallot, AlreadyDone}
use Rattle.boxes.specs.Box.{is_leader, own_of, home_in, row_at, kept_ballot, kept_stamp, marks_at, put_row, put_marks}
use Rattle.boxes.specs.Out.{Out, does, under}
use Rattle.boxes.specs.Ready.{hand_out, handing}
use Rattle.boxes.specs.declared.BoxState.{BoxState}
use Rattle.boxes.specs.Accept.{latest_kept}

-- each named district's ballot equals the kept one, and the own one cballot (lines 17-18)
unfoldable pub agree_below : Plan → BoxState → ℕ → List Ballot → ℕ → Bool
agree_below P x j bs n = all_below (λ d. not (names P j (district d)) || same_ballot (get_or bs d no_ballot) (kept_ballot x j (district d))) n

unfoldable pub agree : Plan → BoxState → ℕ → List Ballot → Bool
agree P x j bs = agree_below P x j bs P.districts && same_ballot (get_or bs (home_in P x).0 no_ballot) x.core.cballot

-- with the own mark and a quorum in every named district (line 17)
unfoldable pub enough : Plan → BoxState → ℕ → Bool
enough P x j = has_mark (marks_at x j) (own_of x) && quorum_each P j (marks_at x j)

-- phase 3, global stamp the largest kept (lines 19-20), local the own kept (H)
unfoldable pub committed : Plan → BoxState → ℕ → BoxState
committed P x j =
    put_row x x.core.clock j (record { phase = committed_phase; local = kept_stamp x j (home_in P x); global = latest_kept P x j P.districts })

unfoldable pub when_marked : Plan → BoxState → ℕ → Out
when_marked P x j = pick (enough P x j) (handing (hand_out P (committed P x j))) (does x [] None)

-- what it is answered
abbrev pub accept_ack_answer : Plan → BoxState → BoxNo → ℕ → List Ballot → Answer
accept_ack_answer P x from j bs =
    or_no (names P j (home_in P x)) NotNamed
    -- leader only (line 18)
    (or_no (is_leader x.core.status) WrongStatus
    (or_no (agree P x j bs) WrongBallot
    -- phase 3 or already marked
    (or_no (not (eqb (row_at x j).phase committed_phase) && not (has_mark (marks_at x j) from)) AlreadyDone
    done)))

unfoldable pub on_accept_ack : Plan → BoxState → BoxNo → ℕ → List Ballot → Out
on_accept_ack P x from j bs = under (accept_ack_answer P x from j bs) (when_marked P (put_marks x j (marked (marks_at x j) from)) j)
