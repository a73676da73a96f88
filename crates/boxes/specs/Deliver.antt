-- 4 DELIVER: a job is delivered (Figure 4, lines 24-31).
use Rattle.std.specs.Prelude.{ℕ, not, ◌&&◌, [], Some}
use Rattle.house.specs.Limits.{committed_phase}
use Rattle.house.specs.Pairs.{stamp_lt, same_ballot}
use Rattle.house.specs.Plan.{names}
use Rattle.house.specs.declared.Plan.{Plan}
use Rattle.records.specs.Answers.{or_no, Answer, done}
use Rattle.records.specs.declared.answers.Refusal.TheVariants.{NotNamed, WrongStatus, WrongBallot, AlreadyDone}
use Rattle.records.specs.declared.Handout.{Handout}
use Rattle.boxes.specs.Box.{is_recovering, home_in, last_stamp, on_list, put_row, put_listed, raised}
use Rattle.boxes.specs.Out.{Out, does, under}
use Rattle.boxes.specs.declared.BoxState.{BoxState}

-- phase 3, both stamps, clock raised (lines 26-29), job added to the list (lines 30-31)
unfoldable pub delivered : BoxState → ℕ → Handout → BoxState
delivered x j y =
    put_listed (put_row x (raised x.core.clock y.global.time) j (record { phase = committed_phase; local = y.local; global = y.global })) j y.global

-- what it is answered
abbrev pub deliver_answer : Plan → BoxState → ℕ → Handout → Answer
deliver_answer P x j y =
    or_no (names P j (home_in P x)) NotNamed
    -- not recovering, ballot is cballot (line 25)
    (or_no (not (is_recovering x.core.status)) WrongStatus
    (or_no (same_ballot y.ballot x.core.cballot) WrongBallot
    -- stamp above the last delivered and job not on the list
    (or_no (stamp_lt (last_stamp x) y.global && not (on_list x j)) AlreadyDone
    done)))

unfoldable pub on_deliver : Plan → BoxState → ℕ → Handout → Out
on_deliver P x j y = under (deliver_answer P x j y) (does (delivered x j y) [] (Some j))
