-- 7 NEW_STATE: a box follows the new leader (Figure 4, lines 57-62).
use Rattle.std.specs.Prelude.{[], ◌∷◌, None}
use Rattle.house.specs.Pairs.{same_ballot}
use Rattle.house.specs.declared.Ballot.{Ballot}
use Rattle.house.specs.declared.BoxNo.{BoxNo}
use Rattle.records.specs.Answers.{or_no, Answer, done}
use Rattle.records.specs.declared.answers.Refusal.TheVariants.{WrongStatus, WrongBallot}
use Rattle.records.specs.Rec.{newstate_ack}
use Rattle.records.specs.declared.NewState.{NewState}
use Rattle.boxes.specs.Box.{is_recovering, own_of, put_mode, put_table}
use Rattle.boxes.specs.Out.{Out, does, under}
use Rattle.boxes.specs.declared.BoxState.{BoxState}
use Rattle.boxes.specs.declared.Status.TheVariants.{Follower}

-- follower, cballot set, clock and table taken (lines 59-61)
unfoldable pub followed : BoxState → NewState → BoxState
followed x y = put_mode (put_table x y.clock.time y.table) Follower x.core.ballot y.ballot

-- what it is answered
abbrev pub new_state_answer : BoxState → Ballot → Answer
new_state_answer x b =
    -- recovering, ballot equal (line 58)
    or_no (is_recovering x.core.status) WrongStatus
    (or_no (same_ballot b x.core.ballot) WrongBallot
    done)

-- send 8 (line 62)
unfoldable pub on_new_state : BoxState → BoxNo → NewState → Out
on_new_state x from y = under (new_state_answer x y.ballot) (does (followed x y) (newstate_ack (own_of x) from y.ballot ∷ []) None)
