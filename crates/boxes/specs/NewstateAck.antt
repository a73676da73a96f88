-- 8 NEWSTATE_ACK: a box leads (Figure 4, lines 63-68).
use Rattle.std.specs.Prelude.{◌&&◌}
use Rattle.house.specs.Pairs.{same_ballot}
use Rattle.house.specs.declared.Ballot.{Ballot}
use Rattle.house.specs.declared.Plan.{Plan}
use Rattle.records.specs.Answers.{or_no, Answer, done}
use Rattle.records.specs.declared.answers.Refusal.TheVariants.{WrongStatus, WrongBallot}
use Rattle.boxes.specs.Box.{is_recovering, put_mode}
use Rattle.boxes.specs.Out.{Out, under}
use Rattle.boxes.specs.Ready.{hand_out, handing}
use Rattle.boxes.specs.declared.BoxState.{BoxState}
use Rattle.boxes.specs.declared.Status.TheVariants.{Leader}

-- leader (line 65)
unfoldable pub leading : BoxState → BoxState
leading x = put_mode x Leader x.core.ballot x.core.cballot

-- what it is answered
abbrev pub newstate_ack_answer : BoxState → Ballot → Answer
newstate_ack_answer x b =
    -- recovering, ballot and cballot equal (lines 63-64)
    or_no (is_recovering x.core.status) WrongStatus
    (or_no (same_ballot b x.core.ballot && same_ballot b x.core.cballot) WrongBallot
    done)

-- ready jobs go out (lines 66-68)
unfoldable pub on_newstate_ack : Plan → BoxState → Ballot → Out
on_newstate_ack P x b = under (newstate_ack_answer x b) (handing (hand_out P (leading x)))
