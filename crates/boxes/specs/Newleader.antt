-- 5 NEWLEADER: a box joins a higher ballot and votes (Figure 4, lines 37-41).
use Rattle.std.specs.Prelude.{[], ◌∷◌, None}
use Rattle.house.specs.Pairs.{stamp, ballot_lt}
use Rattle.house.specs.declared.Stamp.{Stamp}
use Rattle.house.specs.declared.Ballot.{Ballot}
use Rattle.house.specs.declared.BoxNo.{BoxNo}
use Rattle.house.specs.declared.Plan.{Plan}
use Rattle.records.specs.Answers.{or_no, Answer, done}
use Rattle.records.specs.declared.answers.Refusal.TheVariants.{WrongBallot}
use Rattle.records.specs.Rec.{Rec, newleader_ack}
use Rattle.boxes.specs.Box.{own_of, home_in, no_vote, put_mode, put_vote}
use Rattle.boxes.specs.Out.{Out, does, under}
use Rattle.boxes.specs.declared.BoxState.{BoxState}
use Rattle.boxes.specs.declared.Status.TheVariants.{Recovering}

-- recovering, ballot set, vote dropped (lines 39-40)
unfoldable pub joined : BoxState → Ballot → BoxState
joined x b = put_vote (put_mode x Recovering b x.core.cballot) no_vote

-- the own clock as a stamp of the own district
unfoldable pub clock_stamp : Plan → BoxState → Stamp
clock_stamp P x = stamp x.core.clock (home_in P x).0

-- 6 as stored (line 41)
unfoldable pub vote_for : Plan → BoxState → BoxNo → Ballot → Rec
vote_for P x to b = newleader_ack (own_of x) to (record { ballot = b; cballot = x.core.cballot; clock = clock_stamp P x; table = x.core.table })

-- what it is answered
abbrev pub newleader_answer : BoxState → Ballot → Answer
newleader_answer x b =
    -- any status; ballot above own ballot (line 38)
    or_no (ballot_lt x.core.ballot b) WrongBallot
    done

unfoldable pub on_newleader : Plan → BoxState → BoxNo → Ballot → Out
on_newleader P x from b = under (newleader_answer x b) (does (joined x b) (vote_for P x from b ∷ []) None)
