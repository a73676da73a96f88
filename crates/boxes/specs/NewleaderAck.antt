-- 6 NEWLEADER_ACK: votes are counted; a quorum of them is merged (Figure 4, lines 42-56).
use Rattle.std.specs.Prelude.{ℕ, Bool, true, not, ◌&&◌, List, [], ◌∷◌, leb, ltb, eqb, None}
use Rattle.laws.specs.Choice.{pick}
use Rattle.house.specs.Pairs.{same_ballot}
use Rattle.house.specs.declared.Ballot.{Ballot}
use Rattle.house.specs.declared.BoxNo.{BoxNo}
use Rattle.house.specs.Plan.{quorum_of}
use Rattle.house.specs.declared.Plan.{Plan}
use Rattle.records.specs.Answers.{or_no, Answer, done}
use Rattle.records.specs.declared.answers.Refusal.TheVariants.{WrongStatus, WrongBallot, AlreadyDone}
use Rattle.records.specs.Rec.{Rec, new_state}
use Rattle.records.specs.declared.Ballotpaper.{Ballotpaper}
use Rattle.boxes.specs.Box.{is_recovering, own_of, put_vote}
use Rattle.boxes.specs.Out.{Out, does, to_others, under}
use Rattle.boxes.specs.declared.BoxState.{BoxState}
use Rattle.boxes.specs.declared.Vote.{Vote}
use Rattle.boxes.specs.Newleader.{clock_stamp}
use Rattle.boxes.specs.Merge.{merged}

-- a vote as it is kept
unfoldable pub vote_of : BoxNo → Ballotpaper → Vote
vote_of from y = record { held = true; voter = from; cballot = y.cballot; clock = y.clock.time; table = y.table }

-- the votes at hand with this one, by rising box number
unfoldable pub votes_with : Vote → Vote → List Vote
votes_with old new = pick old.held (pick (ltb old.voter.0 new.voter.0) (old ∷ new ∷ []) (new ∷ old ∷ [])) (new ∷ [])

-- how many that are
unfoldable pub votes_count : Vote → ℕ
votes_count old = pick old.held 2 1

-- 7 to the other boxes of the district (line 56)
unfoldable pub new_states : Plan → BoxState → List Rec
new_states P x = to_others P x (λ to. new_state (own_of x) to (record { ballot = x.core.ballot; clock = clock_stamp P x; table = x.core.table }))

-- the first votes are kept; the one that makes a quorum merges (line 42)
unfoldable pub when_voted : Plan → BoxState → Vote → Out
when_voted P x v =
    pick (leb (quorum_of P) (votes_count x.volatile.vote))
    (does (merged P x (votes_with x.volatile.vote v)) (new_states P (merged P x (votes_with x.volatile.vote v))) None)
    (does (put_vote x v) [] None)

-- this box has voted already
unfoldable pub voted_by : BoxState → BoxNo → Bool
voted_by x from = x.volatile.vote.held && eqb x.volatile.vote.voter.0 from.0

-- what it is answered
abbrev pub newleader_ack_answer : BoxState → BoxNo → Ballot → Answer
newleader_ack_answer x from b =
    -- recovering, ballot equal (line 43)
    or_no (is_recovering x.core.status) WrongStatus
    (or_no (same_ballot b x.core.ballot) WrongBallot
    -- merged already, or the same voter (H)
    (or_no (not (same_ballot x.core.cballot x.core.ballot) && not (voted_by x from)) AlreadyDone
    done))

unfoldable pub on_newleader_ack : Plan → BoxState → BoxNo → Ballotpaper → Out
on_newleader_ack P x from y = under (newleader_ack_answer x from y.ballot) (when_voted P x (vote_of from y))
