-- The merge of a quorum of votes (Figure 4, lines 44-55).
use Rattle.std.specs.Prelude.{ℕ, Bool, false, ◌&&◌, List, [], ◌∷◌, get_or, set, replicate, eqb}
use Rattle.laws.specs.Choice.{pick}
use Rattle.laws.specs.Fold.{upto}
use Rattle.house.specs.Limits.{most_jobs, accepted_phase, committed_phase}
use Rattle.house.specs.Pairs.{no_ballot, no_row, same_ballot, higher_ballot}
use Rattle.house.specs.declared.Ballot.{Ballot}
use Rattle.house.specs.declared.Row.{Row}
use Rattle.house.specs.declared.Plan.{Plan}
use Rattle.records.specs.Rec.{no_rows}
use Rattle.boxes.specs.Box.{no_vote, put_mode, put_table, put_sent, put_vote, raised}
use Rattle.boxes.specs.declared.BoxState.{BoxState}
use Rattle.boxes.specs.declared.Vote.{Vote}
use Rattle.boxes.specs.declared.Status.TheVariants.{Recovering}

-- the highest cballot of the votes (line 45)
unfoldable pub top_ballot : List Vote → Ballot
top_ballot [] = no_ballot
top_ballot (v ∷ l) = higher_ballot v.cballot (top_ballot l)

-- the largest clock of the votes (line 54)
unfoldable pub top_clock : List Vote → ℕ
top_clock [] = 0
top_clock (v ∷ l) = raised v.clock (top_clock l)

unfoldable pub vote_row : Vote → ℕ → Row
vote_row v j = get_or v.table j no_row

-- committed at this voter (line 47)
unfoldable pub committed_at : ℕ → Vote → Bool
committed_at j v = eqb (vote_row v j).phase committed_phase

-- accepted at this voter of highest cballot (line 51)
unfoldable pub accepted_at : Ballot → ℕ → Vote → Bool
accepted_at top j v = same_ballot v.cballot top && eqb (vote_row v j).phase accepted_phase

-- the row of the first vote that passes the test, else another row
unfoldable pub first_row : (Vote → Bool) → ℕ → List Vote → Row → Row
first_row t j [] r = r
first_row t j (v ∷ l) r = pick (t v) (vote_row v j) (first_row t j l r)

-- committed at a voter: with its stamps; else accepted at a voter of highest cballot: with its stamp; else start (lines 46-53)
unfoldable pub merged_row : List Vote → ℕ → Row
merged_row l j = first_row (committed_at j) j l (first_row (accepted_at (top_ballot l) j) j l no_row)

unfoldable pub merged_table : List Vote → ℕ → List Row
merged_table l n = upto (λ t j. set t j (merged_row l j)) no_rows n

-- the table merged, clock the larger, sent flags cleared (H), cballot set, vote dropped (lines 44-55)
unfoldable pub merged : Plan → BoxState → List Vote → BoxState
merged P x l =
    put_vote
    (put_mode (put_sent (put_table x (top_clock l) (merged_table l P.jobs)) (replicate most_jobs false)) Recovering x.core.ballot x.core.ballot)
    no_vote
