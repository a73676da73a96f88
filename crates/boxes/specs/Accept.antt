-- 2 ACCEPT: proposals are kept, and once all are there the job is accepted (Figure 4, lines 10-16).
use Rattle.std.specs.Prelude.{ℕ, Bool, not, ◌&&◌, ◌||◌, List, [], ◌∷◌, eqb, None}
use Rattle.laws.specs.Choice.{pick}
use Rattle.laws.specs.Fold.{upto, all_below}
use Rattle.house.specs.Limits.{accepted_phase, committed_phase}
use Rattle.house.specs.Pairs.{district, no_stamp, no_ballot, ballot_lt, same_stamp, same_ballot, is_no_ballot, later_stamp}
use Rattle.house.specs.declared.Stamp.{Stamp}
use Rattle.house.specs.declared.Ballot.{Ballot}
use Rattle.house.specs.declared.BoxNo.{BoxNo}
use Rattle.house.specs.declared.District.{District}
use Rattle.house.specs.declared.Row.{Row}
use Rattle.house.specs.Plan.{home_of, names}
use Rattle.house.specs.declared.Plan.{Plan}
use Rattle.house.specs.Marks.{no_marks}
use Rattle.records.specs.Answers.{or_no, Answer, done}
use Rattle.records.specs.declared.answers.Refusal.TheVariants.{NotNamed, WrongStatus, WrongBallot}
use Rattle.records.specs.Rec.{Rec, accept_ack}
use Rattle.records.specs.declared.Proposal.{Proposal}
use Rattle.boxes.specs.Box.{is_recovering, own_of, home_in, row_at, kept_ballot, kept_stamp, marks_at, put_row, put_kept, raised}
use Rattle.boxes.specs.Out.{Out, does, to_each, under}
use Rattle.boxes.specs.declared.BoxState.{BoxState}

-- the same ACCEPT is kept already
unfoldable pub same_kept : BoxState → ℕ → District → Proposal → Bool
same_kept x j d y = same_ballot y.ballot (kept_ballot x j d) && same_stamp y.stamp (kept_stamp x j d)

-- the own district's ballot must be cballot, another's not below the kept one
unfoldable pub ballot_fits : Plan → BoxState → ℕ → District → Proposal → Bool
ballot_fits P x j d y =
    pick (eqb d.0 (home_in P x).0) (same_ballot y.ballot x.core.cballot) (not (ballot_lt y.ballot (kept_ballot x j d)))

-- an equal ballot with another stamp is refused
unfoldable pub stamp_fits : BoxState → ℕ → District → Proposal → Bool
stamp_fits x j d y = not (same_ballot y.ballot (kept_ballot x j d)) || same_stamp y.stamp (kept_stamp x j d)

-- keep it; a change clears the job's marks
unfoldable pub kept : BoxState → ℕ → District → Proposal → BoxState
kept x j d y = put_kept x j d y.ballot y.stamp (pick (same_kept x j d y) (marks_at x j) no_marks)

-- an ACCEPT is kept for each district below n that job j names (line 10)
unfoldable pub kept_below : Plan → BoxState → ℕ → ℕ → Bool
kept_below P x j n = all_below (λ d. not (names P j (district d)) || not (is_no_ballot (kept_ballot x j (district d)))) n

-- all named districts are kept, and the own one has cballot (line 11)
unfoldable pub all_kept : Plan → BoxState → ℕ → Bool
all_kept P x j = kept_below P x j P.districts && same_ballot (kept_ballot x j (home_in P x)) x.core.cballot

-- the largest of the stamps kept for the named districts below n
unfoldable pub latest_kept : Plan → BoxState → ℕ → ℕ → Stamp
latest_kept P x j n = upto (λ s d. pick (names P j (district d)) (later_stamp s (kept_stamp x j (district d))) s) no_stamp n

-- phase 0 or 1 becomes 2 (line 12); unless phase 3, the own stamp is stored (H) (line 13)
unfoldable pub accepted_row : Row → Stamp → Row
accepted_row r s = pick (eqb r.phase committed_phase) r (record { phase = accepted_phase; local = s; global = no_stamp })

unfoldable pub accepted : Plan → BoxState → ℕ → BoxState
accepted P x j =
    put_row x (raised x.core.clock (latest_kept P x j P.districts).time) j (accepted_row (row_at x j) (kept_stamp x j (home_in P x)))

-- the kept ballots of the named districts, none for the others
unfoldable pub kept_for : Plan → BoxState → ℕ → ℕ → Ballot
kept_for P x j d = pick (names P j (district d)) (kept_ballot x j (district d)) no_ballot

unfoldable pub kept_vector : Plan → BoxState → ℕ → List Ballot
kept_vector P x j = kept_for P x j 0 ∷ kept_for P x j 1 ∷ kept_for P x j 2 ∷ kept_for P x j 3 ∷ []

-- p is the box of the ballot kept for its district
abbrev pub kept_leader : Plan → BoxState → ℕ → BoxNo → Bool
kept_leader P x j p = names P j (home_of P p) && eqb (kept_ballot x j (home_of P p)).owner.0 p.0

-- kind 3 to each kept ballot's box (lines 15-16)
unfoldable pub acks : Plan → BoxState → ℕ → List Rec
acks P x j = to_each P (kept_leader P x j) (λ to. accept_ack (own_of x) to j (kept_vector P x j))

unfoldable pub when_kept : Plan → BoxState → ℕ → Out
when_kept P x j = pick (all_kept P x j) (does (accepted P x j) (acks P (accepted P x j) j) None) (does x [] None)

-- what it is answered
abbrev pub accept_answer : Plan → BoxState → BoxNo → ℕ → Proposal → Answer
accept_answer P x from j y =
    or_no (names P j (home_in P x)) NotNamed
    -- recovering: 7 (line 11)
    (or_no (not (is_recovering x.core.status)) WrongStatus
    (or_no (ballot_fits P x j (home_of P from) y && stamp_fits x j (home_of P from) y) WrongBallot
    done))

unfoldable pub on_accept : Plan → BoxState → BoxNo → ℕ → Proposal → Out
on_accept P x from j y = under (accept_answer P x from j y) (when_kept P (kept x j (home_of P from) y) j)
