-- A record as a value, with one case a kind, and the struct that carries it in the code.
use Rattle.std.specs.Prelude.{ℕ, List, [], ◌∷◌, get_or, replicate, eqb}
use Rattle.laws.specs.Choice.{pick}
use Rattle.house.specs.Limits.{most_districts, most_jobs, no_job}
use Rattle.house.specs.Pairs.{box_no, no_stamp, no_ballot, no_row}
use Rattle.house.specs.declared.Stamp.{Stamp}
use Rattle.house.specs.declared.Ballot.{Ballot}
use Rattle.house.specs.declared.BoxNo.{BoxNo}
use Rattle.house.specs.declared.Row.{Row}
use Rattle.records.specs.declared.Record.{Record}
use Rattle.records.specs.declared.Proposal.{Proposal}
use Rattle.records.specs.declared.Handout.{Handout}
use Rattle.records.specs.declared.Ballotpaper.{Ballotpaper}
use Rattle.records.specs.declared.NewState.{NewState}

pub data Rec : Type 0 where
  multicast : (from to : BoxNo) (job : ℕ) → Rec
  accept : (from to : BoxNo) (job : ℕ) (y : Proposal) → Rec
  accept_ack : (from to : BoxNo) (job : ℕ) (ballots : List Ballot) → Rec
  deliver : (from to : BoxNo) (job : ℕ) (y : Handout) → Rec
  newleader : (from to : BoxNo) (b : Ballot) → Rec
  newleader_ack : (from to : BoxNo) (y : Ballotpaper) → Rec
  new_state : (from to : BoxNo) (y : NewState) → Rec
  newstate_ack : (from to : BoxNo) (b : Ballot) → Rec
  -- what a struct of no kind says
  unknown : Rec

-- places of the struct that a kind has no use for are none
abbrev pub no_ballots : List Ballot
no_ballots = replicate most_districts no_ballot

abbrev pub no_rows : List Row
no_rows = replicate most_jobs no_row

abbrev pub one_ballot : Ballot → List Ballot
one_ballot b = b ∷ no_ballot ∷ no_ballot ∷ no_ballot ∷ []

abbrev pub two_stamps : Stamp → Stamp → List Stamp
two_stamps s t = s ∷ t ∷ []

-- the struct of a record
unfoldable pub carried : Rec → Record
carried (multicast from to j) = record { kind = 1; from = from; to = to; job = j; ballots = no_ballots; stamps = two_stamps no_stamp no_stamp; table = no_rows }
carried (accept from to j y) =
    record { kind = 2; from = from; to = to; job = j; ballots = one_ballot y.ballot; stamps = two_stamps y.stamp no_stamp; table = no_rows }
carried (accept_ack from to j bs) = record { kind = 3; from = from; to = to; job = j; ballots = bs; stamps = two_stamps no_stamp no_stamp; table = no_rows }
carried (deliver from to j y) =
    record { kind = 4; from = from; to = to; job = j; ballots = one_ballot y.ballot; stamps = two_stamps y.local y.global; table = no_rows }
carried (newleader from to b) =
    record { kind = 5; from = from; to = to; job = no_job; ballots = one_ballot b; stamps = two_stamps no_stamp no_stamp; table = no_rows }
carried (newleader_ack from to y) =
    record {
      kind = 6;
      from = from;
      to = to;
      job = no_job;
      ballots = y.ballot ∷ y.cballot ∷ no_ballot ∷ no_ballot ∷ [];
      stamps = two_stamps y.clock no_stamp;
      table = y.table;
    }
carried (new_state from to y) =
    record { kind = 7; from = from; to = to; job = no_job; ballots = one_ballot y.ballot; stamps = two_stamps y.clock no_stamp; table = y.table }
carried (newstate_ack from to b) =
    record { kind = 8; from = from; to = to; job = no_job; ballots = one_ballot b; stamps = two_stamps no_stamp no_stamp; table = no_rows }
carried unknown =
    record { kind = 0; from = box_no 0; to = box_no 0; job = no_job; ballots = no_ballots; stamps = two_stamps no_stamp no_stamp; table = no_rows }

-- the struct that carries no record
abbrev pub no_record : Record
no_record = record { kind = 0; from = box_no 0; to = box_no 0; job = no_job; ballots = no_ballots; stamps = two_stamps no_stamp no_stamp; table = no_rows }

abbrev pub ballot_no : Record → ℕ → Ballot
ballot_no r i = get_or r.ballots i no_ballot

abbrev pub stamp_no : Record → ℕ → Stamp
stamp_no r i = get_or r.stamps i no_stamp

-- the record that a struct says
unfoldable pub meaning : Record → Rec
meaning r =
    pick (eqb r.kind 1) (multicast r.from r.to r.job)
    (pick (eqb r.kind 2) (accept r.from r.to r.job (record { ballot = ballot_no r 0; stamp = stamp_no r 0 }))
    (pick (eqb r.kind 3) (accept_ack r.from r.to r.job r.ballots)
    (pick (eqb r.kind 4) (deliver r.from r.to r.job (record { ballot = ballot_no r 0; local = stamp_no r 0; global = stamp_no r 1 }))
    (pick (eqb r.kind 5) (newleader r.from r.to (ballot_no r 0))
    (pick (eqb r.kind 6) (newleader_ack r.from r.to (record { ballot = ballot_no r 0; cballot = ballot_no r 1; clock = stamp_no r 0; table = r.table }))
    (pick (eqb r.kind 7) (new_state r.from r.to (record { ballot = ballot_no r 0; clock = stamp_no r 0; table = r.table }))
    (pick (eqb r.kind 8) (newstate_ack r.from r.to (ballot_no r 0))
    unknown)))))))

-- the sender and the addressee
unfoldable pub sender_of : Rec → BoxNo
sender_of r = (carried r).from

unfoldable pub addressee_of : Rec → BoxNo
addressee_of r = (carried r).to
