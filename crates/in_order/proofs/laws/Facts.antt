-- What the proof of demand 3 asks of a sound box and of each kind's record, in its words.
-- All of it is read off the shared reading: SoundBox of boxes, Told of records. No test is opened here.
use Prim.Native.Nat.{ℕ, ◌≤◌, ◌<◌}
use mathlib.Core.Bool.{true, false}
use mathlib.Core.List.{List}
use mathlib.Core.Logic.{◌≢◌}
use mathlib.Core.Path.{◌≡◌, ap, ◌∙◌}
use native.Mathlib.Omega.{arith}
use Rattle.laws.proofs.laws.Choice.{never}
use Rattle.house.specs.Limits.{most_districts, most_jobs}
use Rattle.house.specs.Pairs.{is_no_ballot}
use Rattle.house.proofs.laws.Orders.{no_ballot_is, stamp_of_says, ballot_of_says}
use Rattle.house.specs.declared.Ballot.{Ballot}
use Rattle.house.specs.declared.BoxNo.{BoxNo}
use Rattle.house.specs.declared.District.{District}
use Rattle.house.specs.Plan.{boxes_of, home_of}
use Rattle.house.proofs.laws.Says.{plan_says, box_says, ballot_in_says}
use Rattle.house.specs.declared.Plan.{Plan}
use Rattle.records.specs.Rec.{multicast, accept, accept_ack, deliver, newleader, newleader_ack, new_state}
use Rattle.records.specs.declared.Proposal.{Proposal}
use Rattle.records.specs.declared.Handout.{Handout}
use Rattle.records.specs.declared.Ballotpaper.{Ballotpaper}
use Rattle.records.specs.declared.NewState.{NewState}
use Rattle.records.specs.Rec.{newstate_ack}
use Rattle.records.specs.Rules.{rules}
use Rattle.records.proofs.laws.Rows.{row_most, row_begun, both_say}
use Rattle.records.proofs.laws.Obeys.{Neighbours, Others, rules_say}
use Rattle.boxes.specs.Box.{is_leader, own_of, home_in, kept_ballot, kept_stamp}
use Rattle.boxes.proofs.laws.Parts.{KeptOk, not_kept, is_kept}
use Rattle.boxes.proofs.laws.Sound.{held_paper, SoundBox}
use Rattle.boxes.specs.declared.BoxState.{BoxState}
use Rattle.in_order.proofs.laws.Compare.{Upto, Until}
use Rattle.in_order.proofs.laws.Notions.{row_in}

-- ---- sender and addressee

-- boxes of one district
pub record Near (P : Plan) (from to : BoxNo) : Type 0 where
  pub from_box : from.0 < boxes_of P
  pub to_box_lem : to.0 < boxes_of P
  pub home : home_of P from ≡ home_of P to

near : {P : Plan} {from to : BoxNo} → Neighbours P from to → Near P from to
near {P} {from} {to} N = record { from_box = box_says P from N.sender; to_box_lem = box_says P to N.addressee; home = N.home }

-- and differ
pub record Apart (P : Plan) (from to : BoxNo) : Type 0 where
  pub near : Near P from to
  pub other : from ≢ to

apart : {P : Plan} {from to : BoxNo} → Others P from to → Apart P from to
apart O = record { near = near O.near; other = λ e. O.apart (ap (λ (p : BoxNo). p.0) e) }

-- ---- sound boxes

module _ {P : Plan} {x : BoxState} (S : SoundBox P x) where
  pub own_low : (own_of x).0 < boxes_of P
  own_low = box_says P (own_of x) S.own

  pub cballot_upto : Upto x.core.cballot x.core.ballot
  cballot_upto = record { says = S.ballots.at_most }

  -- a leader's cballot is real and its own
  pub leads_real : is_leader x.core.status ≡ true → 1 ≤ x.core.cballot.number
  leads_real e = (ballot_of_says (own_of x) x.core.cballot (S.ballots.leader e)).0.some_number

  pub leads_own : is_leader x.core.status ≡ true → x.core.cballot.owner ≡ own_of x
  leads_own e = (ballot_of_says (own_of x) x.core.cballot (S.ballots.leader e)).1

  -- a job of the plan is one of the table's
  in_table : (m : ℕ) → m < P.jobs → m < most_jobs
  in_table m l = omega (arith, (plan_says P S.plan).jobs_most)

  pub phase_most : (m : ℕ) → m < P.jobs → (row_in x.core.table m).phase ≤ 3
  phase_most m l = row_most (S.table.row m (in_table m l))

  pub local_home : (m : ℕ) → m < P.jobs → (row_in x.core.table m).phase ≢ 0 → (row_in x.core.table m).local.district ≡ home_in P x
  local_home m l n = (stamp_of_says (home_in P x) (row_in x.core.table m).local (row_begun (S.table.row m (in_table m l)) n).1).1

  -- a kept ACCEPT: its ballot is of a box of the district
  pub owner_home : (j : ℕ) (d : District) → j < most_jobs → d.0 < most_districts → is_no_ballot (kept_ballot x j d) ≡ false
      → home_of P (kept_ballot x j d).owner ≡ d
  unfolding kept_ballot kept_stamp
  owner_home j d lj ld n = go (S.kept.pair j d.0 lj ld)
    where
      go : KeptOk P j d (kept_ballot x j d) (kept_stamp x j d) → home_of P (kept_ballot x j d).owner ≡ d
      go (not_kept e _) = never (ap is_no_ballot e ∙ no_ballot_is) n
      go (is_kept _ b _) = (ballot_in_says P d (kept_ballot x j d) b).here

  -- the kept vote
  pub voter_near : x.volatile.vote.held ≡ true → Near P x.volatile.vote.voter (own_of x)
  voter_near h = near (held_paper S.vote h).near

  pub vote_most : x.volatile.vote.held ≡ true → (m : ℕ) → m < P.jobs → (row_in x.volatile.vote.table m).phase ≤ 3
  vote_most h m l = row_most ((held_paper S.vote h).table.row m (in_table m l))

-- ---- valid records, kind by kind

pub multicast_says : (P : Plan) (from to : BoxNo) (j : ℕ) → rules P (multicast from to j) ≡ true → to.0 < boxes_of P
multicast_says P from to j h = box_says P to (rules_say P (multicast from to j) h).addressee

pub record AcceptFacts (P : Plan) (from to : BoxNo) (j : ℕ) (y : Proposal) : Type 0 where
  pub from_box : from.0 < boxes_of P
  pub to_box_lem : to.0 < boxes_of P
  pub mine : y.ballot.owner ≡ from

pub accept_says : (P : Plan) (from to : BoxNo) (j : ℕ) (y : Proposal) → rules P (accept from to j y) ≡ true → AcceptFacts P from to j y
accept_says P from to j y h =
    let o = rules_say P (accept from to j y) h in
    record { from_box = box_says P from o.sender; to_box_lem = box_says P to o.addressee; mine = (ballot_of_says from y.ballot o.own_ballot).1 }

pub record AckFacts (P : Plan) (from to : BoxNo) (j : ℕ) : Type 0 where
  pub from_box : from.0 < boxes_of P
  pub to_box_lem : to.0 < boxes_of P

pub ack_says : (P : Plan) (from to : BoxNo) (j : ℕ) (bs : List Ballot) → rules P (accept_ack from to j bs) ≡ true → AckFacts P from to j
ack_says P from to j bs h =
    let o = rules_say P (accept_ack from to j bs) h in record { from_box = box_says P from o.sender; to_box_lem = box_says P to o.addressee }

pub record DeliverFacts (P : Plan) (from to : BoxNo) (y : Handout) : Type 0 where
  pub near : Near P from to
  pub real : 1 ≤ y.ballot.number
  pub mine : y.ballot.owner ≡ from
  pub until : Until y.local y.global

pub deliver_says : (P : Plan) (from to : BoxNo) (j : ℕ) (y : Handout) → rules P (deliver from to j y) ≡ true → DeliverFacts P from to y
deliver_says P from to j y h =
    let o = rules_say P (deliver from to j y) h in
    let b = ballot_of_says from y.ballot o.own_ballot in
    record {
      near = near o.near;
      real = b.0.some_number;
      mine = b.1;
      until = record { says = (both_say P j (home_of P from) y.local y.global o.stamps).order };
    }

pub record LeaderFacts (P : Plan) (from to : BoxNo) (b : Ballot) : Type 0 where
  pub near : Near P from to
  pub mine : b.owner ≡ from

pub newleader_says : (P : Plan) (from to : BoxNo) (b : Ballot) → rules P (newleader from to b) ≡ true → LeaderFacts P from to b
newleader_says P from to b h =
    let o = rules_say P (newleader from to b) h in record { near = near o.near; mine = (ballot_of_says from b o.own_ballot).1 }

-- a vote: the ballot is the addressee's, the table's rows are sound
pub record VoteFacts (P : Plan) (from to : BoxNo) (y : Ballotpaper) : Type 0 where
  pub near : Near P from to
  pub real : 1 ≤ y.ballot.number
  pub theirs : y.ballot.owner ≡ to
  pub most : (m : ℕ) → m < P.jobs → (row_in y.table m).phase ≤ 3

pub vote_says : (P : Plan) (from to : BoxNo) (y : Ballotpaper) → rules P (newleader_ack from to y) ≡ true → VoteFacts P from to y
vote_says P from to y h =
    let o = rules_say P (newleader_ack from to y) h in
    let b = ballot_of_says to y.ballot o.its_ballot in
    record { near = near o.near; real = b.0.some_number; theirs = b.1; most = λ m l. row_most (o.table.row m l) }

pub record StateFacts (P : Plan) (from to : BoxNo) (y : NewState) : Type 0 where
  pub apart : Apart P from to
  pub real : 1 ≤ y.ballot.number
  pub mine : y.ballot.owner ≡ from

pub state_says : (P : Plan) (from to : BoxNo) (y : NewState) → rules P (new_state from to y) ≡ true → StateFacts P from to y
state_says P from to y h =
    let o = rules_say P (new_state from to y) h in
    let b = ballot_of_says from y.ballot o.own_ballot in
    record { apart = apart o.other; real = b.0.some_number; mine = b.1 }

pub record NsaFacts (P : Plan) (from to : BoxNo) (b : Ballot) : Type 0 where
  pub apart : Apart P from to
  pub real : 1 ≤ b.number
  pub theirs : b.owner ≡ to

pub nsa_says : (P : Plan) (from to : BoxNo) (b : Ballot) → rules P (newstate_ack from to b) ≡ true → NsaFacts P from to b
nsa_says P from to b h =
    let o = rules_say P (newstate_ack from to b) h in
    let k = ballot_of_says to b o.its_ballot in
    record { apart = apart o.other; real = k.0.some_number; theirs = k.1 }
