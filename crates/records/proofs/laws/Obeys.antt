-- What a valid record says, kind by kind, as facts with names, and back: document 01, 'Records'. Who asks facts of a record takes them here.
-- 'Told' is what the rules alone say; 'Obeys' holds of exactly the records whose struct is valid.
use Prim.Native.Nat.{ℕ, ◌<◌, ◌≤◌}
use mathlib.Core.Bool.{true, false, ◌||◌, Bool, not, ◌&&◌}
use mathlib.Core.List.{List}
use mathlib.Core.Logic.{◌≢◌, ◌⊎◌, inl, inr}
use mathlib.Core.Path.{◌≡◌, refl}
use native.Mathlib.Decide.{dec_lt}
use native.Mathlib.Omega.{arith}
use lib.ListN.{get_or}
use lib.Dec.{eqb, leb}
use borrow.Author.Tests.{leb-true, eqb-false, ne_eqb, not-true}
use Rattle.laws.specs.Choice.{pick}
use Rattle.laws.proofs.laws.Choice.{pick_true, pick_false, and_both, not_off, look, never, both}
use Rattle.laws.specs.Fold.{all_below}
use Rattle.laws.proofs.laws.Fold.{all_says, all_is, from_says, from_is}
use Rattle.house.specs.Limits.{most_districts, most_jobs, no_job}
use Rattle.house.specs.Pairs.{district, no_ballot, ballot_lt, stamp_of, ballot_of, is_no_stamp, is_no_ballot, same_stamp, same_ballot}
use Rattle.house.specs.declared.Ballot.{Ballot}
use Rattle.house.specs.declared.BoxNo.{BoxNo}
use Rattle.house.specs.Plan.{is_box, is_office, is_job, home_of, names, ballot_in, none_or_in, same_home, plan_sound}
use Rattle.house.specs.declared.Plan.{Plan}
use Rattle.house.proofs.laws.Orders.{no_ballot_says, no_ballot_is}
use Rattle.house.proofs.laws.Says.{plan_says, same_home_says, same_home_is, no_district}
use Rattle.records.specs.Rec.{Rec, multicast, accept, accept_ack, deliver, newleader, newleader_ack, new_state}
use Rattle.records.specs.declared.Proposal.{Proposal}
use Rattle.records.specs.declared.Handout.{Handout}
use Rattle.records.specs.declared.Ballotpaper.{Ballotpaper}
use Rattle.records.specs.declared.NewState.{NewState}
use Rattle.records.specs.Rec.{newstate_ack, unknown, carried, meaning}
use Rattle.records.specs.Rules.{clock_of, both_stamps, boxes, neighbours, others, ballot_for, ballots_for, rules, start_row, is_no_row, spare_ballots}
use Rattle.records.specs.Rules.{spare_stamps, spare_rows, spare, valid}
use Rattle.records.proofs.laws.Rows.{RowsOk, NoneProposed, rows_say, table_whole, table_rows, table_spare, unproposed_say, unproposed_whole}
use Rattle.records.proofs.laws.Rows.{unproposed_is}
use Rattle.records.specs.Format.{known, most_kind, entry, or_plan, ballots_in, stamps_in, rows_in, has_job}
use Rattle.records.proofs.laws.Rec.{meaning_carried}
use Rattle.records.specs.declared.Record.{Record}

-- two boxes of one district
pub record Neighbours (P : Plan) (from to : BoxNo) : Type 0 where
  pub sender : is_box P from ≡ true
  pub addressee : is_box P to ≡ true
  pub home : home_of P from ≡ home_of P to

-- two different ones
pub record Others (P : Plan) (from to : BoxNo) : Type 0 where
  pub near : Neighbours P from to
  pub apart : from.0 ≢ to.0

-- 1: the office or a box
pub record MulticastOk (P : Plan) (from to : BoxNo) (j : ℕ) : Type 0 where
  pub sender : (is_box P from || is_office P from) ≡ true
  pub addressee : is_box P to ≡ true
  pub job : is_job P j ≡ true

-- 2: the ballot is the sender's, the stamp has its district, which is named
pub record AcceptOk (P : Plan) (from to : BoxNo) (j : ℕ) (y : Proposal) : Type 0 where
  pub sender : is_box P from ≡ true
  pub addressee : is_box P to ≡ true
  pub job : is_job P j ≡ true
  pub own_ballot : ballot_of from y.ballot ≡ true
  pub home_stamp : stamp_of (home_of P from) y.stamp ≡ true
  pub named : names P j (home_of P from) ≡ true

-- 3: ballot d is of a box of district d if named, none if not
pub data BallotFor (P : Plan) (j d : ℕ) (b : Ballot) : Type 0 where
  for_named : names P j (district d) ≡ true → ballot_in P (district d) b ≡ true → BallotFor P j d b
  for_other : names P j (district d) ≡ false → b ≡ no_ballot → BallotFor P j d b

-- the first n ballots
pub record BallotsFor (P : Plan) (j : ℕ) (bs : List Ballot) (n : ℕ) : Type 0 where
  pub place : (d : ℕ) → d < n → BallotFor P j d (get_or bs d no_ballot)

-- all of them
abbrev pub Vector : Plan → ℕ → List Ballot → Type 0
Vector P j bs = BallotsFor P j bs most_districts

-- the sender's district is named
pub record AckTo (n : ℕ) (P : Plan) (from to : BoxNo) (j : ℕ) (bs : List Ballot) : Type 0 where
  pub sender : is_box P from ≡ true
  pub addressee : is_box P to ≡ true
  pub job : is_job P j ≡ true
  pub named : names P j (home_of P from) ≡ true
  pub vector : BallotsFor P j bs n

abbrev pub AckOk : Plan → BoxNo → BoxNo → ℕ → List Ballot → Type 0
AckOk = AckTo most_districts

-- 4: the table's phase 3 rules hold
pub record DeliverOk (P : Plan) (from to : BoxNo) (j : ℕ) (y : Handout) : Type 0 where
  pub near : Neighbours P from to
  pub job : is_job P j ≡ true
  pub own_ballot : ballot_of from y.ballot ≡ true
  pub stamps : both_stamps P j (home_of P from) y.local y.global ≡ true

-- 5: the ballot is the sender's
pub record NewleaderOk (P : Plan) (from to : BoxNo) (b : Ballot) : Type 0 where
  pub near : Neighbours P from to
  pub own_ballot : ballot_of from b ≡ true

-- 6: the ballot's box is the addressee; cballot is lower than ballot, and none or of that district
pub record NewleaderAckTo (n : ℕ) (P : Plan) (from to : BoxNo) (y : Ballotpaper) : Type 0 where
  pub near : Neighbours P from to
  pub its_ballot : ballot_of to y.ballot ≡ true
  pub lower : ballot_lt y.cballot y.ballot ≡ true
  pub cballot_home : none_or_in P (home_of P from) y.cballot ≡ true
  pub clock : clock_of (home_of P from) y.clock ≡ true
  pub table : RowsOk P (home_of P from) y.table n

abbrev pub NewleaderAckOk : Plan → BoxNo → BoxNo → Ballotpaper → Type 0
NewleaderAckOk = NewleaderAckTo most_jobs

-- 7: no phase 1
pub record NewStateTo (n : ℕ) (P : Plan) (from to : BoxNo) (y : NewState) : Type 0 where
  pub other : Others P from to
  pub own_ballot : ballot_of from y.ballot ≡ true
  pub clock : clock_of (home_of P from) y.clock ≡ true
  pub table : RowsOk P (home_of P from) y.table n
  pub unproposed : NoneProposed y.table n

abbrev pub NewStateOk : Plan → BoxNo → BoxNo → NewState → Type 0
NewStateOk = NewStateTo most_jobs

-- 8: the ballot's box is the addressee
pub record NewstateAckOk (P : Plan) (from to : BoxNo) (b : Ballot) : Type 0 where
  pub other : Others P from to
  pub its_ballot : ballot_of to b ≡ true

-- what the rules say of a record, of the first ds ballots of a vector and the first js rows of a table
abbrev pub Says : ℕ → ℕ → Plan → Rec → Type 0
Says ds js P (multicast from to j) = MulticastOk P from to j
Says ds js P (accept from to j y) = AcceptOk P from to j y
Says ds js P (accept_ack from to j bs) = AckTo ds P from to j bs
Says ds js P (deliver from to j y) = DeliverOk P from to j y
Says ds js P (newleader from to b) = NewleaderOk P from to b
Says ds js P (newleader_ack from to y) = NewleaderAckTo js P from to y
Says ds js P (new_state from to y) = NewStateTo js P from to y
Says ds js P (newstate_ack from to b) = NewstateAckOk P from to b
Says ds js P unknown = ⊥

-- the rules alone, which ask of the plan's districts and jobs
abbrev pub Told : Plan → Rec → Type 0
Told P m = Says P.districts P.jobs P m

-- the rules, and nothing behind the sections
abbrev pub Obeys : Plan → Rec → Type 0
Obeys P m = Says most_districts most_jobs P m

-- ---- what the shared tests say

neighbours_say : (P : Plan) (from to : BoxNo) → neighbours P from to ≡ true → Neighbours P from to
unfolding neighbours boxes
neighbours_say P from to h = let a = both h in let b = both a.0 in record { sender = b.0; addressee = b.1; home = same_home_says P from to a.1 }

neighbours_are : (P : Plan) (from to : BoxNo) → Neighbours P from to → neighbours P from to ≡ true
unfolding neighbours boxes
neighbours_are P from to N =
    and_both
    (is_box P from && is_box P to)
    (same_home P from to)
    (and_both (is_box P from) (is_box P to) N.sender N.addressee)
    (same_home_is P from to N.home)

others_say : (P : Plan) (from to : BoxNo) → others P from to ≡ true → Others P from to
unfolding others
others_say P from to h =
    let a = both h in record { near = neighbours_say P from to a.0; apart = eqb-false from.0 to.0 (not-true (eqb from.0 to.0) a.1) }

others_are : (P : Plan) (from to : BoxNo) → Others P from to → others P from to ≡ true
unfolding others
others_are P from to O =
    and_both (neighbours P from to) (not (eqb from.0 to.0)) (neighbours_are P from to O.near) (not_off (ne_eqb from.0 to.0 O.apart))

ballots_say : (P : Plan) (j : ℕ) (bs : List Ballot) (n : ℕ) → ballots_for P j bs n ≡ true → BallotsFor P j bs n
unfolding ballots_for ballot_for
ballots_say P j bs n h = record { place = λ d l. on d (all_says (ballot_for P j bs) n h d l) (look (names P j (district d))) }
  where
    on : (d : ℕ) → ballot_for P j bs d ≡ true → (names P j (district d) ≡ true) ⊎ (names P j (district d) ≡ false) → BallotFor P j d (get_or bs d no_ballot)
    on d e (inl n) = for_named n (rw (pick_true (ballot_in P (district d) (get_or bs d no_ballot)) (is_no_ballot (get_or bs d no_ballot)) n) at e)
    on d e (inr n) =
        for_other
        n
        (no_ballot_says (get_or bs d no_ballot)
        (rw (pick_false (ballot_in P (district d) (get_or bs d no_ballot)) (is_no_ballot (get_or bs d no_ballot)) n) at e))

vector_whole : (P : Plan) (j : ℕ) (bs : List Ballot) → plan_sound P ≡ true → BallotsFor P j bs P.districts → spare_ballots bs P.districts ≡ true
    → Vector P j bs
unfolding spare_ballots
vector_whole P j bs s B k = record { place = λ d l. go d l (dec_lt d P.districts) }
  where
    go : (d : ℕ) → d < most_districts → Dec (d < P.districts) → BallotFor P j d (get_or bs d no_ballot)
    go d l (yes e) = B.place d e
    go d l (no e) =
        for_other (no_district P j d s (omega arith))
        (no_ballot_says (get_or bs d no_ballot) (from_says (λ i. is_no_ballot (get_or bs i no_ballot)) P.districts most_districts k d (omega arith) l))

vector_is : (P : Plan) (j : ℕ) (bs : List Ballot) → plan_sound P ≡ true → Vector P j bs → ballots_for P j bs P.districts ≡ true
unfolding ballots_for ballot_for
vector_is P j bs s W = let m = (plan_says P s).districts_most in all_is (ballot_for P j bs) P.districts (λ d l. go d (W.place d (omega arith)))
  where
    go : (d : ℕ) → BallotFor P j d (get_or bs d no_ballot) → ballot_for P j bs d ≡ true
    go d (for_named n b) = rw (pick_true (ballot_in P (district d) (get_or bs d no_ballot)) (is_no_ballot (get_or bs d no_ballot)) n) b
    go d (for_other n e) = rw (pick_false (ballot_in P (district d) (get_or bs d no_ballot)) (is_no_ballot (get_or bs d no_ballot)) n, e) no_ballot_is

vector_spare : (P : Plan) (j : ℕ) (bs : List Ballot) → plan_sound P ≡ true → Vector P j bs → spare_ballots bs P.districts ≡ true
unfolding spare_ballots
vector_spare P j bs s W = from_is (λ i. is_no_ballot (get_or bs i no_ballot)) P.districts most_districts (λ d n l. go d n (W.place d l))
  where
    go : (d : ℕ) → P.districts ≤ d → BallotFor P j d (get_or bs d no_ballot) → is_no_ballot (get_or bs d no_ballot) ≡ true
    go d l (for_named n b) = never n (no_district P j d s l)
    go d l (for_other n q) = rw q no_ballot_is

-- ---- the rules and what stands behind the sections

-- what stands behind the sections is none
pub record Spare (P : Plan) (r : Record) : Type 0 where
  pub job : (has_job r.kind || eqb r.job no_job) ≡ true
  pub ballots : spare_ballots r.ballots (ballots_in P r.kind) ≡ true
  pub stamps : spare_stamps r.stamps (stamps_in r.kind) ≡ true
  pub rows : spare_rows r.table (rows_in P r.kind) ≡ true

spare_says : (P : Plan) (r : Record) → spare P r ≡ true → Spare P r
unfolding spare
spare_says P r h = let a = both h in let b = both a.1 in let c = both b.0 in record { job = a.0; ballots = c.0; stamps = c.1; rows = b.1 }

spare_is : (P : Plan) (r : Record) → Spare P r → spare P r ≡ true
unfolding spare
spare_is P r S = all_four S.job S.ballots S.stamps S.rows
  where
    all_four : {a b c d : Bool} → a ≡ true → b ≡ true → c ≡ true → d ≡ true → a && ((b && c) && d) ≡ true
    all_four p q r s = rw (p, q, r, s)

pub rules_say : (P : Plan) (m : Rec) → rules P m ≡ true → Told P m
unfolding rules boxes
rules_say P (multicast from to j) h =
    let a = both h in let b = both a.0 in
    record { sender = b.0; addressee = b.1; job = a.1 }
rules_say P (accept from to j y) h =
    let a = both h in let b = both a.0 in let c = both b.0 in let d = both a.1 in let e = both d.1 in
    record { sender = c.0; addressee = c.1; job = b.1; own_ballot = d.0; home_stamp = e.0; named = e.1 }
rules_say P (accept_ack from to j bs) h =
    let a = both h in let b = both a.0 in let c = both b.0 in let d = both a.1 in
    record { sender = c.0; addressee = c.1; job = b.1; named = d.0; vector = ballots_say P j bs P.districts d.1 }
rules_say P (deliver from to j y) h =
    let a = both h in let b = both a.0 in let d = both a.1 in
    record { near = neighbours_say P from to b.0; job = b.1; own_ballot = d.0; stamps = d.1 }
rules_say P (newleader from to b) h = let a = both h in record { near = neighbours_say P from to a.0; own_ballot = a.1 }
rules_say P (newleader_ack from to y) h =
    let a = both h in let b = both a.0 in let c = both a.1 in let d = both c.0 in let e = both c.1 in
    record {
      near = neighbours_say P from to b.0;
      its_ballot = b.1;
      lower = d.0;
      cballot_home = d.1;
      clock = e.0;
      table = rows_say P (home_of P from) y.table P.jobs e.1;
    }
rules_say P (new_state from to y) h =
    let a = both h in let b = both a.0 in let c = both a.1 in let d = both c.1 in
    record {
      other = others_say P from to b.0;
      own_ballot = b.1;
      clock = c.0;
      table = rows_say P (home_of P from) y.table P.jobs d.0;
      unproposed = unproposed_say y.table P.jobs d.1;
    }
rules_say P (newstate_ack from to b) h = let a = both h in record { other = others_say P from to a.0; its_ballot = a.1 }
rules_say P unknown h = never h refl

-- with nothing behind the sections
told_whole : (P : Plan) (m : Rec) → plan_sound P ≡ true → Spare P (carried m) → Told P m → Obeys P m
unfolding carried ballots_in rows_in entry or_plan pick
told_whole P (multicast from to j) s k o = o
told_whole P (accept from to j y) s k o = o
told_whole P (accept_ack from to j bs) s k o =
    record { sender = o.sender; addressee = o.addressee; job = o.job; named = o.named; vector = vector_whole P j bs s o.vector k.ballots }
told_whole P (deliver from to j y) s k o = o
told_whole P (newleader from to b) s k o = o
told_whole P (newleader_ack from to y) s k o =
    record {
      near = o.near;
      its_ballot = o.its_ballot;
      lower = o.lower;
      cballot_home = o.cballot_home;
      clock = o.clock;
      table = table_whole P (home_of P from) y.table o.table k.rows;
    }
told_whole P (new_state from to y) s k o =
    let t = table_whole P (home_of P from) y.table o.table k.rows in
    record {
      other = o.other;
      own_ballot = o.own_ballot;
      clock = o.clock;
      table = t;
      unproposed = unproposed_whole P (home_of P from) y.table t o.unproposed;
    }
told_whole P (newstate_ack from to b) s k o = o
told_whole P unknown s k o = o

obeys_spare : (P : Plan) (m : Rec) → plan_sound P ≡ true → Obeys P m → Spare P (carried m)
unfolding
    carried has_job entry ballots_in or_plan stamps_in rows_in pick spare_stamps spare_rows is_no_row start_row is_no_ballot
    is_no_stamp same_ballot same_stamp spare_ballots all_below
obeys_spare P (multicast from to j) s o = record { job = refl; ballots = refl; stamps = refl; rows = refl }
obeys_spare P (accept from to j y) s o = record { job = refl; ballots = refl; stamps = refl; rows = refl }
obeys_spare P (accept_ack from to j bs) s o = record { job = refl; ballots = vector_spare P j bs s o.vector; stamps = refl; rows = refl }
obeys_spare P (deliver from to j y) s o = record { job = refl; ballots = refl; stamps = refl; rows = refl }
obeys_spare P (newleader from to b) s o = record { job = refl; ballots = refl; stamps = refl; rows = refl }
obeys_spare P (newleader_ack from to y) s o = record { job = refl; ballots = refl; stamps = refl; rows = table_spare P (home_of P from) y.table o.table }
obeys_spare P (new_state from to y) s o = record { job = refl; ballots = refl; stamps = refl; rows = table_spare P (home_of P from) y.table o.table }
obeys_spare P (newstate_ack from to b) s o = record { job = refl; ballots = refl; stamps = refl; rows = refl }
obeys_spare P unknown s o = absurd o

pub obeys_rules : (P : Plan) (m : Rec) → plan_sound P ≡ true → Obeys P m → rules P m ≡ true
unfolding rules boxes
obeys_rules P (multicast from to j) s o = rw (o.sender, o.addressee, o.job)
obeys_rules P (accept from to j y) s o = rw (o.sender, o.addressee, o.job, o.own_ballot, o.home_stamp, o.named)
obeys_rules P (accept_ack from to j bs) s o = rw (o.sender, o.addressee, o.job, o.named) (vector_is P j bs s o.vector)
obeys_rules P (deliver from to j y) s o = rw (neighbours_are P from to o.near, o.job, o.own_ballot, o.stamps)
obeys_rules P (newleader from to b) s o = rw (neighbours_are P from to o.near, o.own_ballot)
obeys_rules P (newleader_ack from to y) s o =
    rw (neighbours_are P from to o.near, o.its_ballot, o.lower, o.cballot_home, o.clock) (table_rows P (home_of P from) y.table s o.table)
obeys_rules P (new_state from to y) s o =
    rw
    (others_are P from to o.other, o.own_ballot, o.clock, table_rows P (home_of P from) y.table s o.table)
    (unproposed_is P y.table s o.unproposed)
obeys_rules P (newstate_ack from to b) s o = rw (others_are P from to o.other, o.its_ballot)
obeys_rules P unknown s o = absurd o

obeys_known : (P : Plan) (m : Rec) → Obeys P m → known (carried m).kind ≡ true
unfolding known carried
obeys_known P (multicast from to j) o = refl
obeys_known P (accept from to j y) o = refl
obeys_known P (accept_ack from to j bs) o = refl
obeys_known P (deliver from to j y) o = refl
obeys_known P (newleader from to b) o = refl
obeys_known P (newleader_ack from to y) o = refl
obeys_known P (new_state from to y) o = refl
obeys_known P (newstate_ack from to b) o = refl
obeys_known P unknown o = absurd o

-- ---- valid, both ways

-- what a valid struct is
pub record Valid (P : Plan) (r : Record) : Type 0 where
  pub is_known : known r.kind ≡ true
  pub behind : Spare P r
  pub obeys : rules P (meaning r) ≡ true

pub valid_parts : (P : Plan) (r : Record) → valid P r ≡ true → Valid P r
unfolding valid
valid_parts P r h =
    let a = both {a = known r.kind} h in
    let b = both {a = spare P r} {b = rules P (meaning r)} a.1 in
    record { is_known = a.0; behind = spare_says P r b.0; obeys = b.1 }

-- its kind
pub valid_kind : (P : Plan) (r : Record) → valid P r ≡ true → (1 ≤ r.kind) × (r.kind ≤ most_kind)
unfolding known
valid_kind P r h =
    let k = both {a = leb 1 r.kind} {b = leb r.kind most_kind} (valid_parts P r h).is_known in
    (leb-true 1 r.kind k.0, leb-true r.kind most_kind k.1)

-- the rules hold of what it says
pub valid_rules : (P : Plan) (m : Rec) → valid P (carried m) ≡ true → rules P m ≡ true
valid_rules P m h = rw (meaning_carried m) at (valid_parts P (carried m) h).obeys

pub valid_says : (P : Plan) (m : Rec) → plan_sound P ≡ true → valid P (carried m) ≡ true → Obeys P m
valid_says P m s h = told_whole P m s (valid_parts P (carried m) h).behind (rules_say P m (valid_rules P m h))

pub valid_is : (P : Plan) (m : Rec) → plan_sound P ≡ true → Obeys P m → valid P (carried m) ≡ true
unfolding valid
valid_is P m s o =
    and_both (known (carried m).kind) (spare P (carried m) && rules P (meaning (carried m))) (obeys_known P m o)
    (and_both (spare P (carried m)) (rules P (meaning (carried m))) (spare_is P (carried m) (obeys_spare P m s o))
    (rw (meaning_carried m) (obeys_rules P m s o)))
