-- A sound box as a record of facts, one a clause of document 01, with laws both ways; the kept vote.
use Prim.Native.Nat.{◌≤◌}
use mathlib.Core.Bool.{true, false}
use mathlib.Core.Logic.{◌⊎◌, inl, inr}
use mathlib.Core.Path.{◌≡◌, ◌∙◌}
use borrow.Author.Tests.{eqb-true, eq-eqb, leb-true, le-leb}
use Rattle.laws.proofs.laws.Choice.{pick_true, pick_false, and_both, look, both, never}
use Rattle.house.specs.Limits.{most_time}
use Rattle.house.specs.Pairs.{no_ballot, ballot_lt, ballot_of, time_fits}
use Rattle.house.specs.declared.Ballot.{Ballot}
use Rattle.house.specs.declared.BoxNo.{BoxNo}
use Rattle.house.specs.Plan.{is_box, home_of, none_or_in, plan_sound}
use Rattle.house.specs.declared.Plan.{Plan}
use Rattle.house.proofs.laws.Orders.{no_ballot_says, no_ballot_is}
use Rattle.records.proofs.laws.Rows.{TableOk, NoRows, table_rows, table_spare, no_rows_say, no_rows_are, rows_say, table_whole, clock_says, clock_is}
use Rattle.records.proofs.laws.Obeys.{Neighbours, rules_say, obeys_rules}
use Rattle.records.specs.Rules.{rules, spare_rows}
use Rattle.records.specs.Rec.{newleader_ack}
use Rattle.boxes.specs.declared.BoxState.{BoxState}
use Rattle.boxes.specs.declared.Vote.{Vote}
use Rattle.boxes.proofs.laws.Parts.{BallotsOk, SentOk, KeptsOk, MarksOk, ballots_say, ballots_are, sent_says, sent_is, kepts_say, kepts_are, marks_say}
use Rattle.boxes.proofs.laws.Parts.{marks_are}
use Rattle.boxes.proofs.laws.Listing.{ListOk, list_says, list_is}
use Rattle.boxes.specs.Box.{home_in, own_of}
use Rattle.boxes.specs.Sound.{range_sound, table_sound, paper_of, held_sound, unvoted, vote_sound, box_sound, sound}

-- ---- the kept vote

-- what a valid kind 6 record to this box for its ballot holds
pub record PaperOk (P : Plan) (own : BoxNo) (b : Ballot) (v : Vote) : Type 0 where
  pub near : Neighbours P v.voter own
  pub own_ballot : ballot_of own b ≡ true
  pub lower : ballot_lt v.cballot b ≡ true
  pub cballot_home : none_or_in P (home_of P own) v.cballot ≡ true
  pub clock : v.clock ≤ most_time
  pub table : TableOk P (home_of P own) v.table

-- no vote at all
pub record NoVote (v : Vote) : Type 0 where
  pub voter : v.voter.0 ≡ 0
  pub cballot : v.cballot ≡ no_ballot
  pub clock : v.clock ≡ 0
  pub table : NoRows v.table

pub data VoteOk (P : Plan) (own : BoxNo) (b : Ballot) (v : Vote) : Type 0 where
  is_held : v.held ≡ true → PaperOk P own b v → VoteOk P own b v
  not_held : v.held ≡ false → NoVote v → VoteOk P own b v

-- a vote that is held
pub held_paper : {P : Plan} {own : BoxNo} {b : Ballot} {v : Vote} → VoteOk P own b v → v.held ≡ true → PaperOk P own b v
held_paper (is_held e K) h = K
held_paper (not_held e N) h = never h e

-- ---- the box

pub record SoundBox (P : Plan) (x : BoxState) : Type 0 where
  pub plan : plan_sound P ≡ true
  -- numbers in range
  pub own : is_box P x.core.own ≡ true
  pub clock : x.core.clock ≤ most_time
  pub ballots : BallotsOk P x.core.own x.core.status x.core.ballot x.core.cballot
  pub table : TableOk P (home_of P x.core.own) x.core.table
  pub sent : SentOk P x.core.sent
  pub kept : KeptsOk P x.volatile.kept_ballots x.volatile.kept_stamps
  pub marks : MarksOk P x.volatile.marks
  pub list : ListOk P (home_of P x.core.own) x.core.count x.core.list
  pub vote : VoteOk P x.core.own x.core.ballot x.volatile.vote

held_says : (P : Plan) (x : BoxState) → held_sound P x ≡ true → PaperOk P x.core.own x.core.ballot x.volatile.vote
unfolding held_sound paper_of
held_says P x h =
    let v = x.volatile.vote in
    let r = both h in
    let o = rules_say P (newleader_ack v.voter (own_of x) (paper_of P x)) r.0 in
    let e = o.near.home in
    record {
      near = o.near;
      own_ballot = o.its_ballot;
      lower = o.lower;
      cballot_home = rw e at o.cballot_home;
      clock = clock_says (home_of P v.voter) (paper_of P x).clock o.clock;
      table = rw e at (table_whole P (home_of P v.voter) v.table o.table r.1);
    }

held_is : (P : Plan) (x : BoxState) → plan_sound P ≡ true → PaperOk P x.core.own x.core.ballot x.volatile.vote → held_sound P x ≡ true
unfolding held_sound paper_of
held_is P x s K =
    let v = x.volatile.vote in
    let e = K.near.home in
    and_both (rules P (newleader_ack v.voter (own_of x) (paper_of P x))) (spare_rows v.table P.jobs)
    (obeys_rules P (newleader_ack v.voter (own_of x) (paper_of P x)) s
    (record {
      near = K.near;
      its_ballot = K.own_ballot;
      lower = K.lower;
      cballot_home = rw e K.cballot_home;
      clock = clock_is (home_of P v.voter) v.clock K.clock;
      table = rw e K.table;
    }))
    (table_spare P (home_of P x.core.own) v.table K.table)

no_vote_says : (v : Vote) → unvoted v ≡ true → NoVote v
unfolding unvoted
no_vote_says v h =
    let a = both h in let b = both a.0 in let c = both a.1 in
    record {
      voter = eqb-true v.voter.0 0 b.0;
      cballot = no_ballot_says v.cballot b.1;
      clock = eqb-true v.clock 0 c.0;
      table = no_rows_say v.table c.1;
    }

no_vote_is : (v : Vote) → NoVote v → unvoted v ≡ true
unfolding unvoted
no_vote_is v N = rw (eq-eqb v.voter.0 0 N.voter, N.cballot, no_ballot_is, eq-eqb v.clock 0 N.clock) (no_rows_are v.table N.table)

vote_says : (P : Plan) (x : BoxState) → vote_sound P x ≡ true → VoteOk P x.core.own x.core.ballot x.volatile.vote
unfolding vote_sound
vote_says P x h = go (look x.volatile.vote.held)
  where
    go : (x.volatile.vote.held ≡ true) ⊎ (x.volatile.vote.held ≡ false) → VoteOk P x.core.own x.core.ballot x.volatile.vote
    go (inl e) = is_held e (held_says P x (rw (pick_true (held_sound P x) (unvoted x.volatile.vote) e) at h))
    go (inr e) = not_held e (no_vote_says x.volatile.vote (rw (pick_false (held_sound P x) (unvoted x.volatile.vote) e) at h))

vote_is : (P : Plan) (x : BoxState) → plan_sound P ≡ true → VoteOk P x.core.own x.core.ballot x.volatile.vote → vote_sound P x ≡ true
unfolding vote_sound
vote_is P x s (is_held e k) = pick_true (held_sound P x) (unvoted x.volatile.vote) e ∙ held_is P x s k
vote_is P x s (not_held e k) = pick_false (held_sound P x) (unvoted x.volatile.vote) e ∙ no_vote_is x.volatile.vote k

pub sound_says : (P : Plan) (x : BoxState) → sound P x ≡ true → SoundBox P x
unfolding sound box_sound range_sound table_sound time_fits
sound_says P x h =
    let z = both h in let y = both z.1 in let a = both y.0 in let b = both y.1 in
    let c = both a.0 in let d = both a.1 in let e = both b.0 in let f = both b.1 in
    let r = both c.0 in let t = both d.0 in
    record {
      plan = z.0;
      own = r.0;
      clock = leb-true x.core.clock most_time r.1;
      ballots = ballots_say P x c.1;
      table = table_whole P (home_in P x) x.core.table (rows_say P (home_in P x) x.core.table P.jobs t.0) t.1;
      sent = sent_says P x d.1;
      kept = kepts_say P x e.0;
      marks = marks_say P x e.1;
      list = list_says P x f.0;
      vote = vote_says P x f.1;
    }

pub sound_is : (P : Plan) (x : BoxState) → SoundBox P x → sound P x ≡ true
unfolding sound box_sound range_sound table_sound time_fits
sound_is P x S =
    let d = home_in P x in
    let t = x.core.table in
    rw (
      S.plan,
      S.own,
      le-leb x.core.clock most_time S.clock,
      ballots_are P x S.ballots,
      table_rows P d t S.plan S.table,
      table_spare P d t S.table,
    )
    (rw (sent_is P x S.sent, kepts_are P x S.kept, marks_are P x S.marks, list_is P x S.list) (vote_is P x S.plan S.vote))

-- ---- laws

pub sound_plan : (P : Plan) (x : BoxState) → sound P x ≡ true → plan_sound P ≡ true
sound_plan P x h = (sound_says P x h).plan
