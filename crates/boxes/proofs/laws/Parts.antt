-- A sound box part by part: facts in document 01's words over just the fields that each is about, and the tests both ways.
use Prim.Native.Nat.{ℕ, ◌^◌, ◌≤◌, ◌<◌}
use mathlib.Core.Bool.{Bool, true, false, not, ◌&&◌, ◌||◌}
use mathlib.Core.List.{List}
use mathlib.Core.Logic.{◌⊎◌, inl, inr}
use mathlib.Core.Path.{◌≡◌}
use lib.ListN.{get_or}
use lib.Dec.{ltb, eqb}
use borrow.Author.Tests.{eqb-true, eq-eqb, ltb-true, lt-ltb, not-true, not-false}
use Rattle.laws.proofs.laws.Choice.{and_both, not_off, or_right, or_cases, or_other, not_of, both, or_if}
use Rattle.laws.specs.Fold.{all_below}
use Rattle.laws.proofs.laws.Fold.{all_says, all_is, from_says, from_is}
use Rattle.house.specs.Limits.{most_districts, most_jobs}
use Rattle.house.specs.Pairs.{district, no_stamp, no_ballot, ballot_lt, stamp_of, ballot_of, same_ballot, is_no_stamp, is_no_ballot}
use Rattle.house.specs.declared.Stamp.{Stamp}
use Rattle.house.specs.declared.Ballot.{Ballot}
use Rattle.house.specs.declared.BoxNo.{BoxNo}
use Rattle.house.specs.declared.District.{District}
use Rattle.house.specs.Plan.{boxes_of, home_of, names, ballot_in, none_or_in, is_job}
use Rattle.house.specs.declared.Plan.{Plan}
use Rattle.house.specs.Marks.{no_marks, marks_in}
use Rattle.house.proofs.laws.Orders.{ballot_order, no_stamp_says, no_ballot_says, no_stamp_is, no_ballot_is}
use Rattle.boxes.specs.Box.{is_leader, is_recovering, kept_at, own_of, sent_at, kept_ballot, kept_stamp, marks_at}
use Rattle.boxes.specs.declared.Status.{Status}
use Rattle.boxes.specs.Sound.{ballots_sound, sent_sound, kept_sound, job_kept_sound, all_kept_sound, marks_sound, all_marks_sound}
use Rattle.boxes.specs.declared.BoxState.{BoxState}

-- ---- ballots

pub record BallotsOk (P : Plan) (own : BoxNo) (s : Status) (b cb : Ballot) : Type 0 where
  -- cballot at most ballot
  pub at_most : ballot_lt b cb ≡ false
  -- and equal unless recovering
  pub equal : is_recovering s ≡ false → cb ≡ b
  -- each none or of the own district
  pub ballot_home : none_or_in P (home_of P own) b ≡ true
  pub cballot_home : none_or_in P (home_of P own) cb ≡ true
  -- a leader's cballot is real and its own
  pub leader : is_leader s ≡ true → ballot_of own cb ≡ true

-- ---- sent flags

-- a number that is no job has no flag
pub record SentOk (P : Plan) (l : List Bool) : Type 0 where
  pub behind : (j : ℕ) → P.jobs ≤ j → j < most_jobs → get_or l j false ≡ false

-- ---- kept ACCEPTs

-- none, or for a named district, by a box and with a stamp of that district
pub data KeptOk (P : Plan) (j : ℕ) (d : District) (b : Ballot) (s : Stamp) : Type 0 where
  not_kept : b ≡ no_ballot → s ≡ no_stamp → KeptOk P j d b s
  is_kept : names P j d ≡ true → ballot_in P d b ≡ true → stamp_of d s ≡ true → KeptOk P j d b s

-- one of 256 pairs
pub record KeptsOk (P : Plan) (bs : List Ballot) (ss : List Stamp) : Type 0 where
  pub pair : (j d : ℕ) → j < most_jobs → d < most_districts
      → KeptOk P j (district d) (get_or bs (kept_at j (district d)) no_ballot) (get_or ss (kept_at j (district d)) no_stamp)

-- ---- marks

-- marks only of boxes in named districts
pub record MarkOk (P : Plan) (j : ℕ) (m : ℕ) : Type 0 where
  pub low : m < 2 ^ boxes_of P
  pub named : (d : ℕ) → d < P.districts → names P j (district d) ≡ false → marks_in P m (district d) ≡ 0

pub record MarksOk (P : Plan) (l : List ℕ) : Type 0 where
  pub job : (j : ℕ) → j < most_jobs → MarkOk P j (get_or l j no_marks)

pub ballots_say : (P : Plan) (x : BoxState) → ballots_sound P x ≡ true → BallotsOk P x.core.own x.core.status x.core.ballot x.core.cballot
unfolding ballots_sound
ballots_say P x h =
    let a = both h in let b = both a.0 in let c = both b.0 in let d = both b.1 in
    record {
      at_most = not-true (ballot_lt x.core.ballot x.core.cballot) c.0;
      equal =
          λ e.
          ballot_order.eq_says
          x.core.cballot
          x.core.ballot
          (or_other (is_recovering x.core.status) (same_ballot x.core.cballot x.core.ballot) c.1 e);
      ballot_home = d.0;
      cballot_home = d.1;
      leader = λ e. or_other (not (is_leader x.core.status)) (ballot_of (own_of x) x.core.cballot) a.1 (not_of e);
    }

pub ballots_are : (P : Plan) (x : BoxState) → BallotsOk P x.core.own x.core.status x.core.ballot x.core.cballot → ballots_sound P x ≡ true
unfolding ballots_sound
ballots_are P x B =
    rw (B.at_most, recovering, B.ballot_home, B.cballot_home)
    (or_if (not (is_leader x.core.status)) (ballot_of (own_of x) x.core.cballot) (λ e. B.leader (not-false (is_leader x.core.status) e)))
  where
    recovering : (is_recovering x.core.status || same_ballot x.core.cballot x.core.ballot) ≡ true
    recovering =
        or_if (is_recovering x.core.status) (same_ballot x.core.cballot x.core.ballot) (λ e. rw (B.equal e) (ballot_order.eq_is x.core.ballot))

pub sent_says : (P : Plan) (x : BoxState) → sent_sound P x ≡ true → SentOk P x.core.sent
unfolding sent_sound sent_at is_job
sent_says P x h = record { behind = λ j n l. not-true (get_or x.core.sent j false) (from_says (λ i. not (sent_at x i)) P.jobs most_jobs h j n l) }

pub sent_is : (P : Plan) (x : BoxState) → SentOk P x.core.sent → sent_sound P x ≡ true
unfolding sent_sound sent_at is_job
sent_is P x S = from_is (λ i. not (sent_at x i)) P.jobs most_jobs (λ j n l. not_off (S.behind j n l))

kept_says : (P : Plan) (x : BoxState) (j : ℕ) (d : District) → kept_sound P x j d ≡ true → KeptOk P j d (kept_ballot x j d) (kept_stamp x j d)
unfolding kept_sound
kept_says P x j d h = go (or_cases (is_no_ballot b && is_no_stamp s) (names P j d && (ballot_in P d b && stamp_of d s)) h)
  where
    b : Ballot
    b = kept_ballot x j d

    s : Stamp
    s = kept_stamp x j d

    go : (is_no_ballot b && is_no_stamp s ≡ true) ⊎ (names P j d && (ballot_in P d b && stamp_of d s) ≡ true) → KeptOk P j d b s
    go (inl k) = let a = both k in not_kept (no_ballot_says b a.0) (no_stamp_says s a.1)
    go (inr k) = let a = both k in let c = both a.1 in is_kept a.0 c.0 c.1

kept_is : (P : Plan) (x : BoxState) (j : ℕ) (d : District) → KeptOk P j d (kept_ballot x j d) (kept_stamp x j d) → kept_sound P x j d ≡ true
unfolding kept_sound
kept_is P x j d (not_kept e f) = rw (e, f, no_ballot_is, no_stamp_is)
kept_is P x j d (is_kept n b s) =
    or_right
    (is_no_ballot (kept_ballot x j d) && is_no_stamp (kept_stamp x j d))
    (names P j d && (ballot_in P d (kept_ballot x j d) && stamp_of d (kept_stamp x j d)))
    (rw (n, b, s))

pub kepts_say : (P : Plan) (x : BoxState) → all_kept_sound P x ≡ true → KeptsOk P x.volatile.kept_ballots x.volatile.kept_stamps
unfolding all_kept_sound job_kept_sound kept_ballot kept_stamp
kepts_say P x h =
    record {
      pair = λ j d lj ld.
          let all_districts = all_says (job_kept_sound P x) most_jobs h j lj in
          kept_says P x j (district d) (all_says (λ e. kept_sound P x j (district e)) most_districts all_districts d ld);
    }

pub kepts_are : (P : Plan) (x : BoxState) → KeptsOk P x.volatile.kept_ballots x.volatile.kept_stamps → all_kept_sound P x ≡ true
unfolding all_kept_sound job_kept_sound kept_ballot kept_stamp
kepts_are P x K =
    all_is
    (job_kept_sound P x)
    most_jobs
    (λ j lj. all_is (λ e. kept_sound P x j (district e)) most_districts (λ d ld. kept_is P x j (district d) (K.pair j d lj ld)))

pub marks_say : (P : Plan) (x : BoxState) → all_marks_sound P x ≡ true → MarksOk P x.volatile.marks
unfolding all_marks_sound marks_sound marks_at
marks_say P x h = record { job = λ j l. go j (all_says (marks_sound P x) most_jobs h j l) }
  where
    go : (j : ℕ) → marks_sound P x j ≡ true → MarkOk P j (get_or x.volatile.marks j no_marks)
    go j k =
        let m = marks_at x j in
        let a = both k in
        record {
          low = ltb-true m (2 ^ boxes_of P) a.0;
          named = λ d l n.
              eqb-true (marks_in P m (district d)) 0
              (or_other (names P j (district d)) (eqb (marks_in P m (district d)) 0)
              (all_says (λ e. names P j (district e) || eqb (marks_in P m (district e)) 0) P.districts a.1 d l) n);
        }

pub marks_are : (P : Plan) (x : BoxState) → MarksOk P x.volatile.marks → all_marks_sound P x ≡ true
unfolding all_marks_sound marks_sound marks_at
marks_are P x M = all_is (marks_sound P x) most_jobs (λ j l. go j (M.job j l))
  where
    go : (j : ℕ) → MarkOk P j (get_or x.volatile.marks j no_marks) → marks_sound P x j ≡ true
    go j K =
        let m = marks_at x j in
        and_both
        (ltb m (2 ^ boxes_of P))
        (all_below (λ d. names P j (district d) || eqb (marks_in P m (district d)) 0) P.districts)
        (lt-ltb m (2 ^ boxes_of P) K.low)
        (all_is (λ d. names P j (district d) || eqb (marks_in P m (district d)) 0) P.districts
        (λ d l. or_if (names P j (district d)) (eqb (marks_in P m (district d)) 0) (λ n. eq-eqb (marks_in P m (district d)) 0 (K.named d l n))))
