-- A fresh box is sound, and so is a box after a cut: it has a fresh volatile part and is otherwise as before.
-- A second cut changes nothing.
use Prim.Native.Nat.{ℕ, ◌+◌, ◌*◌, ◌<◌}
use mathlib.Core.Bool.{true, false}
use mathlib.Core.Path.{◌≡◌, refl}
use native.Mathlib.Omega.{arith}
use lib.ListN.{replicate, get_or-replicate}
use lib.Pow.{pow_pos}
use Rattle.laws.proofs.laws.Choice.{never}
use Rattle.laws.proofs.laws.Digits.{part_beyond}
use Rattle.house.specs.Limits.{most_districts, most_jobs}
use Rattle.house.specs.Pairs.{box_no, no_stamp, no_ballot, no_row}
use Rattle.house.proofs.laws.Orders.{ballot_order, no_ballot_is}
use Rattle.house.specs.declared.Ballot.{Ballot}
use Rattle.house.specs.declared.BoxNo.{BoxNo}
use Rattle.house.specs.Plan.{boxes_of, is_box, home_of, none_or_in, size_of, plan_sound}
use Rattle.house.proofs.laws.Says.{box_is}
use Rattle.house.specs.declared.Plan.{Plan}
use Rattle.house.specs.Marks.{no_marks, marks_in}
use Rattle.records.specs.Rec.{no_rows}
use Rattle.records.proofs.laws.Rows.{NoRows, no_rows_ok}
use Rattle.boxes.specs.Box.{no_listed, kept_at, no_vote, fresh, fresh_volatile}
use Rattle.boxes.specs.Sound.{sound}
use Rattle.boxes.specs.Cut.{cut}
use Rattle.boxes.specs.declared.BoxState.{BoxState}
use Rattle.boxes.proofs.laws.Parts.{not_kept, KeptsOk, MarkOk, MarksOk}
use Rattle.boxes.proofs.laws.Sound.{VoteOk, not_held, SoundBox, sound_is}
use Rattle.boxes.specs.Lengths.{Lengths}

pub no_rows_lem : NoRows no_rows
no_rows_lem = record { row = λ j l. get_or-replicate most_jobs j no_row no_row l }

-- no vote is sound at every box
pub no_vote_ok : (P : Plan) (own : BoxNo) (b : Ballot) → VoteOk P own b no_vote
no_vote_ok P own b = not_held refl (record { voter = refl; cballot = refl; clock = refl; table = no_rows_lem })

-- no box is marked: sound for every job
pub no_marks_ok : (P : Plan) (j : ℕ) → MarkOk P j no_marks
unfolding marks_in
no_marks_ok P j = record { low = pow_pos (boxes_of P); named = λ d l n. part_beyond 0 0 (d * size_of P) (size_of P) (pow_pos 0) (omega arith) }

none_kept : (P : Plan) → KeptsOk P (replicate 256 no_ballot) (replicate 256 no_stamp)
unfolding kept_at
none_kept P =
    record {
      pair = λ j d lj ld.
          not_kept
          (get_or-replicate 256 (j * most_districts + d) no_ballot no_ballot (omega arith))
          (get_or-replicate 256 (j * most_districts + d) no_stamp no_stamp (omega arith));
    }

none_marked : (P : Plan) → MarksOk P (replicate most_jobs no_marks)
none_marked P = record { job = λ j l. rw (get_or-replicate most_jobs j no_marks no_marks l) (no_marks_ok P j) }

-- ---- fresh

pub fresh_sound : (P : Plan) (own : BoxNo) → plan_sound P ≡ true → is_box P own ≡ true → SoundBox P (fresh own)
unfolding fresh fresh_volatile none_or_in
fresh_sound P own s h =
    record {
      plan = s;
      own = h;
      clock = omega arith;
      ballots =
          record {
            at_most = ballot_order.irrefl no_ballot;
            equal = λ e. refl;
            ballot_home = rw no_ballot_is;
            cballot_home = rw no_ballot_is;
            leader = λ e. never e refl;
          };
      table = no_rows_ok P (home_of P own) no_rows no_rows_lem;
      sent = record { behind = λ j n l. get_or-replicate most_jobs j false false l };
      kept = none_kept P;
      marks = none_marked P;
      list =
          record {
            most = omega arith;
            named = λ i l. absurd (omega arith);
            stamped = λ i l. absurd (omega arith);
            rising = λ i l. absurd (omega arith);
            once = λ i k lt l. absurd (omega arith);
            behind = λ i n l. get_or-replicate most_jobs i no_listed no_listed l;
          };
      vote = no_vote_ok P own no_ballot;
    }

pub fresh_lengths : (own : BoxNo) → Lengths (fresh own)
unfolding fresh fresh_volatile
fresh_lengths own = record { table = refl; sent = refl; list = refl; kept_ballots = refl; kept_stamps = refl; marks = refl; vote_table = refl }

-- every box number of a sound plan has a sound fresh box
pub fresh_is_sound : (P : Plan) (p : ℕ) → plan_sound P ≡ true → p < boxes_of P → sound P (fresh (box_no p)) ≡ true
fresh_is_sound P p s h = sound_is P (fresh (box_no p)) (fresh_sound P (box_no p) s (box_is P (box_no p) h))

-- ---- cut

pub cut_sound : {P : Plan} {x : BoxState} → SoundBox P x → SoundBox P (cut x)
unfolding cut fresh_volatile
cut_sound {P} {x} S =
    record {
      plan = S.plan;
      own = S.own;
      clock = S.clock;
      ballots = S.ballots;
      table = S.table;
      sent = S.sent;
      kept = none_kept P;
      marks = none_marked P;
      list = S.list;
      vote = no_vote_ok P x.core.own x.core.ballot;
    }

pub cut_lengths : {x : BoxState} → Lengths x → Lengths (cut x)
unfolding cut fresh_volatile
cut_lengths L = record { table = L.table; sent = L.sent; list = L.list; kept_ballots = refl; kept_stamps = refl; marks = refl; vote_table = refl }
