-- Laws of what specs/Ends.antt defines.
use Prim.Native.Nat.{ℕ, ◌+◌, ◌≤◌, ◌<◌}
use mathlib.Core.List.{List}
use mathlib.Core.Path.{◌≡◌, refl}
use lib.ListN.{length, get_or, get_or-replicate}
use Rattle.laws.proofs.laws.Fold.{upto_step}
use Rattle.house.specs.Limits.{most_jobs}
use Rattle.house.specs.Pairs.{box_no}
use Rattle.house.specs.declared.BoxNo.{BoxNo}
use Rattle.house.specs.Marks.{most_marks}
use Rattle.boxes.specs.Box.{row_at}
use Rattle.boxes.specs.declared.BoxState.{BoxState}
use Rattle.rehearsal.specs.Night.{box_in}
use Rattle.rehearsal.specs.declared.Night.{Night}
use Rattle.closing.specs.Endings.{first_of, first_below, nowhere}
use Rattle.closing.specs.Holders.{Ended}
use Rattle.closing.proofs.laws.Holders.{none_yet, one_more}
use Rattle.closing.proofs.laws.Laws.{with_boxes}
use Rattle.closing.specs.declared.endings.JobEnd.{JobEnd}
use Rattle.closing.specs.Ends.{no_end, no_ends, end_with, AllEnded, OneMore}

-- ---- no box, and one box more

pub none_ended : (n : Night) → AllEnded n 0 no_ends
unfolding first_below
none_ended n j h =
    let z = none_yet n j in
    rw (get_or-replicate most_jobs j no_end no_end h) (record { first_is = refl; holders_are = z.0; none_from = z.1 })

ended_more : (n : Night) (j k : ℕ) (e : JobEnd) → k < most_marks → Ended n j k e → Ended n j (k + 1) (end_with e (box_no k) (box_in n k) j)
unfolding first_below
ended_more n j k e l d =
    let h = one_more n j k e.holders l d.holders_are d.none_from in
    record {
      first_is = rw d.first_is (upto_step (λ f p. first_of f (row_at (box_in n p) j)) nowhere k);
      holders_are = h.0;
      none_from = h.1;
    }

-- what is said of a night's boxes is said of the night
pub of_boxes : (n : Night) (k : ℕ) (l : List JobEnd) → AllEnded (with_boxes n.boxes) k l → AllEnded n k l
unfolding first_below box_in
of_boxes n k l a j h = let e = a j h in record { first_is = e.first_is; holders_are = e.holders_are; none_from = e.none_from }

-- ---- job by job: of the jobs below i what box p says is in m, of the others it is as in l

pub record Heard (p : BoxNo) (x : BoxState) (l : List JobEnd) (i : ℕ) (m : List JobEnd) : Type 0 where
  pub long : length m ≡ most_jobs
  pub heard : (j : ℕ) → j < i → get_or m j no_end ≡ end_with (get_or l j no_end) p x j
  pub ahead : (j : ℕ) → i ≤ j → get_or m j no_end ≡ get_or l j no_end

pub heard_all : (p : BoxNo) (x : BoxState) (l m : List JobEnd) → Heard p x l most_jobs m → OneMore p x l m
heard_all p x l m d n low e a j h = rw (d.heard j h, ← e) (ended_more n j p.0 (get_or l j no_end) low (a j h))
