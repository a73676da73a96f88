-- Laws of what specs/Pairs.antt defines.
use Rattle.std.specs.Prelude.{◌≡◌, ℕ, zero, suc, ◌+◌, ◌*◌, ◌/◌, ◌%◌, ◌^◌, ◌<◌, Bool, true, ◌&&◌, ◌||◌, eqb, List, get_or}
use mathlib.Core.Bool.{and-true, and_assoc}
use mathlib.Core.Path.{refl, ap, ◌∙◌}
use native.Mathlib.Nat.{add-zero, add-suc, zero-mul, suc-mul}
use native.Mathlib.Omega.{arith}
use lib.Pow.{pow_pos}
use borrow.Author.Tests.{lt-ltb}
use Rattle.laws.proofs.laws.Choice.{and_both, or_right}
use Rattle.laws.specs.Digits.{part}
use Rattle.laws.proofs.laws.Digits.{part_beyond}
use Rattle.laws.specs.Fold.{all_below}
use Rattle.laws.proofs.laws.Fold.{upto_same, all_is}
use Rattle.house.specs.Limits.{most_districts, most_jobs}
use Rattle.house.specs.Pairs.{district, no_ballot, no_stamp}
use Rattle.house.specs.declared.Ballot.{Ballot}
use Rattle.house.specs.declared.Stamp.{Stamp}
use Rattle.house.specs.Plan.{size_of, boxes_of, names}
use Rattle.house.specs.declared.Plan.{Plan}
use Rattle.house.specs.Marks.{no_marks, marks_in, only_boxes}
use Rattle.boxes.specs.Box.{kept_at, kept_ballot, kept_stamp, marks_at}
use Rattle.boxes.specs.Sound.{kept_sound, job_kept_sound, all_kept_sound, marks_sound, all_marks_sound}
use Rattle.boxes.specs.declared.BoxState.{BoxState}
use Rattle.soundness.specs.Pairs.{pair_sound, unnamed_below, job_marks_sound}

-- the pair at a place of the arrays, where job follows job and each has its districts side by side
unfoldable pub place_sound : Plan → List Ballot → List Stamp → ℕ → Bool
place_sound P bs ss i = pair_sound P (i / most_districts) (district (i % most_districts)) (get_or bs i no_ballot) (get_or ss i no_stamp)

unfoldable pub places_sound : Plan → List Ballot → List Stamp → ℕ → Bool
places_sound P bs ss n = all_below (place_sound P bs ss) n

-- a test of m places and then of n more
all_more : (t : ℕ → Bool) (m n : ℕ) → all_below t (m + n) ≡ all_below t m && all_below (λ i. t (m + i)) n
unfolding all_below
all_more t m zero = rw (add-zero, and-true)
all_more t m (suc n) = rw (add-suc, all_more t m n) (and_assoc (all_below t m) (all_below (λ i. t (m + i)) n) (t (m + n)))

all_same : (s t : ℕ → Bool) (n : ℕ) → ((i : ℕ) → i < n → s i ≡ t i) → all_below s n ≡ all_below t n
unfolding all_below
all_same s t n h = upto_same (λ ok i. ok && s i) (λ ok i. ok && t i) true n (λ ok i l. ap (λ (b : Bool). ok && b) (h i l))

-- one flat test is the test, row by row, of each place in the row
pub all_rows : (t : ℕ → Bool) (m n : ℕ) → all_below t (m * n) ≡ all_below (λ j. all_below (λ d. t (j * n + d)) n) m
unfolding all_below
all_rows t zero n = rw zero-mul
all_rows t (suc m) n = rw (suc-mul m n, all_more t (m * n) n, all_rows t m n)

-- of the places of a box, the one of a job and a district is theirs
unfoldable kept_place : Plan → BoxState → ℕ → Bool
kept_place P x i = place_sound P x.volatile.kept_ballots x.volatile.kept_stamps i

kept_place_lem : (P : Plan) (x : BoxState) (j d : ℕ) → d < most_districts → kept_place P x (j * most_districts + d) ≡ kept_sound P x j (district d)
unfolding kept_place place_sound pair_sound kept_sound kept_ballot kept_stamp kept_at
kept_place_lem P x j d h =
    let q : (j * most_districts + d) / most_districts ≡ j = omega arith in
    let r : (j * most_districts + d) % most_districts ≡ d = omega arith in
    rw (q, r)

pub kept_is : (P : Plan) (x : BoxState)
    → places_sound P x.volatile.kept_ballots x.volatile.kept_stamps (most_jobs * most_districts) ≡ all_kept_sound P x
unfolding kept_place places_sound all_kept_sound job_kept_sound
kept_is P x =
    all_rows (kept_place P x) most_jobs most_districts
    ∙ all_same _ (job_kept_sound P x) most_jobs (λ j _. all_same _ (λ d. kept_sound P x j (district d)) most_districts (kept_place_lem P x j))

-- no marks are sound
pub unmarked : (P : Plan) (j : ℕ) → job_marks_sound P j no_marks ≡ true
unfolding job_marks_sound only_boxes unnamed_below marks_in
unmarked P j =
    let none : (d : ℕ) → (names P j (district d) || eqb (part 0 (d * size_of P) (size_of P)) 0) ≡ true =
    λ d. rw (part_beyond 0 0 (d * size_of P) (size_of P) (pow_pos 0) (omega arith)) (or_right (names P j (district d)) true refl) in
    and_both _ _ (lt-ltb 0 (2 ^ boxes_of P) (pow_pos (boxes_of P))) (all_is _ P.districts (λ d l. none d))

unfoldable pub marks_below : Plan → List ℕ → ℕ → Bool
marks_below P ms n = all_below (λ j. job_marks_sound P j (get_or ms j no_marks)) n

pub marks_is : (P : Plan) (x : BoxState) → marks_below P x.volatile.marks most_jobs ≡ all_marks_sound P x
unfolding marks_below job_marks_sound unnamed_below only_boxes all_marks_sound marks_sound marks_at
marks_is P x = refl
