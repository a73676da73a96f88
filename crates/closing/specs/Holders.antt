-- The holders of a job: the boxes that have it on their lists, as marks. The report walks over the boxes once and asks the marks after.
use Rattle.std.specs.Prelude.{ℕ, ◌+◌, ◌*◌, ◌≤◌, ◌<◌, Bool, false, not, ◌||◌, ◌≡◌}
use Rattle.laws.specs.Choice.{pick}
use Rattle.laws.specs.Fold.{some_below}
use Rattle.house.specs.Pairs.{box_no, district}
use Rattle.house.specs.Plan.{size_of, names}
use Rattle.house.specs.declared.Plan.{Plan}
use Rattle.house.specs.declared.BoxNo.{BoxNo}
use Rattle.house.specs.Marks.{has_mark, marked}
use Rattle.boxes.specs.Box.{on_list}
use Rattle.rehearsal.specs.Night.{box_in}
use Rattle.rehearsal.specs.declared.Night.{Night}
use Rattle.closing.specs.Endings.{first_below}
use Rattle.closing.specs.declared.endings.JobEnd.{JobEnd}

-- of the boxes below k those marked have job j on their lists, and no other
abbrev pub Holders : Night → ℕ → ℕ → ℕ → Type 0
Holders n j k m = (p : ℕ) → p < k → has_mark m (box_no p) ≡ on_list (box_in n p) j

-- no box from k on is marked
abbrev pub NoneFrom : ℕ → ℕ → Type 0
NoneFrom k m = (p : ℕ) → k ≤ p → has_mark m (box_no p) ≡ false

-- the marks, and box p if it has the job on its list
abbrev pub with_holder : ℕ → BoxNo → Bool → ℕ
with_holder m p listed = pick listed (marked m p) m

-- one of some boxes, which stand one behind the other, is marked
unfoldable pub marked_in : ℕ → ℕ → ℕ → Bool
marked_in m low size = some_below (λ i. has_mark m (box_no (low + i))) size

-- district d is done with job j by these marks: not named, or one of its boxes is marked
unfoldable pub held_in : Plan → ℕ → ℕ → ℕ → Bool
held_in P j m d = not (names P j (district d)) || marked_in m (d * size_of P) (size_of P)

-- what the boxes below k say of job j
pub record Ended (n : Night) (j k : ℕ) (e : JobEnd) : Type 0 where
  -- where it is committed first
  pub first_is : e.first ≡ first_below n j k
  -- which boxes have it on their lists
  pub holders_are : Holders n j k e.holders
  -- and no other box is marked
  pub none_from : NoneFrom k e.holders
