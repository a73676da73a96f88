-- What the report says, in document 01's words: the lowest box that has a job committed, and a job on the list of a box in each named district.
use Rattle.std.specs.Prelude.{ℕ, ◌<◌, true, false, Some, ◌≡◌}
use Rattle.house.specs.declared.Row.{Row}
use Rattle.boxes.specs.Box.{row_at}
use Rattle.rehearsal.specs.Night.{box_in}
use Rattle.rehearsal.specs.declared.Night.{Night}
use Rattle.closing.specs.Endings.{is_committed, first_below}

-- the row of job j at box p
abbrev pub row_of : Night → ℕ → ℕ → Row
row_of n j p = row_at (box_in n p) j

-- the lowest box below k that has job j committed
pub record Lowest (n : Night) (j k : ℕ) : Type 0 where
  pub box : ℕ
  pub is_box_lem : box < k
  pub committed : is_committed (row_of n j box) ≡ true
  pub stamped : first_below n j k ≡ Some (row_of n j box).global
  pub lowest : (q : ℕ) → q < box → is_committed (row_of n j q) ≡ false
