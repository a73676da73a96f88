-- The lengths of a box's arrays, which the code's arrays have by their types.
use Rattle.std.specs.Prelude.{◌≡◌, length}
use Rattle.house.specs.Limits.{most_jobs}
use Rattle.boxes.specs.declared.BoxState.{BoxState}

-- ---- the arrays

-- the lengths that the code's arrays have by their types
pub record Lengths (x : BoxState) : Type 0 where
  pub table : length x.core.table ≡ most_jobs
  pub sent : length x.core.sent ≡ most_jobs
  pub list : length x.core.list ≡ most_jobs
  pub kept_ballots : length x.volatile.kept_ballots ≡ 256
  pub kept_stamps : length x.volatile.kept_stamps ≡ 256
  pub marks : length x.volatile.marks ≡ most_jobs
  pub vote_table : length x.volatile.vote.table ≡ most_jobs
