-- Majorities: two groups of more than half of one district share a box, whatever the district's size.
use Rattle.std.specs.Prelude.{ℕ, ◌+◌, ◌/◌}

-- the smallest majority of n
unfoldable pub majority : ℕ → ℕ
majority n = n / 2 + 1
