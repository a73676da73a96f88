-- How many bytes a record and a list of records have: by kind, and at most.
-- Longest: 64 jobs to a district's boxes, 21 bytes each.
use Rattle.std.specs.Prelude.{ℕ}

-- longest output: 64 x 3 x 21
abbrev pub longest_output : ℕ
longest_output = 4032
