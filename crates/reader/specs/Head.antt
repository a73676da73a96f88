-- Section 1 of a record: kind, from, to, job, a byte each.
use Rattle.std.specs.Prelude.{ℕ, List, get_or}
use Rattle.house.specs.Pairs.{box_no}
use Rattle.reader.specs.declared.get.Head.{Head}

unfoldable pub head_at : List ℕ → Head
head_at s = record { kind = get_or s 0 0; from = box_no (get_or s 1 0); to = box_no (get_or s 2 0); job = get_or s 3 0 }
