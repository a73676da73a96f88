-- The post: how much of it is used, where record k begins, and one writing behind what is used.
use Rattle.std.specs.Prelude.{ℕ, ◌+◌, List, length, take, drop, get_or, ltb}
use Rattle.laws.specs.Choice.{pick}
use Rattle.laws.specs.Fold.{upto}
use Rattle.house.specs.Limits.{most_post}
use Rattle.house.specs.declared.Plan.{Plan}
use Rattle.records.specs.Bytes.{length_of}

-- how much of a lent post is used at most
unfoldable pub room_of : List ℕ → ℕ
room_of s = pick (ltb (length s) most_post) (length s) most_post

-- the length of the record that begins at a place: its kind decides
unfoldable pub length_at : Plan → List ℕ → ℕ → ℕ
length_at P s at = length_of P (get_or s (at + 1) 0)

-- from the beginning of one record to that of the next, as long as there are records
unfoldable pub next_start : Plan → List ℕ → ℕ → ℕ → ℕ
next_start P s used at = pick (ltb at used) (at + length_at P s at) at

-- where record k begins, if the first `used` bytes hold so many records
unfoldable pub start_of : Plan → List ℕ → ℕ → ℕ → ℕ
start_of P s used k = upto (λ at i. next_start P s used at) 0 k

-- no walk from within a post to a record whose number can be typed comes further, whatever the bytes
abbrev pub most_place : ℕ
most_place = 100000000000000

-- the bytes of the record that begins at a place, and the box that it is addressed to
unfoldable pub bytes_from : Plan → List ℕ → ℕ → List ℕ
bytes_from P s at = take (length_at P s at) (drop at s)

unfoldable pub to_box : List ℕ → ℕ → ℕ
to_box s at = get_or s (at + 3) 0

-- so many records on from a place
abbrev pub walk_from : Plan → List ℕ → ℕ → ℕ → ℕ → ℕ
walk_from P s used from k = upto (λ at i. next_start P s used at) from k
