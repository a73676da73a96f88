-- Marks: a set of boxes as one number, box p at digit p. A quorum is counted by the ones among a district's digits.
use Rattle.std.specs.Prelude.{ℕ, ◌*◌, ◌^◌, Bool, not, ◌&&◌, ◌||◌, leb, ltb, eqb}
use Rattle.std.specs.Int.Count.{ones}
use Rattle.laws.specs.Choice.{pick}
use Rattle.laws.specs.Fold.{upto, all_below}
use Rattle.laws.specs.Digits.{digit, part, with_digit}
use Rattle.house.specs.Pairs.{box_no, district}
use Rattle.house.specs.declared.District.{District}
use Rattle.house.specs.declared.BoxNo.{BoxNo}
use Rattle.house.specs.Plan.{size_of, quorum_of, boxes_of, home_of, same_home, names}
use Rattle.house.specs.declared.Plan.{Plan}

-- no box is marked
abbrev pub no_marks : ℕ
no_marks = 0

-- marks are numbers of 32 digits; a number beyond is no box
abbrev pub most_marks : ℕ
most_marks = 32

-- box p is marked
unfoldable pub has_mark : ℕ → BoxNo → Bool
has_mark m p = digit m p.0

-- the marks with box p marked
unfoldable pub marked : ℕ → BoxNo → ℕ
marked m p = pick (ltb p.0 most_marks) (with_digit m p.0) m

-- the boxes below n that pass a test
unfoldable pub marks_of : (BoxNo → Bool) → ℕ → ℕ
marks_of t n = upto (λ m p. pick (t (box_no p)) (marked m (box_no p)) m) no_marks n

-- all boxes of the districts that job j names
abbrev pub named_boxes : Plan → ℕ → ℕ
named_boxes P j = marks_of (λ p. names P j (home_of P p)) (boxes_of P)

-- the boxes of a box's own district
abbrev pub home_boxes : Plan → BoxNo → ℕ
home_boxes P own = marks_of (λ p. same_home P p own) (boxes_of P)

-- the other boxes of it
abbrev pub other_boxes : Plan → BoxNo → ℕ
other_boxes P own = marks_of (λ p. same_home P p own && not (eqb p.0 own.0)) (boxes_of P)

-- the marks of district d alone
unfoldable pub marks_in : Plan → ℕ → District → ℕ
marks_in P m d = part m (d.0 * size_of P) (size_of P)

-- no number beyond the plan's boxes is marked
unfoldable pub only_boxes : Plan → ℕ → Bool
only_boxes P m = ltb m (2 ^ boxes_of P)

-- as many boxes of district d are marked as a quorum has
unfoldable pub quorum_in : Plan → ℕ → District → Bool
quorum_in P m d = leb (quorum_of P) (ones (marks_in P m d))

-- a quorum in every district below n that job j names
unfoldable pub quorum_below : Plan → ℕ → ℕ → ℕ → Bool
quorum_below P j m n = all_below (λ d. not (names P j (district d)) || quorum_in P m (district d)) n

unfoldable pub quorum_each : Plan → ℕ → ℕ → Bool
quorum_each P j m = quorum_below P j m P.districts
