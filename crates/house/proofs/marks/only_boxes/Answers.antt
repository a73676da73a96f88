-- `house::marks::only_boxes` meets its contract.
use Rattle.std.proofs.Common.{rules, Fits, w32, sym, ◌∙◌, ◌≤◌, ◌^◌}
use borrow.Author.Tests.{lt-ltb, le-leb}
use lib.Pow.{pow_mono}
use native.Mathlib.Nat.{lt_of_lt_of_le}
use Rattle.house.specs.Plan.{boxes_of}
use Rattle.house.specs.Marks.{only_boxes}
use Rattle.house.proofs.marks.only_boxes.Goals as goal

pub returns-then-n : goal.returns-then-n
unfolding only_boxes
returns-then-n c =
    let a = c.args in
    let f : Fits w32 a.marks = search rules in
    let n : 32 ≤ boxes_of a.plan = rw c.boxes_of-n.ensures.0 at c.if-n.true in
    le-leb _ _ c.if-n.true ∙ sym (lt-ltb a.marks (2 ^ boxes_of a.plan) (lt_of_lt_of_le f.fits (pow_mono n)))
