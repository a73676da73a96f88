-- `house::marks::marks_in` meets its contract.
use Rattle.std.proofs.Common.{rules, Fits, w32, sym, ◌*◌}
use Rattle.laws.proofs.laws.Digits.{part_beyond}
use Rattle.house.specs.Plan.{size_of}
use Rattle.house.specs.Marks.{marks_in}
use Rattle.house.proofs.marks.marks_in.Goals as goal

pub returns-then-low : goal.returns-then-low
unfolding marks_in
returns-then-low c =
    let a = c.args in
    let f : Fits w32 a.marks = search rules in
    sym (part_beyond a.marks 32 (a.d.0 * size_of a.plan) (size_of a.plan) f.fits (rw c.times_size-low.ensures.0 at c.if-low.true))
