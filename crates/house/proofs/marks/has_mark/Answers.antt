-- `house::marks::has_mark` meets its contract.
use Rattle.std.proofs.Common.{rules, Fits, w32, sym, ◌∙◌}
use borrow.Author.Tests.{le-ltb}
use Rattle.laws.proofs.laws.Digits.{digit_beyond}
use Rattle.house.specs.Marks.{has_mark}
use Rattle.house.proofs.marks.has_mark.Goals as goal

pub returns-else-p-lt-MOST_MARKS : goal.returns-else-p-lt-MOST_MARKS
unfolding has_mark
returns-else-p-lt-MOST_MARKS c =
    let f : Fits w32 c.args.marks = search rules in
    le-ltb _ _ c.if-p-lt-MOST_MARKS.false ∙ sym (digit_beyond c.args.marks 32 c.args.p.0 f.fits c.if-p-lt-MOST_MARKS.false)
