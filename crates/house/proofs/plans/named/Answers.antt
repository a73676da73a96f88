-- `house::plans::named` meets its contract.
use Rattle.std.proofs.Common.{rules, Fits, w8, sym, ◌∙◌}
use borrow.Author.Tests.{le-ltb}
use Rattle.laws.proofs.laws.Digits.{digit_beyond}
use Rattle.house.specs.Plan.{names}
use Rattle.house.proofs.plans.named.Goals as goal

pub returns-else-d-lt8 : goal.returns-else-d-lt8
unfolding names
returns-else-d-lt8 c =
    let m = c.mask_of-mask in
    let f : Fits w8 m.result = search rules in
    le-ltb _ _ c.if-d-lt8.false ∙ sym (rw (← m.ensures) (digit_beyond m.result 8 c.args.d.0 f.fits c.if-d-lt8.false))
