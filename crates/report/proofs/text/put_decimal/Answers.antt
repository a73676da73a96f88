-- `report::text::put_decimal` meets its contract.
use Rattle.report.proofs.laws.Spelled.{fewest_decimal}
use Rattle.lines.proofs.laws.NumeralLaws.{decimal_most}
use Rattle.lines.specs.Numeral.{decimal}
use Rattle.laws.specs.Tray.{onto}
use lib.ListN.{length, take}
use Prim.Native.Nat.{ℕ}
use mathlib.Core.Path.{◌≡◌, ap, ◌∙◌}
use mathlib.Core.List.{List}
use native.Mathlib.Omega.{arith}
use Rattle.report.proofs.text.put_decimal.Goals as goal

pub put-requires : goal.put-requires
put-requires c =
    let a = c.args in
    let d = c.decimal-k in
    let e : take d.result d.new.out ≡ decimal a.n = d.ensures.digits ∙ fewest_decimal a.n d.result (omega arith) d.ensures.len in
    omega (arith, ap length e)

pub returns : goal.returns
returns c =
    let a = c.args in
    let d = c.decimal-k in
    let p = c.put in
    let e : take d.result d.new.out ≡ decimal a.n = d.ensures.digits ∙ fewest_decimal a.n d.result (omega arith) d.ensures.len in
    (omega (arith, p.ensures.0, ap length e, decimal_most a.n), p.ensures.0 ∙ ap length e, p.ensures.1 ∙ ap (λ (l : List ℕ). onto l a.t.now) e)
