-- `report::text::put_item` meets its contract.
use Rattle.report.proofs.laws.TextLaws.{byte_short}
use Rattle.report.specs.Texts.{item}
use Rattle.lines.specs.Numeral.{decimal}
use Rattle.lines.specs.Parts.{space}
use Rattle.laws.proofs.laws.Tray.{then}
use mathlib.Core.List.{[], ◌∷◌}
use native.Mathlib.Omega.{arith}
use borrow.Author.Rules.{rules}
use Rattle.report.proofs.text.put_item.Goals as goal

pub put_decimal-requires : goal.put_decimal-requires
put_decimal-requires c =
    let given = c.args in
    let m = byte_short given.n (omega arith) in search rules

pub returns : goal.returns
unfolding item
returns c =
    let a = c.args in
    let p = c.put-a in
    let d = c.put_decimal in
    let m = byte_short a.n (omega arith) in
    let s = then (space ∷ []) (decimal a.n) a.t.now _ _ _ _ p.ensures.0 p.ensures.1 d.ensures.1 d.ensures.2 in
    (omega (arith, p.ensures.0, d.ensures.1, m), s.0, s.1)
