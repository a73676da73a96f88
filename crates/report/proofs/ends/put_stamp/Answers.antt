-- `report::ends::put_stamp` meets its contract.
use Rattle.report.specs.Texts.{item}
use Rattle.report.specs.Report.{stamp_text}
use Rattle.lines.proofs.laws.NumeralLaws.{decimal_most}
use Rattle.lines.specs.Numeral.{decimal}
use Rattle.lines.specs.Parts.{space}
use Rattle.laws.proofs.laws.Tray.{then}
use mathlib.Core.List.{[], ◌∷◌}
use native.Mathlib.Omega.{arith}
use borrow.Author.Rules.{rules}
use Rattle.report.proofs.ends.put_stamp.Goals as goal

pub returns-in_default : goal.returns-in_default
unfolding stamp_text
returns-in_default c = search rules

pub put_decimal-requires : goal.put_decimal-requires
put_decimal-requires c = let m = decimal_most c.in-Some.stamp.time in search rules

pub returns : goal.returns
unfolding stamp_text item
returns c =
    let a = c.args in
    let p = c.put-a in
    let d = c.put_decimal in
    let q = c.put_item in
    let s = then (space ∷ []) (decimal c.in-Some.stamp.time) a.t.now _ _ _ _ p.ensures.0 p.ensures.1 d.ensures.1 d.ensures.2 in
    let u = then _ _ a.t.now _ _ _ _ s.0 s.1 q.ensures.1 q.ensures.2 in
    rw c.in-Some.is (omega (arith, p.ensures.0, d.ensures.0, q.ensures.0), u.0, u.1)
