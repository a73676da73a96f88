-- `report::ends::put_titled` meets its contract.
use Rattle.report.specs.Report.{titled}
use Rattle.report.specs.Texts.{item}
use Rattle.laws.proofs.laws.Tray.{then}
use lib.ListN.{length}
use mathlib.Core.Path.{◌≡◌}
use native.Mathlib.Omega.{arith}
use borrow.Author.Rules.{rules}
use Rattle.report.proofs.ends.put_titled.Goals as goal

pub returns : goal.returns
unfolding titled
returns c =
    let a = c.args in
    let p = c.put-a in
    let i = c.put_item in
    let w : length a.word.now ≡ 3 = search rules in
    let s = then a.word.now (item a.n) a.t.now _ _ _ _ p.ensures.0 p.ensures.1 i.ensures.1 i.ensures.2 in
    (omega (arith, w, p.ensures.0, i.ensures.0), s.0, s.1)
