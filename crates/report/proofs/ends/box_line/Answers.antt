-- `report::ends::box_line` meets its contract.
use Rattle.report.specs.Report.{titled, list_text, box_text}
use Rattle.laws.proofs.laws.Tray.{then}
use mathlib.Core.List.{[], ◌∷◌}
use native.Mathlib.Omega.{arith}
use Rattle.report.proofs.ends.box_line.Goals as goal

pub returns : goal.returns
unfolding box_text
returns c =
    let a = c.args in
    let p = c.put_titled-a in
    let q = c.put_list in
    let title = titled (98 ∷ 111 ∷ 120 ∷ []) a.number.0 in
    let s = then title (list_text a.list a.count) a.t.now _ _ _ _ p.ensures.1 p.ensures.2 q.ensures.1 q.ensures.2 in
    (omega (arith, p.ensures.0, q.ensures.0), s.0, s.1)
