-- `report::ends::job_line` meets its contract.
use Rattle.std.proofs.Common.{rules, arith, [], ◌∷◌, ◌≡◌, ◌≤◌, length}
use Rattle.lines.specs.Parts.{space, line_feed}
use Rattle.report.specs.Report.{titled, stamp_text, job_text}
use Rattle.laws.proofs.laws.Tray.{then}
use Rattle.laws.specs.Choice.{pick}
use Rattle.report.proofs.ends.job_line.Goals.{then-finished, else-finished}
use Rattle.report.proofs.ends.job_line.Goals as goal

pub returns : goal.returns
unfolding job_text pick
returns c =
    let a = c.args in
    let p = c.put_titled-a in
    let q = c.put_stamp in
    let word : (c.if-finished.put.now ≡ pick a.finished (space ∷ 121 ∷ 101 ∷ 115 ∷ line_feed ∷ []) (space ∷ 110 ∷ 111 ∷ line_feed ∷ []))
    × (length c.if-finished.put.now ≤ 5) =
    elim c.if-finished.branch [ then-finished w ↦ search rules | else-finished w ↦ search rules ] in
    let e = c.put.ensures in
    let s = then (titled (106 ∷ 111 ∷ 98 ∷ []) a.job) (stamp_text a.committed) a.t.now _ _ _ _ p.ensures.1 p.ensures.2 q.ensures.1 q.ensures.2 in
    let u = then _ c.if-finished.put.now a.t.now _ _ _ _ s.0 s.1 e.0 e.1 in
    let v = rw word.0 at u in
    (omega (arith, p.ensures.0, q.ensures.0, e.0, word.1), v.0, v.1)
