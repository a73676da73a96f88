-- `report::ends::put_list` meets its contract.
use Rattle.report.specs.Report.{jobs_text, list_text}
use Rattle.lines.specs.Parts.{space, line_feed}
use Rattle.laws.proofs.laws.Tray.{then}
use Prim.Native.Nat.{ℕ}
use mathlib.Core.List.{List, [], ◌∷◌, ◌++◌}
use native.Mathlib.Omega.{arith}
use Rattle.report.proofs.ends.put_list.Goals as goal

pub returns : goal.returns
unfolding list_text
returns c =
    let a = c.args in
    let p = c.put-a in
    let q = c.put_jobs in
    let f = c.put in
    let word : List ℕ = space ∷ 108 ∷ 105 ∷ 115 ∷ 116 ∷ [] in
    let jobs = jobs_text a.list a.count in
    let s = then word jobs a.t.now _ _ _ _ p.ensures.0 p.ensures.1 q.ensures.1 q.ensures.2 in
    let u = then (word ++ jobs) (line_feed ∷ []) a.t.now _ _ _ _ s.0 s.1 f.ensures.0 f.ensures.1 in
    (omega (arith, p.ensures.0, q.ensures.0, f.ensures.0), u.0, u.1)
