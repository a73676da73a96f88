-- `closing::closing::put_boxes` meets its contract.
use Rattle.closing.specs.Closing.{box_report}
use Rattle.closing.specs.Ends.{AllEnded}
use Rattle.closing.proofs.laws.Laws.{with_boxes}
use Rattle.boxes.specs.declared.BoxState.{BoxState}
use Rattle.report.specs.Report.{box_most}
use Rattle.laws.specs.Tray.{onto, all_for}
use lib.ListN.{length}
use Prim.Native.Nat.{ℕ, ◌*◌, ◌≤◌}
use mathlib.Core.List.{List}
use mathlib.Core.Path.{◌≡◌}
use Rattle.closing.proofs.closing.put_boxes.Given as goal

-- the lines of the first p of these boxes
abbrev pub lines : List BoxState → ℕ → List ℕ
lines boxes p = all_for (box_report (with_boxes boxes)) p

abbrev pub invariant-loop-i : goal.invariant-loop-i
invariant-loop-i l =
    (l.used ≤ box_most * l.i)
    × (l.used ≡ length (lines l.fn.night.boxes l.i))
    × (l.t ≡ onto (lines l.fn.night.boxes l.i) l.initial.t)
    × AllEnded (with_boxes l.fn.night.boxes) l.i l.ends
