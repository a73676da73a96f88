-- `sending::sends::send` meets its contract.
use Rattle.house.specs.Limits.{most_boxes}
use lib.ListN.{length}
use Rattle.laws.specs.Tray.{onto, all_for}
use Rattle.sending.specs.Sends.{addressed, sent_to, meant_below}
use Rattle.house.specs.Plan.{boxes_of}
use mathlib.Core.Path.{◌≡◌}
use Prim.Native.Nat.{◌-◌, ◌≤◌}
use Rattle.sending.proofs.sends.send.Given as goal

abbrev pub invariant-loop-p : goal.invariant-loop-p
invariant-loop-p l =
    (l.p ≤ l.p-end) × (l.p-end ≡ boxes_of l.plan) × (l.p-end ≤ most_boxes) × (length l.t ≡ length l.initial.t)
    × (length (all_for (sent_to l.plan l.meant l.initial.r) l.p-end) ≤ length l.initial.t)
    × (l.used ≡ length (all_for (sent_to l.plan l.meant l.initial.r) l.p)) × (l.records ≡ meant_below l.meant l.p) × (l.records ≤ l.p)
    × (l.t ≡ onto (all_for (sent_to l.plan l.meant l.initial.r) l.p) l.initial.t) × (l.used ≤ length l.initial.t) × (l.r ≡ addressed l.initial.r l.r.to)

abbrev pub decreases-loop-p : goal.decreases-loop-p
decreases-loop-p l = l.p-end - l.p
