-- `sending::handing::hand_out` meets its contract.
use Prim.Native.Nat.{◌*◌, ◌≤◌}
use mathlib.Core.Path.{◌≡◌}
use lib.ListN.{length}
use Rattle.laws.specs.Tray.{onto}
use Rattle.house.specs.Limits.{most_jobs, most_boxes}
use Rattle.records.specs.Bytes.{encode_all}
use Rattle.boxes.specs.Box.{put_sent}
use Rattle.boxes.specs.Ready.{hand_turns}
use Rattle.boxes.specs.declared.Volatile.{Volatile}
use Rattle.sending.specs.Turns.{box_of}
use Rattle.sending.proofs.handing.hand_out.Given as goal

abbrev pub invariant-loop : goal.invariant-loop
invariant-loop l =
    (l.n ≤ most_jobs) × (length l.t ≡ length l.initial.t) × (l.records ≤ most_boxes * l.counter) × (l.used ≤ length l.initial.t)
    × ((v : Volatile) → let h = hand_turns l.plan (box_of l.fn.c v) l.counter in (put_sent (box_of l.fn.c v) l.sent ≡ h.box)
    × (l.used ≡ length (encode_all l.plan h.sent)) × (l.records ≡ length h.sent) × (l.t ≡ onto (encode_all l.plan h.sent) l.initial.t))
