-- `soundness::core_part::list_sound` meets its contract.
use Rattle.std.proofs.Common.{◌≡◌, ◌-◌, true, get_or}
use Rattle.boxes.specs.Box.{no_listed}
use Rattle.soundness.proofs.laws.Lists.{places_sound, Seen}
use Rattle.soundness.proofs.core_part.list_sound.Given as goal

-- the places gone through are sound
abbrev pub invariant-loop-i : goal.invariant-loop-i
invariant-loop-i l =
    let list = l.fn.x.core.list in
    (l.last ≡ (get_or list (l.i - 1) no_listed).stamp) × Seen 256 list l.seen l.i × (places_sound l.plan l.home l.fn.x.core.count list l.i ≡ true)
