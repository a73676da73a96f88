-- The delivered list, place by place, over the array alone.
use Rattle.std.specs.Prelude.{Bool, not, ◌&&◌, ◌||◌, ◌==◌}
use Rattle.laws.specs.Choice.{pick}
use Rattle.house.specs.Pairs.{stamp_lt, is_no_stamp}
use Rattle.house.specs.declared.District.{District}
use Rattle.house.specs.declared.Stamp.{Stamp}
use Rattle.house.specs.Plan.{names, stamp_named}
use Rattle.house.specs.declared.Plan.{Plan}
use Rattle.boxes.specs.declared.Listed.{Listed}

-- an entry behind one of stamp t, or the first; again: its job stands before it too
unfoldable pub entry_sound : Plan → District → Bool → Stamp → Bool → Listed → Bool
entry_sound P d first t again e =
    (names P e.job d && stamp_named P e.job e.stamp) && ((first || stamp_lt t e.stamp) && not again)

unfoldable pub no_entry : Listed → Bool
no_entry e = e.job == 0 && is_no_stamp e.stamp

unfoldable pub place_sound : Plan → District → Bool → Bool → Stamp → Bool → Listed → Bool
place_sound P d listed first t again e = pick listed (entry_sound P d first t again e) (no_entry e)
