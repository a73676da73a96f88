-- `rehearsal::nights::box_at` meets its contract.
use Prim.Native.Nat.{◌<◌}
use lib.ListN.{length}
use mathlib.Core.Path.{◌≡◌}
use Rattle.house.specs.Limits.{most_boxes}
use Rattle.rehearsal.proofs.laws.Alone.{box_in_lem}
use borrow.Author.Rules.{rules}
use Rattle.rehearsal.proofs.nights.box_at.Goals as goal

pub returns : goal.returns
returns c =
    let a = c.args in
    let n : length a.night.boxes ≡ most_boxes = search rules in
    let l : a.at < length a.night.boxes = rw n c.requires in
    box_in_lem a.night a.at _ l
