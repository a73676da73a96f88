-- Laws of what specs/Example.antt defines.
use mathlib.Core.List.{[], ◌∷◌}
use mathlib.Core.Path.{◌≡◌, refl}
use Rattle.house.specs.Pairs.{stamp}
use Rattle.in_order.specs.Words.{after}
use Rattle.witness.specs.Lists.{lists}
use Rattle.witness.specs.Played.{played}
use Rattle.witness.specs.Example.{ours, orders}

-- box 1 alone has delivered job 0, with stamp (1,0)
pub document_01 : lists (after ours orders) ≡ [] ∷ ((record { job = 0; stamp = stamp 1 0 }) ∷ []) ∷ [] ∷ []
unfolding played
document_01 = refl
