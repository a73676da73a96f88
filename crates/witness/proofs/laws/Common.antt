-- Laws of what specs/Common.antt defines.
use mathlib.Core.List.{[], ◌∷◌}
use mathlib.Core.Path.{◌≡◌, refl}
use lib.ListN.{replicate}
use Rattle.house.specs.Pairs.{stamp}
use Rattle.house.specs.Plan.{boxes_of}
use Rattle.in_order.specs.Words.{after}
use Rattle.witness.specs.Lists.{lists}
use Rattle.witness.specs.Played.{played}
use Rattle.witness.specs.Common.{ours, orders}

-- every box of both districts has delivered job 0 with stamp (2,1), then job 1 with stamp (3,0)
pub two_common_jobs : lists (after ours orders) ≡ replicate (boxes_of ours)
    ((record { job = 0; stamp = stamp 2 1 }) ∷ (record { job = 1; stamp = stamp 3 0 }) ∷ [])
unfolding played
two_common_jobs = refl
