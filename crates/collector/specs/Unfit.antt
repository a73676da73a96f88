-- What the promise of `receive` shuts out: a box that refuses everything, one with a constant reply, one that does nothing, one that invents a
-- byte or record count. One worked example: a plan of one district and one job, a fresh box 1, and NEWLEADER (1,0) from box 0 to it.
use Rattle.std.specs.Prelude.{ℕ, List}
use Rattle.house.specs.declared.Plan.{Plan}
use Rattle.boxes.specs.declared.BoxState.{BoxState}
use Rattle.boxes.specs.declared.Outcome.{Outcome}
use Rattle.collector.specs.Promises.{BytesReceived}

-- ---- a box that keeps the promise for every input

-- what it answers, and the tray that it leaves
pub record Keeping : Type 0 where
  pub says : Plan → BoxState → List ℕ → List ℕ → Outcome
  pub leaves : Plan → BoxState → List ℕ → List ℕ → List ℕ
  pub promised : (P : Plan) (x : BoxState) (bytes tray : List ℕ) → BytesReceived P x bytes tray (says P x bytes tray) (leaves P x bytes tray)
