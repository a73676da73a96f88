-- post: the office sends a job (Figure 4, lines 1-2).
use Rattle.std.specs.Prelude.{ℕ, List}
use Rattle.house.specs.Plan.{office_of}
use Rattle.house.specs.declared.Plan.{Plan}
use Rattle.records.specs.Rec.{Rec, multicast}
use Rattle.boxes.specs.Out.{to_named}

-- post sends kind 1 from the office to all boxes of named districts (lines 1-2)
unfoldable pub posts : Plan → ℕ → List Rec
posts P j = to_named P j (λ to. multicast (office_of P) to j)
