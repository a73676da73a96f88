-- What one turn adds, that nothing more happens once no job is ready, and that each turn's bytes fit into the whole.
use Rattle.std.specs.Prelude.{ℕ, Bool, true, List, get_or, Option, Some, None}
use Rattle.house.specs.Pairs.{stamp_lt, no_row}
use Rattle.house.specs.declared.Ballot.{Ballot}
use Rattle.house.specs.declared.BoxNo.{BoxNo}
use Rattle.house.specs.declared.Row.{Row}
use Rattle.house.specs.Plan.{same_home}
use Rattle.house.specs.declared.Plan.{Plan}
use Rattle.records.specs.Rec.{Rec, deliver}
use Rattle.boxes.specs.Out.{to_each}
use Rattle.boxes.specs.declared.BoxState.{BoxState}
use Rattle.boxes.specs.declared.Core.{Core}
use Rattle.boxes.specs.declared.Volatile.{Volatile}

-- a box with this core
abbrev pub box_of : Core → Volatile → BoxState
box_of c v = record { core = c; volatile = v }

-- DELIVER of job j with this row, under this ballot, to the boxes of the own district
unfoldable pub delivers_from : Plan → BoxNo → Ballot → Row → ℕ → List Rec
delivers_from P own b row j = to_each P (λ p. same_home P p own) (λ to. deliver own to j (record { ballot = b; local = row.local; global = row.global }))

-- a row is before that of the best job so far, by global stamp
abbrev pub goes_before : List Row → Option ℕ → Row → Bool
goes_before table None r = true
goes_before table (Some j) r = stamp_lt r.global (get_or table j no_row).global
