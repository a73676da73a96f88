-- The house format: one constant table by kind, which the reader and the writer both read.
use Rattle.std.specs.Prelude.{ℕ, ◌+◌, ◌*◌, Bool, ◌&&◌, List, [], ◌∷◌, get_or, leb, eqb}
use Rattle.laws.specs.Choice.{pick}
use Rattle.house.specs.declared.Plan.{Plan}

-- a count that the plan decides: G ballots, J rows
abbrev pub by_plan : ℕ
by_plan = 255

-- ballots, stamps and rows of each kind, and whether it has a job
abbrev pub format : List ℕ
format =
    -- no kind 0
    0 ∷ 0 ∷ 0 ∷ 0
    -- 1 MULTICAST
    ∷ 0 ∷ 0 ∷ 0 ∷ 1
    -- 2 ACCEPT
    ∷ 1 ∷ 1 ∷ 0 ∷ 1
    -- 3 ACCEPT_ACK
    ∷ by_plan ∷ 0 ∷ 0 ∷ 1
    -- 4 DELIVER: local, global
    ∷ 1 ∷ 2 ∷ 0 ∷ 1
    -- 5 NEWLEADER
    ∷ 1 ∷ 0 ∷ 0 ∷ 0
    -- 6 NEWLEADER_ACK: ballot, cballot; clock
    ∷ 2 ∷ 1 ∷ by_plan ∷ 0
    -- 7 NEW_STATE: clock
    ∷ 1 ∷ 1 ∷ by_plan ∷ 0
    -- 8 NEWSTATE_ACK
    ∷ 1 ∷ 0 ∷ 0 ∷ 0
    ∷ []

-- kinds are numbered from 1 to 8
abbrev pub most_kind : ℕ
most_kind = 8

unfoldable pub known : ℕ → Bool
known k = leb 1 k && leb k most_kind

-- an entry of the table; beyond it 0
unfoldable pub entry : ℕ → ℕ → ℕ
entry k i = get_or format (k * 4 + i) 0

unfoldable pub or_plan : ℕ → ℕ → ℕ
or_plan n c = pick (eqb c by_plan) n c

-- how many elements each section of a record of kind k has
unfoldable pub ballots_in : Plan → ℕ → ℕ
ballots_in P k = or_plan P.districts (entry k 0)

unfoldable pub stamps_in : ℕ → ℕ
stamps_in k = entry k 1

unfoldable pub rows_in : Plan → ℕ → ℕ
rows_in P k = or_plan P.jobs (entry k 2)

unfoldable pub has_job : ℕ → Bool
has_job k = eqb (entry k 3) 1
