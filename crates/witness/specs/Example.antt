-- Document 01's example session (tests/sessions/document-01.in): one district, one job.
use Rattle.std.specs.Prelude.{List, [], ◌∷◌}
use Rattle.house.specs.declared.Plan.{Plan}
use Rattle.house.specs.declared.Order.{Order}
use Rattle.house.specs.declared.Order.TheVariants.{Post, Stand, Carry}
use Rattle.witness.specs.Lists.{plan}

abbrev pub ours : Plan
ours = plan 1 (1 ∷ [])

abbrev pub orders : List Order
orders =
    Stand 0 ∷ Carry 0 ∷ Carry 1 ∷ Carry 3 ∷ Carry 4 ∷ Carry 5 ∷ Carry 7 ∷ Post 0 ∷ Carry 8 ∷ Carry 11 ∷ Carry 12 ∷ Carry 14 ∷
    Carry 15 ∷ Carry 17 ∷ Carry 17 ∷ []
