-- Two districts and two jobs that both name (tests/sessions/two-common-jobs.in). The districts give the jobs opposite local stamps, and
-- district 0 changes its leader in between.
use Rattle.std.specs.Prelude.{List, [], ◌∷◌}
use Rattle.house.specs.declared.Plan.{Plan}
use Rattle.house.specs.declared.Order.{Order}
use Rattle.house.specs.declared.Order.TheVariants.{Post, Stand, Retry, Carry}
use Rattle.witness.specs.Lists.{plan}

abbrev pub ours : Plan
ours = plan 2 (3 ∷ 3 ∷ [])

abbrev pub orders : List Order
orders =
    Stand 0 ∷ Carry 0 ∷ Carry 1 ∷ Carry 2 ∷ Carry 3 ∷ Carry 4 ∷ Carry 6 ∷ Carry 7 ∷ Carry 8 ∷ Stand 3 ∷ Carry 10 ∷ Carry 11 ∷
    Carry 12 ∷ Carry 13 ∷ Carry 14 ∷ Carry 16 ∷ Carry 17 ∷ Carry 18 ∷ Post 0 ∷ Post 1 ∷ Carry 20 ∷ Carry 26 ∷ Carry 29 ∷
    Carry 23 ∷ Carry 33 ∷ Carry 51 ∷ Carry 35 ∷ Carry 53 ∷ Carry 36 ∷ Carry 54 ∷ Carry 45 ∷ Carry 41 ∷ Carry 47 ∷ Stand 1 ∷
    Carry 65 ∷ Carry 66 ∷ Carry 68 ∷ Carry 67 ∷ Carry 70 ∷ Carry 71 ∷ Retry 3 1 ∷ Carry 73 ∷ Retry 1 0 ∷ Carry 85 ∷ Carry 57 ∷
    Carry 93 ∷ Carry 57 ∷ Carry 35 ∷ Carry 94 ∷ Carry 91 ∷ Carry 92 ∷ Carry 52 ∷ Carry 100 ∷ Carry 102 ∷ Carry 96 ∷ Carry 98 ∷
    Carry 101 ∷ Carry 103 ∷ Carry 97 ∷ Carry 99 ∷ Carry 79 ∷ Carry 80 ∷ Carry 46 ∷ Carry 81 ∷ Carry 48 ∷ Carry 82 ∷ Carry 114 ∷
    Carry 112 ∷ Carry 110 ∷ Carry 108 ∷ Carry 113 ∷ Carry 111 ∷ Carry 109 ∷ Carry 107 ∷ Carry 64 ∷ Carry 69 ∷ Carry 104 ∷
    Carry 121 ∷ Carry 105 ∷ Carry 122 ∷ Carry 106 ∷ Carry 123 ∷ Carry 115 ∷ Carry 118 ∷ Carry 116 ∷ Carry 119 ∷ Carry 117 ∷
    Carry 120 ∷ []
