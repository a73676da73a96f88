-- Answers of document 01's run, byte for byte.
-- Each comment gives the line in plain text.
use mathlib.Core.Bool.{true, false}
use mathlib.Core.List.{[], ◌∷◌}
use mathlib.Core.Path.{◌≡◌, refl}
use Rattle.laws.specs.Choice.{pick}
use Rattle.lines.specs.Numeral.{in_digits, decimal}
use Rattle.report.specs.Texts.{answer_text}

-- ok 3
pub answer_ok : answer_text false 3 ≡ 111 ∷ 107 ∷ 32 ∷ 51 ∷ 10 ∷ []
unfolding answer_text decimal in_digits pick
answer_ok = refl

-- no 12
pub answer_no_lem : answer_text true 12 ≡ 110 ∷ 111 ∷ 32 ∷ 49 ∷ 50 ∷ 10 ∷ []
unfolding answer_text decimal in_digits pick
answer_no_lem = refl
