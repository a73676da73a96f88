-- Lines of the report, byte for byte: document 01's run, and a job that no box has committed.
-- Each comment gives the line in plain text.
use Rattle.std.specs.Prelude.{Some, None}
use mathlib.Core.Bool.{true, false}
use mathlib.Core.List.{[], ◌∷◌}
use mathlib.Core.Path.{◌≡◌, refl}
use Rattle.laws.specs.Choice.{pick}
use Rattle.laws.specs.Tray.{all_for}
use Rattle.lines.specs.Numeral.{in_digits, decimal}
use Rattle.report.specs.Texts.{item}
use Rattle.report.specs.Report.{titled, jobs_text, list_text, box_text, stamp_text, job_text}

-- box 0 list
pub box_empty : box_text 0 [] 0 ≡ 98 ∷ 111 ∷ 120 ∷ 32 ∷ 48 ∷ 32 ∷ 108 ∷ 105 ∷ 115 ∷ 116 ∷ 10 ∷ []
unfolding box_text titled list_text jobs_text all_for decimal in_digits pick item
box_empty = refl

-- box 11 list 0 63
pub box_two : box_text 11 (0 ∷ 63 ∷ 5 ∷ []) 2 ≡ 98 ∷ 111 ∷ 120 ∷ 32 ∷ 49 ∷ 49 ∷ 32 ∷ 108 ∷ 105 ∷ 115 ∷ 116 ∷ 32 ∷ 48 ∷ 32 ∷ 54 ∷ 51 ∷ 10 ∷ []
unfolding box_text titled list_text jobs_text all_for decimal in_digits pick item
box_two = refl

-- job 0 1 0 yes
pub job_done : job_text 0 (Some (record { time = 1; district = record { 0 = 0 } })) true
    ≡ 106 ∷ 111 ∷ 98 ∷ 32 ∷ 48 ∷ 32 ∷ 49 ∷ 32 ∷ 48 ∷ 32 ∷ 121 ∷ 101 ∷ 115 ∷ 10 ∷ []
unfolding job_text titled stamp_text decimal in_digits pick item
job_done = refl

-- job 7 - - no
pub job_open : job_text 7 None false ≡ 106 ∷ 111 ∷ 98 ∷ 32 ∷ 55 ∷ 32 ∷ 45 ∷ 32 ∷ 45 ∷ 32 ∷ 110 ∷ 111 ∷ 10 ∷ []
unfolding job_text titled stamp_text decimal in_digits pick item
job_open = refl
