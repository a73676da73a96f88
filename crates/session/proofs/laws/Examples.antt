-- Plan lines as docs/DECISIONS.md reads them (66, 67, 72, 109): numbers that are too large, and lines that are out of place.
use mathlib.Core.Bool.{true, false}
use mathlib.Core.List.{[], ◌∷◌, map}
use mathlib.Core.Path.{◌≡◌, refl}
use lib.ListN.{replicate}
use Rattle.laws.specs.Choice.{pick}
use Rattle.laws.specs.Fold.{all_below}
use Rattle.house.specs.Plan.{plan_sound, counts_sound, masks_sound, mask_sound}
use Rattle.session.specs.Desk.{capped, empty_desk, districts_here, job_here, one_job, with_districts, fixed_desk}
use Rattle.session.proofs.laws.Typed.{typed}

-- `districts 2` with `job 3`; then `districts 0`, `districts 5`, `districts 257` (a byte would wrap to 1), `job 0`, `job 4`, `job 257`,
-- no job, and a 65th job
pub sound_examples :
    (plan_sound (typed 2 (3 ∷ [])).plan ∷ plan_sound (typed 0 (1 ∷ [])).plan ∷ plan_sound (typed 5 (1 ∷ [])).plan
    ∷ plan_sound (typed 257 (1 ∷ [])).plan ∷ plan_sound (typed 2 (0 ∷ [])).plan ∷ plan_sound (typed 2 (4 ∷ [])).plan
    ∷ plan_sound (typed 2 (257 ∷ [])).plan ∷ plan_sound (typed 2 []).plan ∷ plan_sound (typed 2 (replicate 65 1)).plan ∷ [])
    ≡ true ∷ false ∷ false ∷ false ∷ false ∷ false ∷ false ∷ false ∷ false ∷ []
unfolding plan_sound counts_sound masks_sound mask_sound all_below typed one_job capped pick
sound_examples = refl

-- at the beginning, after `districts`, after an order
pub place_examples :
    map districts_here (empty_desk ∷ with_districts empty_desk 0 ∷ fixed_desk empty_desk ∷ []) ≡ true ∷ false ∷ false ∷ []
unfolding districts_here
place_examples = refl

pub job_examples :
    map job_here (empty_desk ∷ with_districts empty_desk 0 ∷ fixed_desk (with_districts empty_desk 1) ∷ []) ≡ false ∷ true ∷ false ∷ []
unfolding job_here
job_examples = refl
