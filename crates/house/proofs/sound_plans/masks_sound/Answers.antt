-- `house::sound_plans::masks_sound` meets its contract.
use Rattle.std.proofs.Common.{rules}
use borrow.Author.Tests.{tests}
use Rattle.laws.proofs.laws.Ranges.{all_in_front}
use Rattle.house.specs.Plan.{masks_sound, mask_sound}
use Rattle.house.proofs.sound_plans.masks_sound.Goals as goal

pub returns : goal.returns
unfolding masks_sound
returns c =
    let p = c.args.plan in
    all_in_front (mask_sound p.districts) p.masks 0 c.args.n c.all.ensures.ran (cc) (search rules) (λ x b q k. search (rules, tests))
