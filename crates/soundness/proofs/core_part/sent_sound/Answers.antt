-- `soundness::core_part::sent_sound` meets its contract.
use Rattle.std.proofs.Common.{rules, ℕ, Bool, false, not, ◌||◌}
use borrow.Author.Tests.{tests}
use mathlib.Core.Bool.{or-true}
use Rattle.laws.proofs.laws.Ranges.{all_in_zip}
use Rattle.house.specs.Plan.{is_job}
use Rattle.boxes.specs.Box.{sent_at}
use Rattle.boxes.specs.Sound.{sent_sound}
use Rattle.soundness.proofs.core_part.sent_sound.Goals as goal

pub returns : goal.returns
unfolding sent_sound sent_at
returns c =
    let a = c.args in
    let t : ℕ × Bool → Bool = λ p. is_job a.plan p.0 || not p.1 in
    all_in_zip t 64 a.x.now.core.sent false c.all.new.self c.all.ensures.ran c.zip.ensures.first c.zip.ensures.second.0
    (λ i. or-true _)
    (λ x b q k. search (rules, tests))
