-- `soundness::volatile::kept_sound` meets its contract.
use Rattle.std.proofs.Common.{rules, ◌∙◌}
use borrow.Author.Tests.{tests}
use Rattle.laws.proofs.laws.Ranges.{all_in_range}
use Rattle.soundness.proofs.laws.Pairs.{place_sound, places_sound, kept_is}
use Rattle.soundness.proofs.volatile.kept_sound.Goals as goal

pub returns : goal.returns
unfolding place_sound places_sound
returns c =
    let a = c.args in let v = a.x.now.volatile in
    all_in_range (place_sound a.plan v.kept_ballots v.kept_stamps) 256 c.all.ensures.ran (cc) (λ x b q k. search (rules, tests))
    ∙ kept_is a.plan a.x.now
