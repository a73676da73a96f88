-- `rehearsal::nights::fresh_night` meets its contract.
use Rattle.std.proofs.Common.{rules, ap, List}
use borrow.Author.Tests.{tests}
use Rattle.laws.proofs.laws.Ranges.{made_from_fn}
use Rattle.house.specs.Pairs.{box_no}
use Rattle.boxes.specs.Box.{fresh}
use Rattle.boxes.specs.declared.BoxState.{BoxState}
use Rattle.rehearsal.specs.Night.{fresh_night}
use Rattle.rehearsal.proofs.nights.fresh_night.Goals as goal

pub returns : goal.returns
unfolding fresh_night
returns c =
    ap (λ (l : List BoxState). record { boxes = l; used = 0 })
    (made_from_fn (λ i. fresh (box_no i)) (fresh (box_no 0)) (λ x b q k. search (rules, tests)) c.from_fn-boxes.result 12 c.from_fn-boxes.ensures.items)
