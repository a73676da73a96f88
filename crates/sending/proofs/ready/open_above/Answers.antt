-- `sending::ready::open_above` meets its contract.
use Rattle.std.proofs.Common.{rules, ◌∙◌, Bool, not, ◌||◌, ◌==◌}
use borrow.Author.Tests.{tests}
use Rattle.laws.proofs.laws.Ranges.{all_in_front}
use Rattle.house.specs.Pairs.{stamp_lt, no_row}
use Rattle.house.specs.declared.Row.{Row}
use Rattle.boxes.specs.Box.{row_at}
use Rattle.boxes.specs.Ready.{open_above, is_open}
use Rattle.sending.proofs.ready.open_above.Goals as goal

pub returns : goal.returns
unfolding open_above is_open row_at stamp_lt
returns c P x en et =
    let a = c.args in
    let above : Row → Bool = λ r. not (r.phase == 1 || r.phase == 2) || stamp_lt a.s r.local in
    all_in_front above a.table no_row a.n c.all.ensures.ran (cc) (search rules) (λ x b q k. search (rules, tests)) ∙ rw (en, et)
