-- `rules::rows::none_proposed` meets its contract.
use borrow.Author.Tests.{tests}
use Rattle.std.proofs.Common.{rules, ◌∙◌, nat_eq, not, Bool, refl}
use Rattle.std.proofs.lemmas.Iterator.{YieldsList-from_slice, YieldsList-from_take}
use Rattle.std.proofs.lemmas.Iterator.Search.{all_from_yields_List}
use Rattle.laws.proofs.laws.Ranges.{all_take}
use Rattle.house.specs.Pairs.{no_row}
use Rattle.house.specs.declared.Row.{Row}
use Rattle.records.specs.Rules.{none_proposed}
use Rattle.rules.proofs.rows.none_proposed.Goals as goal

pub returns : goal.returns
unfolding none_proposed
returns c =
    let a = c.args in
    let t : Row → Bool = λ r. not (nat_eq r.phase 1) in
    all_from_yields_List t _ _ c.all.result c.all.ensures.ran
    (YieldsList-from_take a.n (YieldsList-from_slice a.table (cc)) (cc))
    (λ x b q k. search (rules, tests))
    ∙ all_take t a.table no_row refl a.n
