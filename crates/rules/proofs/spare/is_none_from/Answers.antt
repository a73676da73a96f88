-- `rules::spare::is_none_from` meets its contract.
use borrow.Author.Tests.{tests}
use Rattle.std.proofs.Common.{rules, ◌∙◌}
use Rattle.std.proofs.lemmas.Iterator.{YieldsList-from_slice}
use Rattle.std.proofs.lemmas.Iterator.Adapters.{YieldsList-from_skip}
use Rattle.std.proofs.lemmas.Iterator.Search.{all_from_yields_List}
use Rattle.laws.proofs.laws.Ranges.{all_behind}
use Rattle.rules.proofs.spare.is_none_from.Goals as goal

pub returns : goal.returns
returns g c =
    let part = g.T.Part in
    let a = c.args in
    all_from_yields_List part.is_nothing _ _ c.all.result c.all.ensures.ran
    (YieldsList-from_skip a.n (YieldsList-from_slice a.parts.now (cc)) (cc))
    (λ x b q k. search (rules, tests))
    ∙ all_behind part.is_nothing a.parts.now part.nothing a.n
