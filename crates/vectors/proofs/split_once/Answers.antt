-- `vectors::split_once` meets its contract.
use Rattle.laws.proofs.laws.Tray.{rest_of}
use Rattle.std.proofs.Common.{rules, refl, sym, ◌∙◌, ◌+◌, eqb}
use borrow.Author.Tests.{tests}
use Rattle.std.proofs.lemmas.Iterator.{YieldsList-from_slice}
use Rattle.std.proofs.lemmas.Iterator.Search.{position_from_yields_List}
use Rattle.vectors.proofs.split_once.Goals as goal

pub returns-in_err-k-clause-first : goal.returns-in_err-k-clause-first
returns-in_err-k-clause-first c =
    let a = c.args in
    let found =
    position_from_yields_List (λ x. eqb x a.b) _ _ c.position.result c.position.ensures.ran (YieldsList-from_slice a.s.now (cc))
    (λ x b q k. search (rules, tests)) in
    rw c.from_residual.ensures (sym found ∙ c.in_err-k.was)

pub returns-clause-first : goal.returns-clause-first
returns-clause-first c =
    let a = c.args in
    let found =
    position_from_yields_List (λ x. eqb x a.b) _ _ c.position.result c.position.ensures.ran (YieldsList-from_slice a.s.now (cc))
    (λ x b q k. search (rules, tests)) in
    (c.in_ok-k.k, sym found ∙ c.in_ok-k.was, refl, rest_of (c.in_ok-k.k + 1) a.s.now)
