-- `lines::words::split_word` meets its contract.
use Rattle.lines.proofs.laws.PartLaws.{words_split}
use Rattle.lines.specs.Parts.{space}
use Rattle.laws.proofs.laws.Tray.{rest_of}
use Rattle.std.proofs.Common.{rules, ◌+◌, eqb}
use borrow.Author.Tests.{tests}
use Rattle.std.proofs.lemmas.Iterator.{YieldsList-from_slice}
use Rattle.std.proofs.lemmas.Iterator.Search.{position_from_yields_List}
use Rattle.lines.proofs.words.split_word.Goals as goal

pub returns-in_err-k : goal.returns-in_err-k
returns-in_err-k c =
    let l = c.args.text.now in
    let found =
    position_from_yields_List (λ b. eqb b space) _ _ c.position.result c.position.ensures.ran (YieldsList-from_slice l (cc))
    (λ x b q k. search (rules, tests)) in
    rw c.from_residual.ensures (rw c.in_err-k.was at (words_split l found))

pub returns : goal.returns
returns c =
    let l = c.args.text.now in
    let found =
    position_from_yields_List (λ b. eqb b space) _ _ c.position.result c.position.ensures.ran (YieldsList-from_slice l (cc))
    (λ x b q k. search (rules, tests)) in
    rw (rest_of (c.in_ok-k.k + 1) l) (rw c.in_ok-k.was at (words_split l found))
