-- `lines::words::is_number` meets its contract.
use Rattle.lines.proofs.laws.PartLaws.{every_list}
use Rattle.lines.specs.Numeral.{is_digit, is_number}
use Rattle.std.proofs.Common.{rules, ◌≡◌, ◌≤◌, ◌∙◌, length}
use borrow.Author.Tests.{tests, le-leb}
use Rattle.std.specs.List.{list_all}
use Rattle.std.proofs.lemmas.Iterator.{YieldsList-from_slice}
use Rattle.std.proofs.lemmas.Iterator.Search.{all_from_yields_List}
use Rattle.lines.proofs.words.is_number.Goals as goal

pub returns-then-contains : goal.returns-then-contains
unfolding is_number
returns-then-contains c =
    let l = c.args.word.now in
    let digits : c.all.result ≡ list_all is_digit l =
    all_from_yields_List is_digit _ _ _ c.all.ensures.ran (YieldsList-from_slice l (cc)) (λ x b q k. search (rules, tests)) in
    let fits : (1 ≤ length l) × (length l ≤ 9) = search rules in
    rw (le-leb _ _ fits.0, le-leb _ _ fits.1) (digits ∙ every_list is_digit l)

pub returns-else-contains : goal.returns-else-contains
unfolding is_number
returns-else-contains c = search (rules, tests)
