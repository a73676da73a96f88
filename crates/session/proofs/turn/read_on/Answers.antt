-- `session::turn::read_on` meets its contract.
use Rattle.std.proofs.Common.{rules, ◌≡◌, ◌∙◌, ◌-◌, eqb, length, take, drop}
use borrow.Author.Tests.{tests}
use Rattle.std.specs.List.{fold, position_or_len}
use Rattle.std.proofs.lemmas.Iterator.{YieldsList-from_slice}
use Rattle.std.proofs.lemmas.Iterator.Consumers.{fold_from_yields_List}
use Rattle.std.proofs.lemmas.Iterator.Search.{position_from_yields_List}
use Rattle.laws.proofs.laws.Tray.{rest_of}
use Rattle.lines.specs.Held.{pushed}
use Rattle.lines.specs.Parts.{line_feed}
use Rattle.session.proofs.laws.Asked.{first_or_end, most_held, rest_read}
use Rattle.session.proofs.turn.read_on.Goals as goal

pub returns : goal.returns
returns c =
    let a = c.args in
    let rest = take (length a.chunk.now - a.from) (drop a.from a.chunk.now) in
    let len = c.unwrap_or-len.result in
    let found =
    position_from_yields_List (λ b. eqb b line_feed) _ _ c.position.result c.position.ensures.ran (YieldsList-from_slice rest (cc))
    (λ x b q k. search (rules, tests)) in
    let at : len ≡ position_or_len (λ b. eqb b line_feed) rest = c.unwrap_or-len.ensures ∙ first_or_end _ _ found in
    let most = c.min-most.result in
    let front : c.fold-line.result ≡ fold pushed a.line (take most rest) =
    fold_from_yields_List _ pushed _ _ c.fold-line.ensures.ran (YieldsList-from_slice (take most rest) (cc)) (λ z x b q k. search (rules, tests)) in
    let held : c.fold-line.result ≡ fold pushed a.line (take len rest) = front ∙ most_held a.line rest len most c.min-most.ensures in
    rest_read a.chunk.now a.from len a.line c.fold-line.result c.requires (rw (rest_of a.from a.chunk.now) at at) (rw (rest_of a.from a.chunk.now) at held)
