-- `session::feed::last_line` meets its contract.
use Rattle.session.specs.Session.{chunk_of, last_of, within}
use Rattle.session.proofs.laws.Promises.{leaves_as}
use Rattle.session.proofs.laws.Asked.{byte_ends}
use Rattle.lines.specs.Parts.{line_feed}
use Rattle.laws.proofs.laws.Tray.{onto_nil}
use Rattle.laws.proofs.laws.Choice.{pick_true, pick_false}
use borrow.Author.Tests.{eq-eqb, ne_eqb}
use mathlib.Core.List.{[], ◌∷◌}
use mathlib.Core.Path.{◌≡◌, refl, sym, ◌∙◌}
use Rattle.session.proofs.feed.last_line.Goals as goal

pub returns-then-s-eq0 : goal.returns-then-s-eq0
unfolding last_of
returns-then-s-eq0 c =
    let if1_taken = c.if-s-eq0.true in
    let a = c.args in
    let v : within a.s a.post.now ≡ last_of a.s a.post.now = sym (pick_true _ _ (eq-eqb _ _ if1_taken)) in
    leaves_as v (record { fed = refl; post = refl; text = sym (onto_nil a.t.now) })

pub returns : goal.returns
unfolding last_of
returns c =
    let q = c.feed_into.ensures in
    let if1_left = c.if-s-eq0.false in
    let a = c.args in
    let v : chunk_of a.s a.post.now (line_feed ∷ []) ≡ last_of a.s a.post.now =
    byte_ends (within a.s a.post.now) ∙ sym (pick_false _ _ (ne_eqb _ _ if1_left)) in
    leaves_as v q
