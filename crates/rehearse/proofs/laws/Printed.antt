-- Laws of what specs/Printed.antt defines.
use Prim.Native.Nat.{ℕ}
use mathlib.Core.List.{List, [], ◌∷◌, ◌++◌, append_assoc}
use mathlib.Core.Path.{◌≡◌, refl, sym, ap, ◌∙◌}
use Rattle.lines.specs.Feed.{joined}
use Rattle.session.specs.declared.Session.{Session}
use Rattle.session.specs.Session.{session_of, chunk_of, fresh_session}
use Rattle.session.specs.Whole.{ended}
use Rattle.session.proofs.laws.Whole.{whole}
use Rattle.closing.specs.Closing.{night_report}
use Rattle.rehearse.specs.Printed.{all_said, printed_on, last_words, LastSaid, in_pieces}

-- no second answer fits
pub only_said : {s : Session} {lent before : List ℕ} {r q : ℕ} {post later after tray : List ℕ}
    → LastSaid s lent before r post after → LastSaid s lent before q later tray → (r ≡ q) × (post ≡ later) × (after ≡ tray)
only_said a b = (a.used ∙ sym b.used, a.post ∙ sym b.post, a.text ∙ sym b.text)

pieces_ended : (cs : List (List ℕ)) (s : Session) (post : List ℕ) → in_pieces s post cs ≡ all_said (ended s post cs)
unfolding in_pieces ended last_words
pieces_ended [] s post = refl
pieces_ended (c ∷ cs) s post =
    let q = chunk_of s post c in
    let w = ended (session_of q) q.state.post cs in
    ap (λ (x : List ℕ). q.state.text ++ x) (pieces_ended cs (session_of q) q.state.post)
    ∙ sym (append_assoc q.state.text w.text (night_report w.desk.plan w.night))

-- the pieces do not matter
pub any_pieces : (post : List ℕ) (cs : List (List ℕ)) → in_pieces fresh_session post cs ≡ printed_on post (joined cs)
unfolding printed_on
any_pieces post cs = pieces_ended cs fresh_session post ∙ ap all_said (whole post cs)
