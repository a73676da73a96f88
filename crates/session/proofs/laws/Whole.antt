-- Laws of what specs/Whole.antt defines.
use Prim.Native.Nat.{ℕ}
use mathlib.Core.List.{List, [], ◌∷◌, ◌++◌, foldl, append_assoc}
use mathlib.Core.Path.{◌≡◌, sym, ap, ◌∙◌}
use Rattle.lines.specs.Orders.{orders_of}
use Rattle.lines.proofs.laws.Feed.{orders_chunks}
use Rattle.lines.specs.Feed.{Reading, all_read, input_end, joined}
use Rattle.session.specs.World.{World, saying, act}
use Rattle.session.specs.Session.{within, session_of, chunk_of, fresh_session}
use Rattle.session.proofs.laws.SessionLaws.{all_says, last_says}
use Rattle.session.specs.Whole.{ended, first_world}

saying_twice : (x y : List ℕ) (w : World) → saying (x ++ y) w ≡ saying x (saying y w)
saying_twice x y w = ap (λ (z : List ℕ). record { desk = w.desk; night = w.night; post = w.post; text = z }) (append_assoc x y w.text)

from : (cs : List (List ℕ)) (r : Reading World) → input_end act (foldl (all_read act) r cs) ≡ saying r.state.text (ended (session_of r) r.state.post cs)
unfolding ended
from [] r = last_says r
from (c ∷ cs) r =
    let q = chunk_of (session_of r) r.state.post c in
    from cs (all_read act r c)
    ∙ ap (λ (z : Reading World). saying z.state.text (ended (session_of z) z.state.post cs)) (all_says c r)
    ∙ saying_twice r.state.text q.state.text (ended (session_of q) q.state.post cs)

-- in whatever chunks an input comes: at its end desk, night, post and text are those of its lines' orders
pub whole : (post : List ℕ) (chunks : List (List ℕ)) → ended fresh_session post chunks ≡ foldl act (first_world post) (orders_of (joined chunks))
unfolding fresh_session
whole post chunks = sym (from chunks (within fresh_session post)) ∙ orders_chunks act (first_world post) chunks
