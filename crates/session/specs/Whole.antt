-- The whole input, as it comes in chunks: the program does and prints what the orders of its lines say, one after the other.
use Rattle.std.specs.Prelude.{ℕ, List, [], ◌∷◌}
use Rattle.rehearsal.specs.Night.{fresh_night}
use Rattle.session.specs.Desk.{empty_desk}
use Rattle.session.specs.World.{World, saying}
use Rattle.session.specs.Session.{session_of, chunk_of, last_of}
use Rattle.session.specs.declared.Session.{Session}

-- what the program does with an input in chunks: the text of each chunk, then that of the last line; and the world at the end
unfoldable pub ended : Session → List ℕ → List (List ℕ) → World
ended s post [] = (last_of s post).state
ended s post (c ∷ cs) = saying (chunk_of s post c).state.text (ended (session_of (chunk_of s post c)) (chunk_of s post c).state.post cs)

-- nothing is read, and the post is lent
abbrev pub first_world : List ℕ → World
first_world post = record { desk = empty_desk; night = fresh_night; post = post; text = [] }
