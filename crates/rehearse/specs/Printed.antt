-- Which bytes the program prints for an input: the answers to its lines, one after the other, then the report.
-- In whatever pieces the input comes, the pieces' answers, the last line's and the report are these bytes (`any_pieces`).
use Rattle.std.specs.Prelude.{ℕ, ◌≡◌, length, replicate}
use mathlib.Core.List.{List, [], ◌∷◌, ◌++◌, foldl}
use Rattle.laws.specs.Tray.{onto}
use Rattle.house.specs.Limits.{most_post}
use Rattle.lines.specs.Orders.{orders_of}
use Rattle.session.specs.declared.Session.{Session}
use Rattle.session.specs.World.{World, act}
use Rattle.session.specs.Session.{session_of, chunk_of, last_of}
use Rattle.session.specs.Whole.{first_world}
use Rattle.closing.specs.Closing.{night_report}

-- all that is said in a world where the input has ended: its text and the report
abbrev pub all_said : World → List ℕ
all_said w = w.text ++ night_report w.desk.plan w.night

-- the bytes printed for an input, with any post that is lent
unfoldable pub printed_on : List ℕ → List ℕ → List ℕ
printed_on post input = all_said (foldl act (first_world post) (orders_of input))

-- and with the program's own, which is blank
abbrev pub printed : List ℕ → List ℕ
printed input = printed_on (replicate most_post 0) input

-- ---- the end of the input

-- what is said when the input has ended
unfoldable pub last_words : Session → List ℕ → List ℕ
last_words s post = all_said (last_of s post).state

-- `last_words`: how many bytes that are, every byte of the post and of the tray
pub record LastSaid (s : Session) (lent before : List ℕ) (r : ℕ) (later after : List ℕ) : Type 0 where
  pub used : r ≡ length (last_words s lent)
  pub post : later ≡ (last_of s lent).state.post
  pub text : after ≡ onto (last_words s lent) before

-- ---- in pieces

-- the text of each piece, then the last words
unfoldable pub in_pieces : Session → List ℕ → List (List ℕ) → List ℕ
in_pieces s post [] = last_words s post
in_pieces s post (c ∷ cs) = (chunk_of s post c).state.text ++ in_pieces (session_of (chunk_of s post c)) (chunk_of s post c).state.post cs
