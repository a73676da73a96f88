-- What the session promises: the session after some input, every byte of the post and every byte of the text tray.
-- Each promise has its theorem that no second answer fits.
use Rattle.std.specs.Prelude.{ℕ, List, ◌≡◌, take}
use Rattle.laws.specs.Tray.{onto}
use Rattle.rehearsal.specs.Night.{fresh_night}
use Rattle.lines.specs.Held.{no_line}
use Rattle.lines.specs.Feed.{Reading}
use Rattle.session.specs.Desk.{empty_desk}
use Rattle.session.specs.World.{World}
use Rattle.session.specs.Session.{fed_of, chunk_of, last_of}
use Rattle.session.specs.declared.Session.{Session}
use Rattle.session.specs.declared.feed.Fed.{Fed}

-- `fresh_session`: nothing has come of a line, nothing is drawn, and the night is fresh
pub record Begun (s : Session) : Type 0 where
  pub line : s.line ≡ no_line
  pub desk : s.desk ≡ empty_desk
  pub night : s.night ≡ fresh_night

-- what a reading leaves: the session with the length of its text, the post, and the text over the front of the tray
pub record Leaves (x : Reading World) (before : List ℕ) (r : Fed) (later after : List ℕ) : Type 0 where
  pub fed : r ≡ fed_of x
  pub post : later ≡ x.state.post
  pub text : after ≡ onto x.state.text before

-- `feed_chunk`: the first n bytes of a chunk are read
abbrev pub ChunkFed : Session → List ℕ → ℕ → List ℕ → List ℕ → Fed → List ℕ → List ℕ → Type 0
ChunkFed s chunk n post before r later after = Leaves (chunk_of s post (take n chunk)) before r later after

-- `last_line`: the end of the input ends a line that has begun
abbrev pub LastFed : Session → List ℕ → List ℕ → Fed → List ℕ → List ℕ → Type 0
LastFed s post before r later after = Leaves (last_of s post) before r later after
