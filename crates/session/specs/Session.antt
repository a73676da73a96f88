-- A session reads bytes (specs/Feed.antt of lines), and the order of each line acts on the world (specs/World.antt).
use Rattle.std.specs.Prelude.{ℕ, List, [], length, eqb}
use Rattle.laws.specs.Choice.{pick}
use Rattle.rehearsal.specs.Night.{fresh_night}
use Rattle.lines.specs.Held.{no_line}
use Rattle.lines.specs.Feed.{Reading, line_end, all_read}
use Rattle.session.specs.Desk.{empty_desk}
use Rattle.session.specs.World.{World, act}
use Rattle.session.specs.declared.Session.{Session}
use Rattle.session.specs.declared.feed.Fed.{Fed}

-- a session with a post, nothing said yet
abbrev pub within : Session → List ℕ → Reading World
within s post = record { line = s.line; state = record { desk = s.desk; night = s.night; post = post; text = [] } }

-- the session of a reading, and the code's answer
abbrev pub session_of : Reading World → Session
session_of r = record { line = r.line; desk = r.state.desk; night = r.state.night }

abbrev pub fed_of : Reading World → Fed
fed_of r = record { session = session_of r; used = length r.state.text }

-- a line has ended; some bytes
abbrev pub line_of : Session → List ℕ → Reading World
line_of s post = line_end act (within s post)

abbrev pub chunk_of : Session → List ℕ → List ℕ → Reading World
chunk_of s post chunk = all_read act (within s post) chunk

-- the end of the input ends a line that has begun
unfoldable pub last_of : Session → List ℕ → Reading World
last_of s post = pick (eqb s.line.len 0) (within s post) (line_of s post)

-- nothing is read
unfoldable pub fresh_session : Session
fresh_session = record { line = no_line; desk = empty_desk; night = fresh_night }
