-- What comes in a chunk of the input from a place on: a part of a line, or its end, with what it asks.
use Rattle.std.specs.Prelude.{ℕ, ◌≤◌, ◌<◌, List, ◌≡◌, length, take, get_or, None, Some}
use Rattle.lines.specs.Feed.{Reading, all_read}
use Rattle.lines.specs.Parts.{line_feed}
use Rattle.lines.specs.declared.LineState.{LineState}
use Rattle.post.specs.declared.Index.{Index}
use Rattle.rehearsal.specs.Alone.{Found}
use Rattle.session.specs.declared.Desk.{Desk}
use Rattle.session.specs.Hears.{ask_of}
use Rattle.session.specs.World.{World, act}
use Rattle.session.specs.declared.turn.Asked.{Asked}
use Rattle.session.specs.declared.turn.Line.{Line}
use Rattle.session.specs.declared.turn.Scan.{Scan}

-- the rest of a line, up to its LF or the end of the chunk: its bytes are held, and nothing is done
pub record ReadsOn (line : LineState) (chunk : List ℕ) (from : ℕ) (r : Scan) : Type 0 where
  pub up : from ≤ r.at
  pub low : r.at ≤ length chunk
  pub ends : r.at < length chunk → get_or chunk r.at 0 ≡ line_feed
  pub held : (q : Reading World) → (all_read act q (take from chunk)).line ≡ line
      → all_read act q (take r.at chunk) ≡ record { line = r.line; state = (all_read act q (take from chunk)).state }

-- from a place on where `line` was coming: at least one byte more is read, up to the end of a line or of the chunk
pub record Asks (line : LineState) (desk : Desk) (used : ℕ) (chunk : List ℕ) (from : ℕ) (post : List ℕ) (index : Index) (r : Asked)
    (later : Index) : Type 0 where
  pub up : from < r.next
  pub low : r.next ≤ length chunk
  -- a part of a line: it is held, and nothing is done
  pub part : r.ended ≡ None → (later ≡ index)
      × ((q : Reading World) → (all_read act q (take from chunk)).line ≡ line
      → all_read act q (take r.next chunk) ≡ record { line = r.line; state = (all_read act q (take from chunk)).state })
  -- the end of a line: what it says is acted on, and the box that it is for is found
  pub whole : (l : Line) → r.ended ≡ Some l
      → Found desk.plan desk.fixed used (ask_of l.typed) post index l.place later
      × ((q : Reading World) → (all_read act q (take from chunk)).line ≡ line
      → all_read act q (take r.next chunk) ≡ record { line = r.line; state = act (all_read act q (take from chunk)).state l.typed })
