-- A run of the program: turns of reading and writing. A turn is what a read gave, the bytes in its tray, and whether the text that they gave
-- was written. The program goes on as long as bytes came and their text was written; only a read of no bytes is the end of the input.
use Rattle.std.specs.Prelude.{ℕ, zero, suc, Bool, true, false, Option, Some, None, unwrap_or, Result, Ok, Err, ◌⊎◌, ◌≡◌, length, take}
use mathlib.Core.List.{List, [], ◌∷◌, ◌++◌, foldl, map}
use Rattle.laws.specs.Choice.{pick}
use Rattle.lines.specs.Feed.{Reading, all_read}
use Rattle.session.specs.declared.Session.{Session}
use Rattle.session.specs.World.{World, act}
use Rattle.session.specs.Session.{within, session_of, chunk_of, fresh_session}
use Rattle.rehearse.specs.declared.Flow.{Flow}
use Rattle.rehearse.specs.declared.Flow.TheVariants.{More, End}
use Rattle.rehearse.specs.declared.Failure.{Failure}
use Rattle.rehearse.specs.declared.Failure.TheVariants.{Read, Write}
use Rattle.rehearse.specs.Printed.{last_words}

-- ---- a turn

-- how many bytes the read gave, if it did not fail
pub record Turn : Type 0 where
  pub read : Option ℕ
  pub tray : List ℕ
  pub written : Bool

-- the bytes that the read gave
abbrev pub given : Turn → List ℕ
given t = take (unwrap_or t.read 0) t.tray

-- what comes after a turn, or which call has failed
abbrev pub Next : Type 0
Next = Result Flow Failure

-- a read of no bytes is the end of the input, and after some bytes their text has to be written
unfoldable pub next_of : Option ℕ → Bool → Next
next_of None written = Err Read
next_of (Some zero) written = Ok End
next_of (Some (suc k)) written = pick written (Ok More) (Err Write)

-- `next_of`
abbrev pub Decided : Option ℕ → Bool → Next → Type 0
Decided read written r = r ≡ next_of read written

-- there is another turn only after More
abbrev pub goes_on : Next → Bool
goes_on (Ok More) = true
goes_on (Ok End) = false
goes_on (Err why) = false

-- `goes_on`
abbrev pub Told : Next → Bool → Type 0
Told next r = r ≡ goes_on next

-- ---- a run

-- what the program has read after some turns, and what their bytes gave
abbrev pub read_in : Session → List ℕ → List Turn → Reading World
read_in s post turns = foldl (all_read act) (within s post) (map given turns)

-- the turns that a run may have, and what comes next: there is a turn only after one that says More
pub data Went : List Turn → Next → Type 0 where
  begun : Went [] (Ok More)
  on : {turns : List Turn} (t : Turn) → Went turns (Ok More) → Went (turns ++ (t ∷ [])) (next_of t.read t.written)

-- one turn of the program: some read and write, and the session that is fed with the bytes of that read
pub record OneTurn (s : Session) (lent : List ℕ) (r : Session) (next : Next) (later : List ℕ) : Type 0 where
  pub turn : Turn
  pub decided : next ≡ next_of turn.read turn.written
  pub session : r ≡ session_of (chunk_of s lent (given turn))
  pub post : later ≡ (chunk_of s lent (given turn)).state.post

-- some turns of the program, one after the other: the session has read all their bytes
pub record Turned (s : Session) (lent : List ℕ) (r : Session) (next : Next) (later : List ℕ) : Type 0 where
  pub turns : List Turn
  pub went : Went turns next
  pub session : r ≡ session_of (read_in s lent turns)
  pub post : later ≡ (read_in s lent turns).state.post

-- a whole run: it stops where a turn says so (a loop that is proved to end counts its turns, from a number that no run uses up)
abbrev pub most_turns : ℕ
most_turns = 18446744073709551615

pub record Ran (s : Session) (lent : List ℕ) (r : Session) (next : Next) (later : List ℕ) : Type 0 where
  pub some : Turned s lent r next later
  pub stopped : (goes_on next ≡ false) ⊎ (length some.turns ≡ most_turns)

-- what is written in a run: the text of all turns, and behind it the last words if the input has ended
unfoldable pub behind_turns : Next → List ℕ → List ℕ
behind_turns (Ok More) last = []
behind_turns (Ok End) last = last
behind_turns (Err why) last = []

unfoldable pub wrote : List ℕ → List Turn → Next → List ℕ
wrote post turns next =
    (read_in fresh_session post turns).state.text
    ++ behind_turns next (last_words (session_of (read_in fresh_session post turns)) (read_in fresh_session post turns).state.post)
