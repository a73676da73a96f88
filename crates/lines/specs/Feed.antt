-- The input byte by byte: a line is held until it ends, and then its order is acted on.
-- Whatever is done with an order (`act`), reading the bytes, in any chunks, does it with the orders of the lines.
use Rattle.std.specs.Prelude.{ℕ, eqb}
use mathlib.Core.List.{List, [], ◌∷◌, ◌++◌, foldl}
use Rattle.laws.specs.Choice.{pick}
use Rattle.lines.specs.Parts.{line_feed}
use Rattle.lines.specs.declared.LineState.{LineState}
use Rattle.lines.specs.declared.Typed.{Typed}
use Rattle.lines.specs.Held.{no_line, pushed, order_held}

-- the line that is coming, and the state that the lines before it led to
pub record Reading (S : Type 0) : Type 0 where
  pub line : LineState
  pub state : S

-- nothing is read yet
abbrev pub start : {S : Type 0} → S → Reading S
start s = record { line = no_line; state = s }

-- chunks of an input, one behind the other
unfoldable pub joined : List (List ℕ) → List ℕ
joined [] = []
joined (c ∷ cs) = c ++ joined cs

module _ {S : Type 0} (act : S → Typed → S) where
  -- a line has ended: its order is acted on
  unfoldable pub line_end : Reading S → Reading S
  line_end r = record { line = no_line; state = act r.state (order_held r.line) }

  -- one byte of the input: LF ends the line, another byte is held
  unfoldable pub byte_read : Reading S → ℕ → Reading S
  byte_read r b = pick (eqb b line_feed) (line_end r) (record { line = pushed r.line b; state = r.state })

  -- many bytes, one after the other
  abbrev pub all_read : Reading S → List ℕ → Reading S
  all_read r bytes = foldl byte_read r bytes

  -- the end of the input ends a line that has begun
  unfoldable pub input_end : Reading S → S
  input_end r = pick (eqb r.line.len 0) r.state (line_end r).state
