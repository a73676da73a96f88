-- The line that is coming: what is held of it, one byte more, and the order it makes.
-- `held p` is what is held when the bytes p of a line have come.
use Rattle.std.specs.Prelude.{ℕ, ◌+◌, take, set, replicate, ltb}
use Rattle.laws.specs.Choice.{pick}
use Rattle.lines.specs.declared.LineState.{LineState}
use Rattle.lines.specs.declared.Typed.{Typed}
use Rattle.lines.specs.Orders.{longest, order_of_line}

-- nothing has come
abbrev pub no_line : LineState
no_line = record { len = 0; bytes = replicate 32 0 }

-- one byte more; 32 bytes stand for more than 31, and then no more is kept
unfoldable pub pushed : LineState → ℕ → LineState
pushed s b = pick (ltb longest s.len) s (record { len = s.len + 1; bytes = set s.bytes s.len b })

-- the order of the line held
unfoldable pub order_held : LineState → Typed
order_held s = order_of_line (take s.len s.bytes)
