-- A world is what the lines of the input before lead to: the desk, the night, the post and all the text printed so far. The order of a line,
-- in a world, does what specs/Heard.antt says.
use Rattle.std.specs.Prelude.{ℕ, List, ◌++◌}
use Rattle.lines.specs.declared.Typed.{Typed}
use Rattle.session.specs.Heard.{After, handled}

-- what a line leaves, with the text of all lines before
abbrev pub World : Type 0
World = After

-- behind some text
abbrev pub saying : List ℕ → World → World
saying x w = record { desk = w.desk; night = w.night; post = w.post; text = x ++ w.text }

-- the order of a line, in a world
unfoldable pub act : World → Typed → World
act w t = saying w.text (handled w.desk w.night w.post t)
