-- What is rehearsed is what was typed: the order that is rehearsed has the word and the numbers of the line.
use Rattle.std.specs.Prelude.{◌≡◌}
use Rattle.house.specs.declared.Order.{Order}
use Rattle.lines.specs.declared.Typed.{Typed}
use Rattle.lines.specs.declared.Typed.TheVariants.{Given}
use Rattle.lines.specs.Reads.{order_word, order_numbers}

-- a line and an order say the same
pub record AsTyped (t : Typed) (o : Order) : Type 0 where
  pub word : order_word (Given o) ≡ order_word t
  pub numbers : order_numbers (Given o) ≡ order_numbers t
