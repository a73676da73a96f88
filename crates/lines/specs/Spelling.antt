-- Each order has a plain line, and that line is read as the order.
-- An input of plain lines is read as its orders.
use Rattle.std.specs.Prelude.{ℕ, ◌<◌, List, [], ◌∷◌, ◌++◌}
use Rattle.house.specs.declared.Order.TheVariants.{Post, Stand, Retry, Cut, Carry}
use Rattle.lines.specs.Parts.{space, line_feed}
use Rattle.lines.specs.Numeral.{decimal}
use Rattle.lines.specs.declared.Typed.{Typed}
use Rattle.lines.specs.declared.Typed.TheVariants.{Districts, Job, Given, Unreadable}
use Rattle.lines.specs.Orders.{districts, job, post, stand, retry, cut, carry}

-- a word, one space, and a number in decimal
abbrev pub with : List ℕ → ℕ → List ℕ
with word n = word ++ (space ∷ decimal n)

-- the plain line of an order; of none, the empty line
abbrev pub spelling : Typed → List ℕ
spelling (Districts g) = with districts g
spelling (Job mask) = with job mask
spelling (Given (Post j)) = with post j
spelling (Given (Stand b)) = with stand b
spelling (Given (Retry b j)) = with (with retry b) j
spelling (Given (Cut b)) = with cut b
spelling (Given (Carry k)) = with carry k
spelling Unreadable = []

-- the order's numbers have at most nine digits
abbrev pub Small : Typed → Type 0
Small (Districts g) = g < 1000000000
Small (Job mask) = mask < 1000000000
Small (Given (Post j)) = j < 1000000000
Small (Given (Stand b)) = b < 1000000000
Small (Given (Retry b j)) = (b < 1000000000) × (j < 1000000000)
Small (Given (Cut b)) = b < 1000000000
Small (Given (Carry k)) = k < 1000000000
Small Unreadable = Unit {0}

-- an input of plain lines, each with its LF
unfoldable pub script : List Typed → List ℕ
script [] = []
script (o ∷ os) = spelling o ++ (line_feed ∷ script os)

abbrev pub AllSmall : List Typed → Type 0
AllSmall [] = Unit {0}
AllSmall (o ∷ os) = Small o × AllSmall os
