-- Laws of what specs/Spelling.antt defines.
use Prim.Native.Nat.{ℕ}
use mathlib.Core.Bool.{true, not}
use mathlib.Core.List.{List, [], ◌∷◌}
use mathlib.Core.Path.{◌≡◌, refl, ◌∙◌}
use native.Mathlib.Omega.{arith}
use lib.Dec.{eqb, lit≤}
use Rattle.laws.specs.Choice.{pick}
use Rattle.laws.proofs.laws.Choice.{and_both}
use Rattle.house.specs.declared.Order.TheVariants.{Post, Stand, Retry, Cut, Carry}
use Rattle.lines.specs.Parts.{space, line_feed, same, every, parts}
use Rattle.lines.proofs.laws.Parts.{without}
use Rattle.lines.proofs.laws.PartLaws.{every_append}
use Rattle.lines.specs.Numeral.{decimal}
use Rattle.lines.proofs.laws.NumeralLaws.{digits_without, decimal_digits, number_decimal, value_decimal}
use Rattle.lines.specs.declared.Typed.{Typed}
use Rattle.lines.specs.declared.Typed.TheVariants.{Districts, Job, Given, Unreadable}
use Rattle.lines.specs.Orders.{districts, job, post, stand, retry, cut, carry, one_number, order_of_words, order_of_line, orders_of}
use Rattle.lines.proofs.laws.OrderLaws.{one_line, retry_line, orders_none, orders_lf}
use Rattle.lines.specs.Spelling.{with, spelling, Small, script, AllSmall}

-- an order's plain line is read as the order
pub spelling_read : (o : Typed) → Small o → order_of_line (spelling o) ≡ o
unfolding one_number order_of_line order_of_words same every parts pick
spelling_read (Districts g) h = one_line districts (decimal g) refl (lit≤ tt) (number_decimal g h) ∙ rw (value_decimal g (omega arith))
spelling_read (Job mask) h = one_line job (decimal mask) refl (lit≤ tt) (number_decimal mask h) ∙ rw (value_decimal mask (omega arith))
spelling_read (Given (Post j)) h = one_line post (decimal j) refl (lit≤ tt) (number_decimal j h) ∙ rw (value_decimal j (omega arith))
spelling_read (Given (Stand b)) h = one_line stand (decimal b) refl (lit≤ tt) (number_decimal b h) ∙ rw (value_decimal b (omega arith))
spelling_read (Given (Retry b j)) h =
    retry_line (decimal b) (decimal j) (number_decimal b h.0) (number_decimal j h.1) ∙ rw (value_decimal b (omega arith), value_decimal j (omega arith))
spelling_read (Given (Cut b)) h = one_line cut (decimal b) refl (lit≤ tt) (number_decimal b h) ∙ rw (value_decimal b (omega arith))
spelling_read (Given (Carry k)) h = one_line carry (decimal k) refl (lit≤ tt) (number_decimal k h) ∙ rw (value_decimal k (omega arith))
spelling_read Unreadable h = refl

digits_solid : (n : ℕ) → without line_feed (space ∷ decimal n) ≡ true
unfolding every
digits_solid n = digits_without line_feed (decimal n) refl (decimal_digits n)

-- no LF stands in a plain line
with_solid : (word : List ℕ) (n : ℕ) → without line_feed word ≡ true → without line_feed (with word n) ≡ true
with_solid word n h =
    every_append (λ b. not (eqb b line_feed)) word (space ∷ decimal n)
    ∙ and_both (without line_feed word) (without line_feed (space ∷ decimal n)) h (digits_solid n)

pub spelling_solid : (o : Typed) → without line_feed (spelling o) ≡ true
unfolding every
spelling_solid (Districts g) = with_solid districts g refl
spelling_solid (Job mask) = with_solid job mask refl
spelling_solid (Given (Post j)) = with_solid post j refl
spelling_solid (Given (Stand b)) = with_solid stand b refl
spelling_solid (Given (Retry b j)) = with_solid (with retry b) j (with_solid retry b refl)
spelling_solid (Given (Cut b)) = with_solid cut b refl
spelling_solid (Given (Carry k)) = with_solid carry k refl
spelling_solid Unreadable = refl

-- it is read as its orders
pub script_read : (os : List Typed) → AllSmall os → orders_of (script os) ≡ os
unfolding script
script_read [] h = orders_none
script_read (o ∷ os) h = orders_lf (spelling o) (script os) (spelling_solid o) ∙ rw (spelling_read o h.0, script_read os h.1)
