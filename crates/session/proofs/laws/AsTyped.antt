-- Laws of what specs/AsTyped.antt defines.
use Prim.Native.Nat.{ℕ}
use mathlib.Core.List.{List}
use mathlib.Core.Path.{◌≡◌, sym, ap}
use Rattle.house.specs.declared.Order.{Order}
use Rattle.lines.specs.declared.Typed.{Typed}
use Rattle.lines.specs.declared.Typed.TheVariants.{Given}
use Rattle.lines.proofs.laws.Reads.{same_order}
use Rattle.rehearsal.specs.declared.Night.{Night}
use Rattle.session.specs.declared.Desk.{Desk}
use Rattle.session.specs.Heard.{obeyed, handled}
use Rattle.session.specs.AsTyped.{AsTyped}

-- an order that is typed is the one that is rehearsed, with the same word and the same numbers
pub rehearsed_as_typed : (d : Desk) (n : Night) (s : List ℕ) (t : Typed) (o : Order) → AsTyped t o → handled d n s t ≡ obeyed d n s o
unfolding handled
rehearsed_as_typed d n s t o a = ap (handled d n s) (same_order t (Given o) (sym a.word) (sym a.numbers))
