-- A box that may stand has room for the next ballot number.
use Prim.Native.Nat.{◌<◌}
use mathlib.Core.Path.{◌≡◌}
use borrow.Author.Tests.{ltb-true}
use Rattle.house.specs.Limits.{most_number}
use Rattle.records.specs.Answers.{done}
use Rattle.records.proofs.laws.Answers.{or_no_done}
use Rattle.records.specs.declared.answers.Refusal.TheVariants.{AtLimit}
use Rattle.boxes.specs.Stand.{stand_answer}
use Rattle.boxes.specs.declared.BoxState.{BoxState}

pub stand_room : (x : BoxState) → stand_answer x ≡ done → x.core.ballot.number < most_number
stand_room x e = ltb-true x.core.ballot.number most_number (or_no_done _ AtLimit done e).0
