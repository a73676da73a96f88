-- Laws of what specs/Promise.antt defines.
use Prim.Native.Nat.{ℕ}
use mathlib.Core.List.{List}
use mathlib.Core.Path.{◌≡◌, sym, ◌∙◌}
use Rattle.house.specs.declared.Plan.{Plan}
use Rattle.rehearsal.specs.declared.Night.{Night}
use Rattle.closing.specs.Promise.{Closed}

pub only_closed : {P : Plan} {n : Night} {before : List ℕ} {r q : ℕ} {after tray : List ℕ} → Closed P n before r after → Closed P n before q tray
    → (r ≡ q) × (after ≡ tray)
only_closed a b = (a.used ∙ sym b.used, a.text ∙ sym b.text)
