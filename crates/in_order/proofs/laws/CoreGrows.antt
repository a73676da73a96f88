-- The post of a run only grows by appending; what stands in it stays (Grow).
-- Here 'at whatever times' becomes 'in the later world'.
use Prim.Native.Nat.{ℕ}
use mathlib.Core.List.{List, [], ◌∷◌, ◌++◌}
use mathlib.Core.Path.{◌≡◌, refl, sym, subst}
use Rattle.laws.proofs.laws.Place.{Begins, begins_refl, begins_append, begins_trans}
use Rattle.house.specs.declared.Plan.{Plan}
use Rattle.house.specs.declared.Order.{Order}
use Rattle.boxes.specs.Out.{Out, refused, does}
use Rattle.world.specs.World.{World, whose, given, finish, step, run}

-- by what the box sends
finish_grows : (w : World) (p : ℕ) (a : Out) → Begins w.post (finish w p a).post
finish_grows w p (refused n) = begins_refl w.post
finish_grows w p (does x l d) = begins_append w.post l

-- in a step
pub step_grows : (P : Plan) (w : World) (o : Order) → Begins w.post (step P w o).post
unfolding step
step_grows P w o = finish_grows w (whose w o) (given P w o)

-- in a run
pub run_grows : (P : Plan) (w : World) (os : List Order) → Begins w.post (run P w os).post
unfolding run
run_grows P w [] = begins_refl w.post
run_grows P w (o ∷ os) = begins_trans (step_grows P w o) (run_grows P (step P w o) os)

-- orders given later are given to the world that the first left
pub run_then : (P : Plan) (w : World) (os later : List Order) → run P w (os ++ later) ≡ run P (run P w os) later
unfolding run
run_then P w [] later = refl
run_then P w (o ∷ os) later = run_then P (step P w o) os later

-- and when a run is continued
pub then_grows : (P : Plan) (w : World) (os later : List Order) → Begins (run P w os).post (run P w (os ++ later)).post
then_grows P w os later = subst (λ (v : World). Begins (run P w os).post v.post) (sym (run_then P w os later)) (run_grows P (run P w os) later)
