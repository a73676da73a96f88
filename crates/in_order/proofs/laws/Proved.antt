-- DEMAND 3 is proved: each of its statements is read off the invariants of a run's last world.
-- What is proved stands in specs/Demand3.antt.
use mathlib.Core.Bool.{true}
use mathlib.Core.List.{List, ◌++◌}
use mathlib.Core.Path.{◌≡◌, refl, sym, subst}
use native.Mathlib.Omega.{arith}
use native.Mathlib.Decide.{ℕ_discrete}
use Rattle.house.specs.Pairs.{box_no}
use Rattle.house.specs.Plan.{plan_sound}
use Rattle.house.specs.declared.Plan.{Plan}
use Rattle.house.specs.declared.Order.{Order}
use Rattle.world.specs.World.{World, box_at, new}
use Rattle.in_order.specs.Words.{after, written, ListBegins}
use Rattle.in_order.specs.Demand3.{OneStamp, OwnStamp, ListRises, ListFinal, ListGrows, Demand3, OneOrder}
use Rattle.in_order.proofs.laws.Inv.{Inv}
use Rattle.in_order.proofs.laws.Blocks.{whole}
use Rattle.in_order.proofs.laws.CoreStamps.{i4a, i4b}
use Rattle.in_order.proofs.laws.Run.{inv_run}
use Rattle.in_order.proofs.laws.CoreGrows.{run_then, then_grows}
use Rattle.in_order.proofs.laws.CoreLists.{fair_given, run_appends}
use Rattle.in_order.proofs.laws.CoreFinal.{final_later, final_cert, handed_in}
use Rattle.in_order.proofs.laws.OneOrder.{list_once, one_order_follows}

module _ (P : Plan) (sound : plan_sound P ≡ true) where
  I : (os : List Order) → Inv P (after P os)
  I os = inv_run P sound os

  one_stamp : OneStamp P
  one_stamp os later m s t a c = i4a (I (os ++ later)) (final_cert I (final_later a later)).cert (final_cert I c).cert

  own_stamp : OwnStamp P
  own_stamp os later m k s a c = go (ℕ_discrete m k)
    where
      go : Dec (m ≡ k) → m ≡ k
      go (yes e) = e
      go (no n) = absurd (i4b (I (os ++ later)) (final_cert I (final_later a later)).cert (final_cert I c).cert n refl)

  list_rises : ListRises P
  list_rises os p l = record { says = λ k i h e. ((I os).hands.rising (box_no p) l k i h e).says }

  -- D1: what stands on a list was delivered by a DELIVER with that stamp
  list_final : ListFinal P
  list_final os p i l h =
      let D = (I os).hands.d1 (box_no p) l i h in
      written D.del.from D.del.to _ D.del.there refl

  list_grows : ListGrows P
  list_grows os later p l =
      subst (λ (w : World). ListBegins (box_at (after P os) p) (box_at w p)) (sym (run_then P (new P) os later))
      (run_appends P (after P os) later p (omega (arith, (I os).forms.size)))

  -- DEMAND 3 holds of every sound plan
  pub demand3 : Demand3 P
  demand3 =
      record {
        one_stamp = one_stamp;
        own_stamp = own_stamp;
        list_rises = list_rises;
        list_once = list_once one_stamp list_rises list_final;
        list_final = list_final;
        list_grows = list_grows;
        list_delivers = λ os o y l d e. (fair_given P (after P os) o).says y l d e;
        handed_before = λ os later i m k p b s t h n a o. handed_in (I (os ++ later)) (then_grows P (new P) os later) (whole P os) h n (final_cert I a) o;
      }

  -- and with it the regulator's sentence
  pub one_order : OneOrder P
  one_order = one_order_follows demand3
