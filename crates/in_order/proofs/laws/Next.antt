-- The world after a move: the mover's box and the others', the grown post, ballots that never fall.
-- Every preservation proof goes through 'boxes-next' and the growth of the post.
use Prim.Native.Nat.{◌<◌}
use mathlib.Core.Logic.{◌≢◌}
use mathlib.Core.Path.{◌≡◌, sym}
use lib.Seq.{get_or-set_same, get_or-set_other}
use Rattle.laws.proofs.laws.Place.{Begins, begins_append}
use Rattle.house.specs.Pairs.{box_no}
use Rattle.house.proofs.laws.Orders.{ballot_order}
use Rattle.house.specs.declared.BoxNo.{BoxNo}
use Rattle.house.specs.Plan.{boxes_of}
use Rattle.house.specs.declared.Plan.{Plan}
use Rattle.boxes.specs.Box.{fresh, own_of}
use Rattle.boxes.specs.declared.BoxState.{BoxState}
use Rattle.world.specs.World.{World}
use Rattle.in_order.proofs.laws.Compare.{Upto, le_refl, eq_le, lt_to_le}
use Rattle.in_order.proofs.laws.Notions.{the}
use Rattle.in_order.proofs.laws.Inv.{Forms}
use Rattle.in_order.proofs.laws.Laws.{same_box, box_ne}
use Rattle.in_order.proofs.laws.Moves.{Move, box, sent, next}
use Rattle.in_order.proofs.laws.Steps.{ModeStep, mode_same, mode_join, mode_merge, mode_state, mode_lead, mode}
use Rattle.in_order.proofs.laws.Facts.{cballot_upto}

module _ (P : Plan) (w : World) (p : BoxNo) (known : p.0 < boxes_of P) (F : Forms P w) (m : Move P w p) where
  -- the post grows
  pub grows : Begins w.post (next P w p m).post
  grows = begins_append w.post (sent P w p m)

  pub mover : the (next P w p m) p ≡ box P w p m
  mover = get_or-set_same w.boxes p.0 (box P w p m) (fresh (box_no 0)) (rw F.size known)

  pub other : (q : BoxNo) → q ≢ p → the (next P w p m) q ≡ the w q
  other q n = get_or-set_other w.boxes p.0 q.0 (box P w p m) (fresh (box_no 0)) (box_ne n)

  -- what holds of the mover's new box and of every old box holds of every box
  pub boxes_next : (Q : BoxNo → BoxState → Type 0) → Q p (box P w p m) → ((q : BoxNo) → q.0 < boxes_of P → Q q (the w q)) → (q : BoxNo) → q.0 < boxes_of P
      → Q q (the (next P w p m) q)
  boxes_next Q f g q l = go (same_box q p)
    where
      go : Dec (q ≡ p) → Q q (the (next P w p m) q)
      go (yes e) = rw (e, mover) f
      go (no n) = rw (other q n) (g q l)

  -- the same, where the others may use that they are others
  pub others_next : (Q : BoxNo → BoxState → Type 0) → Q p (box P w p m) → ((q : BoxNo) → q.0 < boxes_of P → q ≢ p → Q q (the w q)) → (q : BoxNo)
      → q.0 < boxes_of P → Q q (the (next P w p m) q)
  others_next Q f g q l = go (same_box q p)
    where
      go : Dec (q ≡ p) → Q q (the (next P w p m) q)
      go (yes e) = rw (e, mover) f
      go (no n) = rw (other q n) (g q l n)

  -- the same of any box number
  pub any_next : (Q : BoxNo → BoxState → Type 0) → Q p (box P w p m) → ((q : BoxNo) → Q q (the w q)) → (q : BoxNo) → Q q (the (next P w p m) q)
  any_next Q f g q = go (same_box q p)
    where
      go : Dec (q ≡ p) → Q q (the (next P w p m) q)
      go (yes e) = rw (e, mover) f
      go (no n) = rw (other q n) (g q)

  pub own_is : own_of (the w p) ≡ p
  own_is = (F.box p known).own

  -- Up: ballot and cballot never fall
  pub own_ballot : Upto (the w p).core.ballot (box P w p m).core.ballot
  own_ballot = go (mode P w p known F m)
    where
      go : ModeStep P w p (box P w p m) → Upto (the w p).core.ballot (box P w p m).core.ballot
      go (mode_same b c s) = eq_le ballot_order (sym b)
      go (mode_join a b c s t) = rw b (lt_to_le ballot_order a.above)
      go (mode_merge a b c s) = eq_le ballot_order (sym b)
      go (mode_state a b c s t) = eq_le ballot_order (sym b)
      go (mode_lead a b c s) = eq_le ballot_order (sym b)

  pub own_cballot : Upto (the w p).core.cballot (box P w p m).core.cballot
  own_cballot = go (mode P w p known F m)
    where
      go : ModeStep P w p (box P w p m) → Upto (the w p).core.cballot (box P w p m).core.cballot
      go (mode_same b c s) = eq_le ballot_order (sym c)
      go (mode_join a b c s t) = eq_le ballot_order (sym c)
      go (mode_merge a b c s) = rw c (cballot_upto a.sound)
      go (mode_state a b c s t) = rw (c, a.same) (cballot_upto a.sound)
      go (mode_lead a b c s) = eq_le ballot_order (sym c)

  pub ballot_up : (q : BoxNo) → Upto (the w q).core.ballot (the (next P w p m) q).core.ballot
  ballot_up = any_next (λ q x. Upto (the w q).core.ballot x.core.ballot) own_ballot (λ q. le_refl ballot_order)

  pub cballot_up : (q : BoxNo) → Upto (the w q).core.cballot (the (next P w p m) q).core.cballot
  cballot_up = any_next (λ q x. Upto (the w q).core.cballot x.core.cballot) own_cballot (λ q. le_refl ballot_order)
