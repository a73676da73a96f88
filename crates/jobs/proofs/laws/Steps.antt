-- The records of kinds 2 and 3 as one struct sent to the boxes that are meant; steps that are never refused.
use Prim.Native.Nat.{ℕ}
use mathlib.Core.Bool.{true}
use mathlib.Core.Path.{◌≡◌, refl}
use Rattle.laws.proofs.laws.Choice.{pick_both}
use Rattle.house.specs.Marks.{marks_of, named_boxes}
use Rattle.house.specs.Plan.{boxes_of, plan_sound}
use Rattle.house.specs.declared.Plan.{Plan}
use Rattle.records.specs.Rec.{accept, accept_ack, carried}
use Rattle.boxes.specs.Box.{own_of, row_at}
use Rattle.boxes.specs.Out.{result_of}
use Rattle.boxes.specs.Multicast.{accepts}
use Rattle.boxes.specs.Accept.{kept_vector, kept_leader, acks, all_kept, when_kept}
use Rattle.boxes.specs.AcceptAck.{enough, when_marked}
use Rattle.boxes.specs.declared.BoxState.{BoxState}
use Rattle.sending.specs.Sends.{Sends}
use Rattle.sending.proofs.laws.Kinds.{accepts_sent, acks_sent}

module _ (P : Plan) (s : plan_sound P ≡ true) (j : ℕ) where
  pub sent_accepts : (y : BoxState)
      → Sends P (accepts P y j) (named_boxes P j)
      (carried (accept (own_of y) (own_of y) j (record { ballot = y.core.cballot; stamp = (row_at y j).local })))
  unfolding accepts
  sent_accepts y = accepts_sent P s (own_of y) (own_of y) j (record { ballot = y.core.cballot; stamp = (row_at y j).local })

  pub sent_acks : (y : BoxState)
      → Sends P (acks P y j) (marks_of (kept_leader P y j) (boxes_of P)) (carried (accept_ack (own_of y) (own_of y) j (kept_vector P y j)))
  sent_acks y = acks_sent P s (own_of y) y j

-- a kept ACCEPT is not refused, and neither is a mark
pub kept_result : (P : Plan) (x y z : BoxState) (j : ℕ) → result_of P y (when_kept P x j) ≡ result_of P z (when_kept P x j)
unfolding when_kept
kept_result P x y z j = pick_both (λ o. result_of P y o ≡ result_of P z o) (all_kept P x j) refl refl

pub marked_result : (P : Plan) (x y z : BoxState) (j : ℕ) → result_of P y (when_marked P x j) ≡ result_of P z (when_marked P x j)
unfolding when_marked
marked_result P x y z j = pick_both (λ o. result_of P y o ≡ result_of P z o) (enough P x j) refl refl
