-- The records of each step, as the bytes that one struct sent to the boxes that are meant writes.
use Prim.Native.Nat.{ℕ}
use mathlib.Core.Bool.{true, not, ◌&&◌}
use mathlib.Core.Path.{◌≡◌, refl}
use lib.Dec.{eqb}
use Rattle.house.specs.Marks.{marks_of, named_boxes, home_boxes, other_boxes}
use Rattle.house.specs.declared.Ballot.{Ballot}
use Rattle.house.specs.declared.BoxNo.{BoxNo}
use Rattle.house.specs.Plan.{boxes_of, home_of, same_home, names, plan_sound}
use Rattle.house.specs.declared.Plan.{Plan}
use Rattle.records.specs.Rec.{multicast, accept, accept_ack, deliver, newleader, new_state, carried}
use Rattle.records.specs.declared.Proposal.{Proposal}
use Rattle.records.specs.declared.Handout.{Handout}
use Rattle.records.specs.declared.NewState.{NewState}
use Rattle.boxes.specs.Box.{own_of}
use Rattle.boxes.specs.Out.{to_named, to_home, to_others}
use Rattle.boxes.specs.Accept.{kept_leader, kept_vector, acks}
use Rattle.boxes.specs.declared.BoxState.{BoxState}
use Rattle.sending.specs.Sends.{addressed, Sends}
use Rattle.sending.proofs.laws.Sends.{each_sends}

-- whichever box the struct is first addressed to
module _ (P : Plan) (s : plan_sound P ≡ true) (to : BoxNo) where
  pub multicasts_sent : (from : BoxNo) (j : ℕ) → Sends P (to_named P j (λ p. multicast from p j)) (named_boxes P j) (carried (multicast from to j))
  unfolding addressed carried
  multicasts_sent from j = each_sends P s (λ p. names P j (home_of P p)) (λ p. multicast from p j) (carried (multicast from to j)) (λ p. refl)

  pub accepts_sent : (from : BoxNo) (j : ℕ) (y : Proposal) → Sends P (to_named P j (λ p. accept from p j y)) (named_boxes P j) (carried (accept from to j y))
  unfolding addressed carried
  accepts_sent from j y = each_sends P s (λ p. names P j (home_of P p)) (λ p. accept from p j y) (carried (accept from to j y)) (λ p. refl)

  pub acks_sent : (x : BoxState) (j : ℕ)
      → Sends P (acks P x j) (marks_of (kept_leader P x j) (boxes_of P)) (carried (accept_ack (own_of x) to j (kept_vector P x j)))
  unfolding addressed carried acks
  acks_sent x j =
      each_sends P s (kept_leader P x j) (λ p. accept_ack (own_of x) p j (kept_vector P x j))
      (carried (accept_ack (own_of x) to j (kept_vector P x j))) (λ p. refl)

  pub delivers_sent : (x : BoxState) (j : ℕ) (y : Handout)
      → Sends P (to_home P x (λ p. deliver (own_of x) p j y)) (home_boxes P (own_of x)) (carried (deliver (own_of x) to j y))
  unfolding addressed carried
  delivers_sent x j y =
      each_sends P s (λ p. same_home P p (own_of x)) (λ p. deliver (own_of x) p j y) (carried (deliver (own_of x) to j y)) (λ p. refl)

  pub newleaders_sent : (x : BoxState) (b : Ballot)
      → Sends P (to_home P x (λ p. newleader (own_of x) p b)) (home_boxes P (own_of x)) (carried (newleader (own_of x) to b))
  unfolding addressed carried
  newleaders_sent x b =
      each_sends P s (λ p. same_home P p (own_of x)) (λ p. newleader (own_of x) p b) (carried (newleader (own_of x) to b)) (λ p. refl)

  pub new_states_sent : (x : BoxState) (y : NewState)
      → Sends P (to_others P x (λ p. new_state (own_of x) p y)) (other_boxes P (own_of x)) (carried (new_state (own_of x) to y))
  unfolding addressed carried
  new_states_sent x y =
      each_sends
      P
      s
      (λ p. same_home P p (own_of x) && not (eqb p.0 (own_of x).0))
      (λ p. new_state (own_of x) p y)
      (carried (new_state (own_of x) to y))
      (λ p. refl)
