-- Each kind's and each order's step is its answer, and under it what it does; a test of an answer is a guard.
use Rattle.std.specs.Prelude.{None, Option, Some}
use Prim.Native.Nat.{ℕ}
use mathlib.Core.Bool.{Bool, true, false}
use mathlib.Core.List.{List, [], ◌∷◌}
use mathlib.Core.Path.{◌≡◌, refl}
use Rattle.house.specs.declared.Ballot.{Ballot}
use Rattle.house.specs.declared.BoxNo.{BoxNo}
use Rattle.house.specs.Plan.{home_of}
use Rattle.house.specs.declared.Plan.{Plan}
use Rattle.house.specs.Marks.{marked}
use Rattle.records.specs.Answers.{or_no, Answer}
use Rattle.records.specs.declared.answers.Refusal.{Refusal}
use Rattle.records.specs.Rec.{Rec, newstate_ack}
use Rattle.records.specs.declared.Proposal.{Proposal}
use Rattle.records.specs.declared.Handout.{Handout}
use Rattle.records.specs.declared.Ballotpaper.{Ballotpaper}
use Rattle.records.specs.declared.NewState.{NewState}
use Rattle.boxes.specs.Box.{own_of, marks_at, put_marks}
use Rattle.boxes.specs.Out.{Out, does, guard, under}
use Rattle.boxes.specs.Ready.{hand_out, handing}
use Rattle.boxes.specs.Multicast.{proposed, accepts, on_multicast, multicast_answer}
use Rattle.boxes.specs.Accept.{kept, when_kept, on_accept, accept_answer}
use Rattle.boxes.specs.AcceptAck.{when_marked, on_accept_ack, accept_ack_answer}
use Rattle.boxes.specs.Deliver.{delivered, on_deliver, deliver_answer}
use Rattle.boxes.specs.Newleader.{joined, vote_for, on_newleader, newleader_answer}
use Rattle.boxes.specs.NewleaderAck.{vote_of, when_voted, on_newleader_ack, newleader_ack_answer}
use Rattle.boxes.specs.NewState.{followed, on_new_state, new_state_answer}
use Rattle.boxes.specs.NewstateAck.{leading, on_newstate_ack, newstate_ack_answer}
use Rattle.boxes.specs.Retry.{retries, retry, retry_answer}
use Rattle.boxes.specs.Stand.{standing, stand, stand_answer}
use Rattle.boxes.specs.declared.BoxState.{BoxState}

-- a test before a step under an answer: its own number comes first
pub under_or : (t : Bool) (why : Refusal) (a : Answer) (o : Out) → under (or_no t why a) o ≡ guard t why (under a o)
unfolding guard
under_or true why a o = refl
under_or false why a o = refl

-- what is done behind a guard has passed it
pub guard_does : (t : Bool) (why : Refusal) (o : Out) {x : BoxState} {l : List Rec} {d : Option ℕ} → guard t why o ≡ does x l d → (t ≡ true) × (o ≡ does x l d)
unfolding guard
guard_does true why o e = (refl, e)
guard_does false why o e = (cc, cc)

module _ (P : Plan) (x : BoxState) where
  pub multicast_is : (j : ℕ) {a : Answer}
      → multicast_answer P x j ≡ a → on_multicast P x j ≡ under a (does (proposed P x j) (accepts P (proposed P x j) j) None)
  unfolding on_multicast
  multicast_is j e = rw (← e)

  pub accept_is : (from : BoxNo) (j : ℕ) (y : Proposal) {a : Answer}
      → accept_answer P x from j y ≡ a → on_accept P x from j y ≡ under a (when_kept P (kept x j (home_of P from) y) j)
  unfolding on_accept
  accept_is from j y e = rw (← e)

  pub accept_ack_is : (from : BoxNo) (j : ℕ) (bs : List Ballot) {a : Answer}
      → accept_ack_answer P x from j bs ≡ a → on_accept_ack P x from j bs ≡ under a (when_marked P (put_marks x j (marked (marks_at x j) from)) j)
  unfolding on_accept_ack
  accept_ack_is from j bs e = rw (← e)

  pub deliver_is : (j : ℕ) (y : Handout) {a : Answer}
      → deliver_answer P x j y ≡ a → on_deliver P x j y ≡ under a (does (delivered x j y) [] (Some j))
  unfolding on_deliver
  deliver_is j y e = rw (← e)

  pub newleader_is : (from : BoxNo) (b : Ballot) {a : Answer}
      → newleader_answer x b ≡ a → on_newleader P x from b ≡ under a (does (joined x b) (vote_for P x from b ∷ []) None)
  unfolding on_newleader
  newleader_is from b e = rw (← e)

  pub newleader_ack_is : (from : BoxNo) (y : Ballotpaper) {a : Answer}
      → newleader_ack_answer x from y.ballot ≡ a → on_newleader_ack P x from y ≡ under a (when_voted P x (vote_of from y))
  unfolding on_newleader_ack
  newleader_ack_is from y e = rw (← e)

  pub new_state_is : (from : BoxNo) (y : NewState) {a : Answer}
      → new_state_answer x y.ballot ≡ a → on_new_state x from y ≡ under a (does (followed x y) (newstate_ack (own_of x) from y.ballot ∷ []) None)
  unfolding on_new_state
  new_state_is from y e = rw (← e)

  pub newstate_ack_is : (b : Ballot) {a : Answer}
      → newstate_ack_answer x b ≡ a → on_newstate_ack P x b ≡ under a (handing (hand_out P (leading x)))
  unfolding on_newstate_ack
  newstate_ack_is b e = rw (← e)

  pub retry_is : (j : ℕ) {a : Answer} → retry_answer P x j ≡ a → retry P x j ≡ under a (does x (retries P x j) None)
  unfolding retry
  retry_is j e = rw (← e)

  pub stand_is : {a : Answer} → stand_answer x ≡ a → stand P x ≡ under a (does x (standing P x) None)
  unfolding stand
  stand_is e = rw (← e)
