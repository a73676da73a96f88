-- Which answers never come in a reached world: 1 to 5 for no order, 1 to 6 for no record of the post.
-- No order answers 12 there: the post has no limit.
use Rattle.std.specs.Prelude.{Option}
use Prim.Native.Nat.{ℕ, ◌≤◌}
use mathlib.Core.Bool.{Bool, true, false}
use mathlib.Core.List.{List}
use mathlib.Core.Logic.{◌≢◌}
use mathlib.Core.Path.{◌≡◌, refl, sym, ap, subst}
use native.Mathlib.Omega.{arith}
use lib.ListN.{length}
use lib.Dec.{ltb}
use borrow.Author.Tests.{ltb-true, le-leb, eq-eqb}
use Rattle.laws.proofs.laws.Choice.{pick_both, and_left}
use Rattle.house.specs.Limits.{least_tray}
use Rattle.house.specs.declared.Ballot.{Ballot}
use Rattle.house.specs.declared.BoxNo.{BoxNo}
use Rattle.house.specs.Plan.{boxes_of, is_job, home_of, names, plan_sound}
use Rattle.house.specs.declared.Plan.{Plan}
use Rattle.records.specs.Rec.{Rec, multicast, accept, accept_ack, deliver, newleader, newleader_ack, new_state}
use Rattle.records.specs.declared.Proposal.{Proposal}
use Rattle.records.specs.declared.Handout.{Handout}
use Rattle.records.specs.declared.Ballotpaper.{Ballotpaper}
use Rattle.records.specs.declared.NewState.{NewState}
use Rattle.house.specs.declared.Order.{Order}
use Rattle.house.specs.declared.Order.TheVariants.{Post, Stand, Retry, Cut, Carry}
use Rattle.records.specs.Rec.{newstate_ack, unknown, carried, sender_of, addressee_of}
use Rattle.records.proofs.laws.Rec.{meaning_carried}
use Rattle.records.specs.Answers.{refusal_no}
use Rattle.records.specs.declared.answers.Refusal.{Refusal}
use Rattle.records.specs.declared.answers.Refusal.TheVariants.{NotSound}
use Rattle.boxes.specs.Box.{own_of, home_in}
use Rattle.boxes.specs.Sound.{sound}
use Rattle.boxes.specs.Out.{Out, refused, does, guard}
use Rattle.boxes.specs.Retry.{retry}
use Rattle.boxes.specs.Stand.{stand}
use Rattle.boxes.specs.Multicast.{on_multicast}
use Rattle.boxes.specs.Accept.{when_kept, on_accept}
use Rattle.boxes.specs.AcceptAck.{when_marked, on_accept_ack}
use Rattle.boxes.specs.Deliver.{on_deliver}
use Rattle.boxes.specs.Newleader.{on_newleader}
use Rattle.boxes.specs.NewleaderAck.{when_voted, on_newleader_ack}
use Rattle.boxes.specs.NewState.{on_new_state}
use Rattle.boxes.specs.NewstateAck.{on_newstate_ack}
use Rattle.boxes.specs.Step.{react, takes, retried, stood, cut_off}
use Rattle.boxes.proofs.laws.Answers.{under_or}
use Rattle.boxes.specs.declared.BoxState.{BoxState}
use Rattle.world.specs.World.{World, box_at, record_at, new, exists, acts, given, run}
use Rattle.records.proofs.laws.Obeys.{Obeys}
use Rattle.stays_sound.proofs.laws.Sends.{Good}
use Rattle.stays_sound.proofs.laws.Goods.{good_obeys, NamedTo, named_to}
use Rattle.world.proofs.laws.Reached.{Reached, record_good, record_box, reached}

-- ---- refusals

-- the refusals of an outcome have such numbers only
pub data Only (S : ℕ → Type 0) : Out → Type 0 where
  only_no : {why : Refusal} → S (refusal_no why) → Only S (refused why)
  only_does : {y : BoxState} {l : List Rec} {d : Option ℕ} → Only S (does y l d)

-- a test that may fail has such a number
only_test : {S : ℕ → Type 0} (t : Bool) (why : Refusal) (o : Out) → S (refusal_no why) → Only S o → Only S (guard t why o)
unfolding guard
only_test true why o s k = k
only_test false why o s k = only_no s

-- a test that holds refuses nothing
only_holds : {S : ℕ → Type 0} (t : Bool) (why : Refusal) (o : Out) → t ≡ true → Only S o → Only S (guard t why o)
unfolding guard
only_holds t why o e k = rw e k

-- behind a test its truth may be used
only_after : {S : ℕ → Type 0} (t : Bool) (why : Refusal) (o : Out) → S (refusal_no why) → (t ≡ true → Only S o) → Only S (guard t why o)
unfolding guard
only_after true why o s k = k refl
only_after false why o s k = only_no s

pub only_says : {S : ℕ → Type 0} {o : Out} {why : Refusal} → Only S o → o ≡ refused why → S (refusal_no why)
only_says {S} {o} {why} e h = go (rw h at e)
  where
    go : Only S (refused why) → S (refusal_no why)
    go (only_no s) = s

-- an answer from a to 11
pub record From (a n : ℕ) : Type 0 where
  pub low : a ≤ n
  pub high : n ≤ 11

-- ---- a record to the box that it is addressed to

module _ (P : Plan) (x : BoxState) where
  late_multicast : (j : ℕ) → names P j (home_in P x) ≡ true → Only (From 7) (on_multicast P x j)
  unfolding on_multicast
  late_multicast j n = simp under_or (only_holds _ _ _ n (only_test _ _ _ (omega arith) (only_test _ _ _ (omega arith) only_does)))

  late_accept : (from : BoxNo) (j : ℕ) (y : Proposal) → names P j (home_in P x) ≡ true → Only (From 7) (on_accept P x from j y)
  unfolding on_accept when_kept
  late_accept from j y n =
      simp under_or (only_holds _ _ _ n (only_test _ _ _ (omega arith) (only_test _ _ _ (omega arith) (pick_both (Only (From 7)) _ only_does only_does))))

  late_accept_ack : (from : BoxNo) (j : ℕ) (bs : List Ballot) → names P j (home_in P x) ≡ true → Only (From 7) (on_accept_ack P x from j bs)
  unfolding on_accept_ack when_marked
  late_accept_ack from j bs n =
      simp under_or
      (only_holds _ _ _ n
      (only_test _ _ _ (omega arith) (only_test _ _ _ (omega arith) (only_test _ _ _ (omega arith) (pick_both (Only (From 7)) _ only_does only_does)))))

  late_deliver : (j : ℕ) (y : Handout) → names P j (home_in P x) ≡ true → Only (From 7) (on_deliver P x j y)
  unfolding on_deliver
  late_deliver j y n =
      simp under_or (only_holds _ _ _ n (only_test _ _ _ (omega arith) (only_test _ _ _ (omega arith) (only_test _ _ _ (omega arith) only_does))))

  late_newleader : (from : BoxNo) (b : Ballot) → Only (From 7) (on_newleader P x from b)
  unfolding on_newleader
  late_newleader from b = simp under_or (only_test _ _ _ (omega arith) only_does)

  late_newleader_ack : (from : BoxNo) (y : Ballotpaper) → Only (From 7) (on_newleader_ack P x from y)
  unfolding on_newleader_ack when_voted
  late_newleader_ack from y =
      simp under_or
      (only_test _ _ _ (omega arith) (only_test _ _ _ (omega arith) (only_test _ _ _ (omega arith) (pick_both (Only (From 7)) _ only_does only_does))))

  late_new_state : (from : BoxNo) (y : NewState) → Only (From 7) (on_new_state x from y)
  unfolding on_new_state
  late_new_state from y = simp under_or (only_test _ _ _ (omega arith) (only_test _ _ _ (omega arith) only_does))

  late_newstate_ack : (b : Ballot) → Only (From 7) (on_newstate_ack P x b)
  unfolding on_newstate_ack
  late_newstate_ack b = simp under_or (only_test _ _ _ (omega arith) (only_test _ _ _ (omega arith) only_does))

  -- the job of kinds 1 to 4 names this box's district, so 6 does not come; a record of no kind obeys no rules, so 3 does not
  react_late : (m : Rec) → Obeys P m → NamedTo P m → addressee_of m ≡ own_of x → Only (From 7) (react P x m)
  unfolding react addressee_of carried
  react_late (multicast from to j) o n e = late_multicast j (subst (λ (q : BoxNo). names P j (home_of P q) ≡ true) e n)
  react_late (accept from to j y) o n e = late_accept from j y (subst (λ (q : BoxNo). names P j (home_of P q) ≡ true) e n)
  react_late (accept_ack from to j bs) o n e = late_accept_ack from j bs (subst (λ (q : BoxNo). names P j (home_of P q) ≡ true) e n)
  react_late (deliver from to j y) o n e = late_deliver j y (subst (λ (q : BoxNo). names P j (home_of P q) ≡ true) e n)
  react_late (newleader from to b) o n e = late_newleader from b
  react_late (newleader_ack from to y) o n e = late_newleader_ack from y
  react_late (new_state from to y) o n e = late_new_state from y
  react_late (newstate_ack from to b) o n e = late_newstate_ack b
  react_late unknown o n e = absurd o

  -- a good record to the sound box that it is addressed to
  pub takes_late : (m : Rec) → sound P x ≡ true → plan_sound P ≡ true → Good P (sender_of m) m → addressee_of m ≡ own_of x
      → Only (From 7) (takes P x least_tray (carried m))
  unfolding takes addressee_of
  takes_late m s p g e =
      only_holds _ _ _ s
      (only_holds _ _ _ (le-leb least_tray least_tray (omega arith))
      (only_holds _ _ _ g.is_valid
      (only_holds _ _ _ (eq-eqb (addressee_of m).0 (own_of x).0 (ap (λ (q : BoxNo). q.0) e))
      (rw (meaning_carried m) (react_late m (good_obeys p g) (named_to g) e)))))

  -- the orders without a record, given to a sound box
  stood_late : sound P x ≡ true → Only (From 6) (stood P x least_tray)
  unfolding stood stand
  stood_late s =
      simp under_or (only_holds _ _ _ s (only_holds _ _ _ (le-leb least_tray least_tray (omega arith)) (only_test _ _ _ (omega arith) only_does)))

  retried_late : (j : ℕ) → sound P x ≡ true → Only (From 6) (retried P x j least_tray)
  unfolding retried retry
  retried_late j s =
      simp under_or
      (only_holds _ _ _ s
      (only_holds _ _ _ (le-leb least_tray least_tray (omega arith)) (only_test _ _ _ (omega arith) (only_test _ _ _ (omega arith) only_does))))

  cut_late : sound P x ≡ true → Only (From 6) (cut_off P x)
  unfolding cut_off
  cut_late s = only_holds _ _ _ s only_does

-- ---- in a reached world

only_more : {o : Out} → Only (From 7) o → Only (From 6) o
only_more (only_no {why = why} f) = let l = f.low in let h = f.high in only_no {why = why} (omega arith)
only_more only_does = only_does

module _ {P : Plan} {w : World} (R : Reached P w) where
  carry_late : (k : ℕ) → Only (From 7) (given P w (Carry k))
  unfolding given exists acts
  carry_late k = only_holds _ _ _ R.plan (only_after _ _ _ (omega arith) go)
    where
      go : ltb k (length w.post) ≡ true → Only (From 7) (takes P (box_at w (addressee_of (record_at w k)).0) least_tray (carried (record_at w k)))
      go e =
          let l = ltb-true k (length w.post) e in let m = record_at w k in let B = R.box (addressee_of m).0 (record_box R k l) in
          takes_late P (box_at w (addressee_of m).0) m B.is_sound R.plan (record_good R k l) (sym B.own)

  given_late : (o : Order) → Only (From 6) (given P w o)
  unfolding given exists acts
  given_late (Post j) = only_holds _ _ _ R.plan (only_test _ _ _ (omega arith) only_does)
  given_late (Stand p) =
      only_holds _ _ _ R.plan (only_after _ _ _ (omega arith) (λ e. stood_late P (box_at w p) (R.box p (ltb-true p (boxes_of P) e)).is_sound))
  given_late (Retry p j) =
      only_holds _ _ _ R.plan
      (only_after
      _
      _
      _
      (omega arith)
      (λ e. retried_late P (box_at w p) j (R.box p (ltb-true p (boxes_of P) (and_left (ltb p (boxes_of P)) (is_job P j) e))).is_sound))
  given_late (Cut p) =
      only_holds _ _ _ R.plan (only_after _ _ _ (omega arith) (λ e. cut_late P (box_at w p) (R.box p (ltb-true p (boxes_of P) e)).is_sound))
  given_late (Carry k) = only_more (carry_late k)

  -- every answer of an order is 6 to 11
  pub answers : (o : Order) (why : Refusal) → given P w o ≡ refused why → From 6 (refusal_no why)
  answers o why e = only_says (given_late o) e

  -- so no order answers 1, and none 2 to 5 or 12
  pub never_one : (o : Order) → given P w o ≢ refused NotSound
  never_one o e = let f = (answers o NotSound e).low in omega arith

  -- every answer of a carry is 7 to 11
  pub carry_answers : (k : ℕ) (why : Refusal) → given P w (Carry k) ≡ refused why → From 7 (refusal_no why)
  carry_answers k why e = only_says (carry_late k) e

  -- so a record of the post is never refused as one of another plan, tray, shape, value, address or job
  pub carry_never : (k : ℕ) (why : Refusal) → given P w (Carry k) ≡ refused why
      → (refusal_no why ≢ 1) × (refusal_no why ≢ 2) × (refusal_no why ≢ 3) × (refusal_no why ≢ 4) × (refusal_no why ≢ 5) × (refusal_no why ≢ 6)
  carry_never k why e = let f = carry_answers k why e in omega arith

-- ---- under any orders

module _ (P : Plan) (sound : plan_sound P ≡ true) (os : List Order) where
  pub run_never_one : (o : Order) → given P (run P (new P) os) o ≢ refused NotSound
  run_never_one o = never_one (reached P sound os) o

  pub run_carry_never : (k : ℕ) (why : Refusal) → given P (run P (new P) os) (Carry k) ≡ refused why
      → (refusal_no why ≢ 1) × (refusal_no why ≢ 2) × (refusal_no why ≢ 3) × (refusal_no why ≢ 4) × (refusal_no why ≢ 5) × (refusal_no why ≢ 6)
  run_carry_never k why e = carry_never (reached P sound os) k why e
