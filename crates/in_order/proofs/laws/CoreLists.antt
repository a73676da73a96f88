-- A delivered list only grows: an order appends the job it delivers, and changes nothing else of a list.
-- One law for each kind and order of a box; a test changes nothing of it, so the checks are passed over.
use Rattle.records.specs.declared.answers.Refusal.{Refusal}
use Rattle.std.specs.Prelude.{None, Option}
use Prim.Native.Nat.{ℕ, ◌<◌}
use mathlib.Core.Bool.{Bool, true, false}
use mathlib.Core.List.{List, [], ◌∷◌}
use mathlib.Core.Path.{◌≡◌, refl, sym, subst, ◌∙◌}
use native.Mathlib.Omega.{arith}
use native.Mathlib.Decide.{ℕ_discrete}
use lib.ListN.{length, get_or, set, length-set}
use lib.Seq.{get_or-set_same, get_or-set_other}
use Rattle.laws.specs.Choice.{pick}
use Rattle.laws.proofs.laws.Choice.{pick_both}
use Rattle.laws.proofs.laws.Fold.{upto_keeps}
use Rattle.house.specs.Pairs.{box_no}
use Rattle.house.specs.declared.Ballot.{Ballot}
use Rattle.house.specs.declared.BoxNo.{BoxNo}
use Rattle.house.specs.declared.Plan.{Plan}
use Rattle.records.specs.Rec.{Rec, multicast, accept, accept_ack, deliver, newleader, newleader_ack, new_state}
use Rattle.records.specs.declared.Proposal.{Proposal}
use Rattle.records.specs.declared.Handout.{Handout}
use Rattle.records.specs.declared.Ballotpaper.{Ballotpaper}
use Rattle.records.specs.declared.NewState.{NewState}
use Rattle.house.specs.declared.Order.{Order}
use Rattle.house.specs.declared.Order.TheVariants.{Post, Stand, Retry, Cut, Carry}
use Rattle.records.specs.Rec.{newstate_ack, unknown, carried, meaning}
use Rattle.boxes.specs.Box.{fresh, listed_at, no_listed}
use Rattle.boxes.specs.Out.{Out, refused, does, guard}
use Rattle.boxes.specs.Ready.{Handing, flagged, hand_next, hand_turns, hand_out}
use Rattle.boxes.specs.Multicast.{proposed, on_multicast}
use Rattle.boxes.specs.Accept.{kept, accepted, when_kept, on_accept}
use Rattle.boxes.specs.AcceptAck.{committed, when_marked, on_accept_ack}
use Rattle.boxes.specs.Deliver.{delivered, on_deliver}
use Rattle.boxes.specs.Newleader.{joined, on_newleader}
use Rattle.boxes.specs.Merge.{merged}
use Rattle.boxes.specs.NewleaderAck.{when_voted, on_newleader_ack}
use Rattle.boxes.specs.NewState.{followed, on_new_state}
use Rattle.boxes.specs.NewstateAck.{leading, on_newstate_ack}
use Rattle.boxes.specs.Retry.{retry}
use Rattle.boxes.specs.Stand.{stand}
use Rattle.boxes.specs.Cut.{cut}
use Rattle.boxes.specs.Step.{react, takes, retried, stood, cut_off}
use Rattle.boxes.proofs.laws.Answers.{under_or}
use Rattle.boxes.specs.declared.BoxState.{BoxState}
use Rattle.world.specs.World.{World, box_at, record_at, whose, acts, given, finish}
use Rattle.world.specs.World.{step, run}
use Rattle.in_order.specs.Words.{SameList, Delivered, none, one, ListBegins}

-- an outcome that does something delivers fairly
pub record Fair (x : BoxState) (a : Out) : Type 0 where
  pub says : (y : BoxState) (l : List Rec) (d : Option ℕ) → a ≡ does y l d → Delivered x y d

-- ---- outcomes

-- a refusal does nothing
fair_refused : {x : BoxState} {why : Refusal} → Fair x (refused why)
fair_refused {x} {why} = record { says = λ y l d e. absurd (apart e) }
  where
    apart : {y : BoxState} {l : List Rec} {d : Option ℕ} → refused why ≡ does y l d → ⊥
    apart e = let z : ◌≡◌ {A = ℕ} 0 1 = cc in omega arith

-- the parts of an outcome
does_box : {x y : BoxState} {l k : List Rec} {d e : Option ℕ} → does x l d ≡ does y k e → x ≡ y
does_box h = cc

does_delivery : {x y : BoxState} {l k : List Rec} {d e : Option ℕ} → does x l d ≡ does y k e → d ≡ e
does_delivery h = cc

-- what is done delivers as its box shows
fair_does : {x y : BoxState} {l : List Rec} {d : Option ℕ} → Delivered x y d → Fair x (does y l d)
fair_does {x} {y} {l} {d} D =
    record { says = λ u k c e. subst (λ (v : BoxState). Delivered x v c) (does_box e) (subst (λ (v : Option ℕ). Delivered x y v) (does_delivery e) D) }

-- most steps deliver nothing
fair_same : {x y : BoxState} {l : List Rec} → SameList x y → Fair x (does y l None)
fair_same S = fair_does (none refl S)

-- a test before it, or a choice, changes nothing of that
fair_guard : {x : BoxState} (t : Bool) (why : Refusal) {a : Out} → Fair x a → Fair x (guard t why a)
unfolding guard
fair_guard true why F = F
fair_guard false why F = fair_refused

fair_pick : {x : BoxState} (t : Bool) {a b : Out} → Fair x a → Fair x b → Fair x (pick t a b)
fair_pick {x} t F G = pick_both (Fair x) t F G

-- the list of an unchanged box
same_refl : {x : BoxState} → SameList x x
same_refl = record { count = refl; list = refl }

-- handing out changes flags alone
fair_hand : (P : Plan) (x y : BoxState) → SameList x y → Fair x (does (hand_out P y).box (hand_out P y).sent None)
unfolding hand_turns hand_next flagged
fair_hand P x y S =
    fair_same (upto_keeps (λ (h : Handing). SameList x h.box) (λ h i. hand_next P h) (record { box = y; sent = [] }) P.jobs S
    (λ h i l k. pick_both (λ (g : Handing). SameList x g.box) _ k (record { count = k.count; list = k.list })))

-- ---- kinds

-- 1 MULTICAST
fair_multicast : (P : Plan) (x : BoxState) (j : ℕ) → Fair x (on_multicast P x j)
unfolding on_multicast proposed
fair_multicast P x j =
    simp under_or (fair_guard _ _ (fair_guard _ _ (fair_guard _ _ (fair_same (pick_both (SameList x) _ (record { count = refl; list = refl }) same_refl)))))

-- 2 ACCEPT
fair_accept : (P : Plan) (x : BoxState) (from : BoxNo) (j : ℕ) (y : Proposal) → Fair x (on_accept P x from j y)
unfolding on_accept when_kept accepted kept
fair_accept P x from j y =
    simp under_or
    (fair_guard _ _ (fair_guard _ _ (fair_guard _ _
    (fair_pick _ (fair_same (record { count = refl; list = refl })) (fair_same (record { count = refl; list = refl }))))))

-- 3 ACCEPT_ACK
fair_ack : (P : Plan) (x : BoxState) (from : BoxNo) (j : ℕ) (bs : List Ballot) → Fair x (on_accept_ack P x from j bs)
unfolding on_accept_ack when_marked committed
fair_ack P x from j bs =
    simp under_or
    (fair_guard _ _ (fair_guard _ _ (fair_guard _ _ (fair_guard _ _
    (fair_pick _ (fair_hand P x _ (record { count = refl; list = refl })) (fair_same (record { count = refl; list = refl })))))))

-- 4 DELIVER: the job stands behind the list
fair_deliver : (P : Plan) (x : BoxState) (j : ℕ) (y : Handout) → Fair x (on_deliver P x j y)
unfolding on_deliver delivered
fair_deliver P x j y = simp under_or (fair_guard _ _ (fair_guard _ _ (fair_guard _ _ (fair_guard _ _ (fair_does (one j y.global refl refl refl))))))

-- 5 NEWLEADER
fair_newleader : (P : Plan) (x : BoxState) (from : BoxNo) (b : Ballot) → Fair x (on_newleader P x from b)
unfolding on_newleader joined
fair_newleader P x from b = simp under_or (fair_guard _ _ (fair_same (record { count = refl; list = refl })))

-- 6 NEWLEADER_ACK
fair_vote : (P : Plan) (x : BoxState) (from : BoxNo) (y : Ballotpaper) → Fair x (on_newleader_ack P x from y)
unfolding on_newleader_ack when_voted merged
fair_vote P x from y =
    simp under_or
    (fair_guard _ _ (fair_guard _ _ (fair_guard _ _
    (fair_pick _ (fair_same (record { count = refl; list = refl })) (fair_same (record { count = refl; list = refl }))))))

-- 7 NEW_STATE
fair_state : (x : BoxState) (from : BoxNo) (y : NewState) → Fair x (on_new_state x from y)
unfolding on_new_state followed
fair_state x from y = simp under_or (fair_guard _ _ (fair_guard _ _ (fair_same (record { count = refl; list = refl }))))

-- 8 NEWSTATE_ACK
fair_lead : (P : Plan) (x : BoxState) (b : Ballot) → Fair x (on_newstate_ack P x b)
unfolding on_newstate_ack leading
fair_lead P x b = simp under_or (fair_guard _ _ (fair_guard _ _ (fair_hand P x _ (record { count = refl; list = refl }))))

-- every record
fair_react : (P : Plan) (x : BoxState) (r : Rec) → Fair x (react P x r)
unfolding react
fair_react P x (multicast from to j) = fair_multicast P x j
fair_react P x (accept from to j y) = fair_accept P x from j y
fair_react P x (accept_ack from to j bs) = fair_ack P x from j bs
fair_react P x (deliver from to j y) = fair_deliver P x j y
fair_react P x (newleader from to b) = fair_newleader P x from b
fair_react P x (newleader_ack from to y) = fair_vote P x from y
fair_react P x (new_state from to y) = fair_state x from y
fair_react P x (newstate_ack from to b) = fair_lead P x b
fair_react P x unknown = fair_refused

-- ---- orders

-- post, stand, retry, cut, carry
fair_acts : (P : Plan) (w : World) (o : Order) → Fair (box_at w (whose w o)) (acts P w o)
unfolding acts whose takes retried stood cut_off retry stand cut
fair_acts P w (Post j) = fair_same same_refl
fair_acts P w (Stand p) = simp under_or (fair_guard _ _ (fair_guard _ _ (fair_guard _ _ (fair_same same_refl))))
fair_acts P w (Retry p j) = simp under_or (fair_guard _ _ (fair_guard _ _ (fair_guard _ _ (fair_guard _ _ (fair_same same_refl)))))
fair_acts P w (Cut p) = fair_guard _ _ (fair_same (record { count = refl; list = refl }))
fair_acts P w (Carry k) = fair_guard _ _ (fair_guard _ _ (fair_guard _ _ (fair_guard _ _ (fair_react P _ (meaning (carried (record_at w k)))))))

-- every order
pub fair_given : (P : Plan) (w : World) (o : Order) → Fair (box_at w (whose w o)) (given P w o)
unfolding given
fair_given P w o = fair_guard _ _ (fair_guard _ _ (fair_acts P w o))

-- ---- worlds

-- a list begins with itself
pub list_refl : (x : BoxState) → ListBegins x x
list_refl x = record { longer = omega arith; same = λ i l. refl }

-- and with what its beginning begins with
pub list_trans : {x y z : BoxState} → ListBegins x y → ListBegins y z → ListBegins x z
list_trans a b =
    let u = a.longer in
    let v = b.longer in
    record { longer = omega arith; same = λ i l. b.same i (omega arith) ∙ a.same i l }

-- a delivery only appends
pub delivered_begins : {x y : BoxState} {d : Option ℕ} → Delivered x y d → ListBegins x y
unfolding listed_at
delivered_begins (none e S) = let c = S.count in record { longer = omega arith; same = λ i l. rw S.list }
delivered_begins {x} (one j s e c q) =
    record
    { longer = omega arith; same = λ i l. rw q (get_or-set_other x.core.list x.core.count i (record { job = j; stamp = s }) no_listed (omega arith)) }

-- an order only appends to a list
pub step_appends : (P : Plan) (w : World) (o : Order) (p : ℕ) → p < length w.boxes → ListBegins (box_at w p) (box_at (step P w o) p)
unfolding step
step_appends P w o p l = go (given P w o) (fair_given P w o)
  where
    set_box : (x : BoxState) → ListBegins (box_at w (whose w o)) x → Dec (p ≡ whose w o)
        → ListBegins (box_at w p) (get_or (set w.boxes (whose w o) x) p (fresh (box_no 0)))
    set_box x B (yes e) =
        subst (λ (q : ℕ). ListBegins (box_at w q) (get_or (set w.boxes (whose w o) x) q (fresh (box_no 0)))) (sym e)
        (rw (get_or-set_same w.boxes (whose w o) x (fresh (box_no 0)) (omega arith)) B)
    set_box x B (no n) = rw (get_or-set_other w.boxes (whose w o) p x (fresh (box_no 0)) n) (list_refl (box_at w p))

    go : (a : Out) → Fair (box_at w (whose w o)) a → ListBegins (box_at w p) (box_at (finish w (whose w o) a) p)
    go (refused n) F = list_refl (box_at w p)
    go (does x k d) F = set_box x (delivered_begins (F.says x k d refl)) (ℕ_discrete p (whose w o))

-- as many boxes as before
step_size : (P : Plan) (w : World) (o : Order) → length (step P w o).boxes ≡ length w.boxes
unfolding step
step_size P w o = go (given P w o)
  where
    go : (a : Out) → length (finish w (whose w o) a).boxes ≡ length w.boxes
    go (refused n) = refl
    go (does x k d) = simp length-set

-- and so do many
pub run_appends : (P : Plan) (w : World) (os : List Order) (p : ℕ) → p < length w.boxes → ListBegins (box_at w p) (box_at (run P w os) p)
unfolding run
run_appends P w [] p l = list_refl (box_at w p)
run_appends P w (o ∷ os) p l = list_trans (step_appends P w o p l) (run_appends P (step P w o) os p (omega (arith, step_size P w o)))
