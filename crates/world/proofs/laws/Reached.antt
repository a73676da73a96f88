-- What holds of every world that orders make of fresh boxes and an empty post, under a sound plan.
-- Each order keeps it, whatever it is and whether it is refused or not.
use Prim.Native.Nat.{ℕ, ◌≤◌, ◌<◌}
use mathlib.Core.Bool.{true}
use mathlib.Core.List.{List, [], ◌∷◌, ◌++◌}
use mathlib.Core.Logic.{◌⊎◌, inl, inr}
use mathlib.Core.Path.{◌≡◌, refl, sym, subst, ◌∙◌}
use native.Mathlib.Omega.{arith}
use lib.ListN.{length, set, length-set}
use lib.Dec.{ltb}
use borrow.Author.Tests.{ltb-true}
use Rattle.laws.proofs.laws.Choice.{and_left}
use Rattle.laws.specs.Place.{In}
use Rattle.laws.proofs.laws.Place.{in_nil, in_cases, at_get_d_lem, at_each}
use Rattle.house.specs.Limits.{least_tray}
use Rattle.house.specs.Pairs.{box_no}
use Rattle.house.specs.declared.BoxNo.{BoxNo}
use Rattle.house.specs.Plan.{boxes_of, is_job, plan_sound}
use Rattle.house.proofs.laws.Says.{some_box}
use Rattle.house.specs.declared.Plan.{Plan}
use Rattle.house.specs.declared.Order.{Order}
use Rattle.house.specs.declared.Order.TheVariants.{Post, Stand, Retry, Cut, Carry}
use Rattle.records.specs.Rec.{Rec, unknown, carried, sender_of, addressee_of}
use Rattle.records.specs.Bytes.{encode_all}
use Rattle.boxes.specs.Box.{fresh, own_of}
use Rattle.boxes.specs.Sound.{sound}
use Rattle.boxes.specs.Out.{Out, refused, does}
use Rattle.boxes.specs.declared.BoxState.{BoxState}
use Rattle.world.specs.World.{World, new, box_at, record_at, whose, exists, acts, given, finish, step, run}
use Rattle.boxes.specs.Lengths.{Lengths}
use Rattle.stays_sound.proofs.laws.Fresh.{fresh_is_sound, fresh_lengths}
use Rattle.stays_sound.proofs.laws.Sends.{Every, no_step, a_step, every_guard, Good}
use Rattle.stays_sound.proofs.laws.Goods.{Keeps}
use Rattle.stays_sound.proofs.laws.Steps.{takes_every, retried_every, stood_every, cut_off_every, posts_good, posts_fit, keeps_sound, keeps_lengths, keeps_good}
use Rattle.stays_sound.proofs.laws.Steps.{keeps_fits}
use Rattle.world.proofs.laws.Fresh.{fresh_length, fresh_at}
use Rattle.world.proofs.laws.Boxes.{good_box}

-- box p as it is in every reached world: its own number, sound, its arrays
pub record BoxOk (P : Plan) (p : ℕ) (x : BoxState) : Type 0 where
  pub own : own_of x ≡ box_no p
  pub is_sound : sound P x ≡ true
  pub lengths : Lengths x

pub record Reached (P : Plan) (w : World) : Type 0 where
  pub plan : plan_sound P ≡ true
  pub size : length w.boxes ≡ boxes_of P
  pub box : (p : ℕ) → p < boxes_of P → BoxOk P p (box_at w p)
  -- valid, with its arrays, and its job names the addressee's district
  pub good : (m : Rec) → In m w.post → Good P (sender_of m) m

-- ---- what is read off

module _ {P : Plan} {w : World} (R : Reached P w) where
  -- each record of the post is addressed to a box
  pub addressee_box : (m : Rec) → In m w.post → (addressee_of m).0 < boxes_of P
  addressee_box m i = good_box R.plan (R.good m i)

  pub record_in : (k : ℕ) → k < length w.post → In (record_at w k) w.post
  record_in k l = record { place = k; there = at_get_d_lem w.post k unknown l }

  pub record_good : (k : ℕ) → k < length w.post → Good P (sender_of (record_at w k)) (record_at w k)
  record_good k l = R.good (record_at w k) (record_in k l)

  pub record_box : (k : ℕ) → k < length w.post → (addressee_of (record_at w k)).0 < boxes_of P
  record_box k l = addressee_box (record_at w k) (record_in k l)

-- ---- fresh

pub new_reached : (P : Plan) → plan_sound P ≡ true → Reached P (new P)
unfolding new fresh
new_reached P s = record { plan = s; size = fresh_length (boxes_of P); box = λ p l. rw (fresh_at (boxes_of P) p l) (ok p l); good = λ m i. absurd (in_nil i) }
  where
    ok : (p : ℕ) → p < boxes_of P → BoxOk P p (fresh (box_no p))
    ok p l = record { own = refl; is_sound = fresh_is_sound P p s l; lengths = fresh_lengths (box_no p) }

-- ---- an order

-- what an order that is done does: one box, which stays as it must be, and good records that fit a tray
pub record Turned (P : Plan) (p : ℕ) (y : BoxState) (l : List Rec) : Type 0 where
  pub low : p < boxes_of P
  pub box : BoxOk P p y
  pub good : (m : Rec) → In m l → Good P (sender_of m) m
  pub fits : length (encode_all P l) ≤ least_tray

-- by whomever it is sent
by_sender : {P : Plan} {from : BoxNo} {m : Rec} → Good P from m → Good P (sender_of m) m
by_sender {P} {from} {m} g = subst (λ (q : BoxNo). Good P q m) (sym g.by) g

keeps_turned : {P : Plan} {p : ℕ} {x y : BoxState} {l : List Rec} → p < boxes_of P → BoxOk P p x → Keeps P x y l → Turned P p y l
keeps_turned h B K =
    record {
      low = h;
      box = record { own = K.same ∙ B.own; is_sound = keeps_sound K; lengths = keeps_lengths K };
      good = λ m i. by_sender (keeps_good K m i);
      fits = keeps_fits K;
    }

every_turned : {P : Plan} {p : ℕ} {x : BoxState} {o : Out} → p < boxes_of P → BoxOk P p x → Every (Keeps P x) o → Every (Turned P p) o
every_turned h B no_step = no_step
every_turned h B (a_step K) = a_step (keeps_turned h B K)

acts_turned : {P : Plan} {w : World} (R : Reached P w) (o : Order) → exists P w o ≡ true → Every (Turned P (whose w o)) (acts P w o)
unfolding exists acts whose
acts_turned {P} {w} R (Post j) e =
    let h = some_box P R.plan in
    a_step
    (record { low = h; box = R.box 0 h; good = λ m i. by_sender ((posts_good P j R.plan).each m i); fits = let f = posts_fit P j R.plan in omega arith })
acts_turned {P} {w} R (Stand p) e =
    let h = ltb-true p (boxes_of P) e in let B = R.box p h in
    every_turned h B (stood_every P (box_at w p) least_tray B.lengths)
acts_turned {P} {w} R (Retry p j) e =
    let h = ltb-true p (boxes_of P) (and_left (ltb p (boxes_of P)) (is_job P j) e) in let B = R.box p h in
    every_turned h B (retried_every P (box_at w p) j least_tray B.lengths)
acts_turned {P} {w} R (Cut p) e =
    let h = ltb-true p (boxes_of P) e in let B = R.box p h in
    every_turned h B (cut_off_every P (box_at w p) B.lengths)
acts_turned {P} {w} R (Carry k) e =
    let l = ltb-true k (length w.post) e in let m = record_at w k in let h = record_box R k l in let B = R.box (addressee_of m).0 h in
    every_turned h B (takes_every P (box_at w (addressee_of m).0) least_tray (carried m) B.lengths (record_good R k l).sized)

pub given_turned : {P : Plan} {w : World} (R : Reached P w) (o : Order) → Every (Turned P (whose w o)) (given P w o)
unfolding given
given_turned {P} {w} R o = every_guard _ _ _ (λ s. every_guard _ _ _ (λ e. acts_turned R o e))

-- ---- the world after it

pub turned_reached : {P : Plan} {w : World} (R : Reached P w) (p : ℕ) (y : BoxState) (l : List Rec) → Turned P p y l
    → Reached P (record { boxes = set w.boxes p y; post = w.post ++ l })
turned_reached {P} {w} R p y l T =
    let z = R.size in let h = T.low in
    record {
      plan = R.plan;
      size = length-set w.boxes p y ∙ R.size;
      box = λ q b. at_each (λ x. BoxOk P q x) w.boxes p q y (fresh (box_no 0)) (omega arith) (λ e. rw e T.box) (λ n. R.box q b);
      good = λ m i. go m (in_cases w.post l i);
    }
  where
    go : (m : Rec) → In m w.post ⊎ In m l → Good P (sender_of m) m
    go m (inl i) = R.good m i
    go m (inr i) = T.good m i

pub finish_reached : {P : Plan} {w : World} (R : Reached P w) (p : ℕ) (o : Out) → Every (Turned P p) o → Reached P (finish w p o)
finish_reached R p (refused n) e = R
finish_reached R p (does y l d) (a_step T) = turned_reached R p y l T

pub reached_step : {P : Plan} {w : World} → Reached P w → (o : Order) → Reached P (step P w o)
unfolding step
reached_step {P} {w} R o = finish_reached R (whose w o) (given P w o) (given_turned R o)

pub reached_run : {P : Plan} {w : World} → Reached P w → (os : List Order) → Reached P (run P w os)
unfolding run
reached_run {P = P} {w = w} R [] = R
reached_run {P = P} {w = w} R (o ∷ os) = reached_run {P = P} {w = step P w o} (reached_step R o) os

-- any orders, from fresh boxes and an empty post
pub reached : (P : Plan) → plan_sound P ≡ true → (os : List Order) → Reached P (run P (new P) os)
reached P s os = reached_run (new_reached P s) os
