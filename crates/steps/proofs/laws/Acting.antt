-- Laws of what specs/Acting.antt defines.
use Prim.Native.Nat.{ℕ, ◌<◌, ◌≤◌}
use mathlib.Core.Bool.{Bool, true, false, not, ◌&&◌}
use mathlib.Core.Path.{◌≡◌, refl, ◌∙◌}
use native.Mathlib.Omega.{arith}
use lib.ListN.{length}
use lib.Dec.{eqb}
use borrow.Author.Tests.{ltb-true, eq-eqb, le-leb}
use Rattle.laws.proofs.laws.Choice.{never}
use Rattle.laws.proofs.laws.Fold.{some_is}
use Rattle.house.specs.Limits.{most_jobs, least_tray}
use Rattle.house.specs.Pairs.{stamp_lt, same_ballot}
use Rattle.records.proofs.laws.Lengths.{Arrays}
use Rattle.records.specs.declared.Handout.{Handout}
use Rattle.house.specs.Plan.{is_job, is_box, home_of, names, plan_sound}
use Rattle.house.proofs.laws.Says.{plan_says, box_says, home_low}
use Rattle.house.specs.declared.Plan.{Plan}
use Rattle.house.specs.declared.BoxNo.{BoxNo}
use Rattle.records.specs.Answers.{done}
use Rattle.records.specs.declared.answers.Refusal.{Refusal}
use Rattle.records.specs.declared.answers.Refusal.TheVariants.{NotSound, SmallTray, BrokenRule, OtherBox}
use Rattle.records.specs.Bytes.{encode_all}
use Rattle.records.specs.Rec.{meaning}
use Rattle.records.specs.Rules.{valid}
use Rattle.records.specs.declared.Record.{Record}
use Rattle.records.proofs.laws.Obeys.{Told, rules_say, valid_parts}
use Rattle.boxes.specs.Box.{is_recovering, home_in, own_of, last_stamp, on_list, listed_at}
use Rattle.boxes.specs.Sound.{sound}
use Rattle.boxes.specs.Out.{Out, guard, records_of, in_order}
use Rattle.boxes.specs.Step.{react, takes}
use Rattle.boxes.specs.Deliver.{deliver_answer}
use Rattle.boxes.specs.declared.BoxState.{BoxState}
use Rattle.boxes.proofs.laws.Sound.{SoundBox, sound_says}
use Rattle.boxes.specs.Lengths.{Lengths}
use Rattle.stays_sound.proofs.laws.Sends.{Every, no_step, a_step}
use Rattle.stays_sound.proofs.laws.Listing.{list_room}
use Rattle.stays_sound.proofs.laws.Goods.{Keeps, fits_none}
use Rattle.stays_sound.proofs.laws.Steps.{takes_every}
use Rattle.steps.specs.Acting.{Acting}

-- all records of a step fit into the smallest tray
pub every_fits : {P : Plan} {x : BoxState} {o : Out} → Every (Keeps P x) o → length (encode_all P (records_of o)) ≤ least_tray
every_fits {P} no_step = let f = fits_none P in omega arith
every_fits (a_step k) = let f = k.fits in omega arith

-- a guard that lets through
pub guard_on : {t : Bool} (why : Refusal) (o : Out) → t ≡ true → guard t why o ≡ o
unfolding guard
guard_on why o e = rw e

-- the step of a record that passes the tests 1 to 5
pub takes_on : (P : Plan) (x : BoxState) (room : ℕ) (r : Record)
    → sound P x ≡ true → least_tray ≤ room → valid P r ≡ true → eqb r.to.0 (own_of x).0 ≡ true
    → takes P x room r ≡ react P x (meaning r)
unfolding takes
takes_on P x room r s h v t =
    guard_on NotSound _ s ∙ guard_on SmallTray _ (le-leb least_tray room h) ∙ guard_on BrokenRule _ v ∙ guard_on OtherBox _ t

pub acting : (P : Plan) (x : BoxState) (room : ℕ) (r : Record)
    → Lengths x → Arrays r → sound P x ≡ true → least_tray ≤ room → valid P r ≡ true → eqb r.to.0 (own_of x).0 ≡ true
    → Acting P x r room
acting P x room r L Z s h v t =
    let f = every_fits (takes_every P x room r L Z) in
    let g : length (encode_all P (records_of (react P x (meaning r)))) ≤ least_tray = rw (takes_on P x room r s h v t) at f in
    record { is_sound = s; is_valid = v; fits = omega arith }

module _ {P : Plan} {x : BoxState} {r : Record} {room : ℕ} (A : Acting P x r room) where
  -- what the two tests say
  pub box : SoundBox P x
  box = sound_says P x A.is_sound

  pub told : Told P (meaning r)
  told = rules_say P (meaning r) (valid_parts P r A.is_valid).obeys

-- a job of the plan is one of the table's
pub job_low : (P : Plan) (j : ℕ) → plan_sound P ≡ true → is_job P j ≡ true → j < 64
unfolding is_job
job_low P j s h = let l = ltb-true j P.jobs h in let m = (plan_says P s).jobs_most in omega arith

-- a box's district is one of the kept places
pub home_place : (P : Plan) (p : BoxNo) → plan_sound P ≡ true → is_box P p ≡ true → (home_of P p).0 < 4
home_place P p s h = let l = home_low P p (box_says P p h) in let m = (plan_says P s).districts_most in omega arith

-- what the answer to a DELIVER that is not refused says of the tests 6 and 9
named_new : (a b c d l : Bool) → in_order a b c (d && not l) true ≡ done → (a ≡ true) × (l ≡ false)
named_new true true true true false h = (refl, refl)
named_new true true true true true h = (cc, cc)
named_new true true true false l h = (cc, cc)
named_new true true false d l h = (cc, cc)
named_new true false c d l h = (cc, cc)
named_new false b c d l h = (cc, cc)

-- a job at a place of the list is on it
on_list_lem : (x : BoxState) (j i : ℕ) → i < x.core.count → (listed_at x i).job ≡ j → on_list x j ≡ true
unfolding on_list
on_list_lem x j i l e = some_is (λ k. eqb (listed_at x k).job j) x.core.count i l (eq-eqb (listed_at x i).job j e)

-- so a DELIVER that is not refused has room there
pub room_listed : (P : Plan) (x : BoxState) (j : ℕ) (y : Handout) → SoundBox P x → deliver_answer P x j y ≡ done → x.core.count < most_jobs
unfolding listed_at
room_listed P x j y S h =
    let ready = not (is_recovering x.core.status) in
    let n =
    named_new (names P j (home_in P x)) ready (same_ballot y.ballot x.core.cballot) (stamp_lt (last_stamp x) y.global) (on_list x j) h in
    list_room S.plan S.list n.0 (λ i l e. never (on_list_lem x j i l e) n.1)
