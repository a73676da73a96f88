-- Laws of what specs/Face.antt defines.
use Rattle.std.specs.Prelude.{Err, None, Result}
use Prim.Native.Nat.{ℕ, ◌≤◌}
use mathlib.Core.Bool.{Bool, true, false}
use mathlib.Core.List.{List}
use mathlib.Core.Path.{◌≡◌, refl, sym, ap, ◌∙◌}
use native.Mathlib.Omega.{arith}
use lib.ListN.{length}
use lib.Dec.{leb}
use borrow.Author.Tests.{leb-true}
use Rattle.laws.proofs.laws.Tray.{onto_nil}
use Rattle.house.specs.Limits.{least_tray}
use Rattle.house.specs.Pairs.{box_no}
use Rattle.house.specs.declared.BoxNo.{BoxNo}
use Rattle.house.specs.Plan.{boxes_of, is_job, home_of, same_home, names, plan_sound}
use Rattle.house.proofs.laws.Says.{boxes_most}
use Rattle.house.specs.declared.Plan.{Plan}
use Rattle.records.proofs.laws.Lengths.{Arrays}
use Rattle.records.specs.Answers.{or_no, Answer, done}
use Rattle.records.specs.declared.answers.Refusal.{Refusal}
use Rattle.records.specs.declared.Record.{Record}
use Rattle.records.proofs.laws.Answers.{or_no_done, no_done, no_is}
use Rattle.steps.specs.Judging.{Judging}
use Rattle.records.specs.declared.answers.Refusal.TheVariants.{NotSound, SmallTray, Unreadable, NotNamed}
use Rattle.records.specs.Bytes.{encode, encode_all, parse, shaped}
use Rattle.records.specs.Rec.{Rec, multicast, newleader, carried}
use Rattle.boxes.specs.Box.{own_of}
use Rattle.boxes.specs.Sound.{sound}
use Rattle.boxes.specs.Out.{Out, refused, does, guard, to_each, result_of, under, refusal}
use Rattle.boxes.specs.Retry.{retries, retry, retry_answer}
use Rattle.boxes.specs.Stand.{next_ballot, standing, stand, stand_answer}
use Rattle.boxes.specs.Promise.{Stepped}
use Rattle.boxes.proofs.laws.Promise.{stepped}
use Rattle.boxes.specs.Step.{takes, receives, may_post, retried, stood}
use Rattle.boxes.specs.declared.BoxState.{BoxState}
use Rattle.boxes.specs.declared.Outcome.{Outcome}
use Rattle.stays_sound.proofs.laws.Sends.{in_each, each_most}
use Rattle.stays_sound.proofs.laws.Size.{size_of_rec, record_size, few_most}
use Rattle.boxes.proofs.laws.Sound.{sound_plan}
use Rattle.boxes.proofs.laws.Answers.{retry_is, stand_is}
use Rattle.records.proofs.laws.Bytes.{encode_none}
use Rattle.collector.specs.Face.{Receiving, admission, Answering}

pub two_go : {t : Bool} (room : ℕ) → admission t room ≡ done → (t ≡ true) × (least_tray ≤ room)
two_go {t} room e =
    let p = or_no_done t NotSound (or_no (leb least_tray room) SmallTray done) e in
    (p.0, leb-true least_tray room (or_no_done (leb least_tray room) SmallTray done p.1).0)

-- the tests 1 and 2 before an order's own
abbrev first_tests : Bool → ℕ → Out → Out
first_tests t room o = guard t NotSound (guard (leb least_tray room) SmallTray o)

two_guards : (a b : Bool) (o : Out) → guard a NotSound (guard b SmallTray o) ≡ under (or_no a NotSound (or_no b SmallTray done)) o
unfolding guard
two_guards true true o = refl
two_guards true false o = refl
two_guards false b o = refl

first_is : (t : Bool) {a : Answer} (room : ℕ) (o : Out) → admission t room ≡ a → first_tests t room o ≡ under a o
first_is t room o e = two_guards t (leb least_tray room) o ∙ ap (λ (a : Answer). under a o) e

-- a refusal, as the code makes it
pub refusing : {P : Plan} {x : BoxState} {o : Out} {before : List ℕ} {r : Outcome} {why : Refusal} → r ≡ refusal x why → o ≡ refused why
    → Stepped P x o before r before
refusing {P} {x} {before = before} e v = stepped (e ∙ sym (ap (result_of P x) v)) (rw (v, encode_none P) (sym (onto_nil before)))

-- bytes that 1 or 2 refuses, and bytes that the box judges
module _ (P : Plan) (x : BoxState) (room : ℕ) (s : List ℕ) where
  pub receiving_no : {why : Refusal} → admission (sound P x) room ≡ Err why → Receiving P x s room (Err why)
  unfolding receives
  receiving_no e =
      record {
        refuse = λ w q. first_is (sound P x) room (guard (shaped P s) Unreadable (takes P x room (parse P s))) e
            ∙ ap refused (no_is q);
        go = λ r q. no_done q;
      }

  pub receiving : {a : Result Record Refusal} → admission (sound P x) room ≡ done → Judging P x s a → Receiving P x s room a
  receiving e j =
      let g = two_go room e in
      record { refuse = λ w q. j.refuse w q room g.1; go = λ r q. let k = j.go r q room g.1 in (k.0, k.1, j.taken r q) }

-- ---- orders that leave the box as it is

-- refused, or done
module _ {P : Plan} {x : BoxState} {o : Out} {l : List Rec} {room : ℕ} {a : Answer} (g : Answering P x o l room a) where
  pub answered_no : {why : Refusal} → a ≡ Err why → o ≡ refused why
  answered_no e = g.order ∙ rw e

  pub answered_done : a ≡ done → o ≡ does x l None
  answered_done e = g.order ∙ rw e

module _ (P : Plan) (x : BoxState) {room : ℕ} where
  -- refused by 1 or 2
  answering_no : (o : Out) (l : List Rec) {why : Refusal} → admission (sound P x) room ≡ Err why
      → Answering P x (first_tests (sound P x) room o) l room (Err why)
  answering_no o l e = record { order = first_is (sound P x) room o e; allowed = λ q. no_done q }

  -- not refused by them: the answer is that of its own tests
  answering : (o : Out) (l : List Rec) {a : Answer} → admission (sound P x) room ≡ done → o ≡ under a (does x l None)
      → Answering P x (first_tests (sound P x) room o) l room a
  answering o l e f = let g = two_go room e in record { order = first_is (sound P x) room o e ∙ f; allowed = λ q. (sound_plan P x g.0, g.1) }

  pub retry_no : (j : ℕ) {why : Refusal} → admission (sound P x) room ≡ Err why → Answering P x (retried P x j room) (retries P x j) room (Err why)
  unfolding retried
  retry_no j e = answering_no (retry P x j) (retries P x j) e

  pub retry_on : (j : ℕ) {a : Answer} → admission (sound P x) room ≡ done → a ≡ retry_answer P x j
      → Answering P x (retried P x j room) (retries P x j) room a
  unfolding retried
  retry_on j e d = answering (retry P x j) (retries P x j) e (retry_is P x j (sym d))

  pub stand_no : {why : Refusal} → admission (sound P x) room ≡ Err why → Answering P x (stood P x room) (standing P x) room (Err why)
  unfolding stood
  stand_no e = answering_no (stand P x) (standing P x) e

  pub stand_on : {a : Answer} → admission (sound P x) room ≡ done → a ≡ stand_answer x → Answering P x (stood P x room) (standing P x) room a
  unfolding stood
  stand_on e d = answering (stand P x) (standing P x) e (stand_is P x (sym d))

-- records of at most 21 bytes, at most one a box, fit
each_fits : (P : Plan) (meant : BoxNo → Bool) (f : BoxNo → Rec) → plan_sound P ≡ true → ((to : BoxNo) → Arrays (carried (f to)) × (size_of_rec P (f to) ≤ 21))
    → length (encode_all P (to_each P meant f)) ≤ least_tray
each_fits P meant f s h =
    let short : (to : BoxNo) → length (encode P (carried (f to))) ≤ 21 = λ to. rw (record_size P (f to) s (h to).0) (h to).1 in
    let r = few_most P 21 (boxes_of P) (to_each P meant f) (each_most P meant f) (λ m i. let z = in_each P meant f i in rw z.is (short (box_no z.box))) in
    omega (arith, r, boxes_most P s)

module _ (P : Plan) (x : BoxState) where
  pub retries_fit : (j : ℕ) → plan_sound P ≡ true → length (encode_all P (retries P x j)) ≤ least_tray
  unfolding retries carried
  retries_fit j s =
      each_fits P (λ p. names P j (home_of P p)) (λ to. multicast (own_of x) to j) s
      (λ to. (record { ballots = refl; stamps = refl; table = refl }, omega arith))

  pub standing_fits : plan_sound P ≡ true → length (encode_all P (standing P x)) ≤ least_tray
  unfolding carried
  standing_fits s =
      each_fits P (λ p. same_home P p (own_of x)) (λ to. newleader (own_of x) to (next_ballot x)) s
      (λ to. (record { ballots = refl; stamps = refl; table = refl }, omega arith))

-- ---- post

pub may_post_says : (P : Plan) (j room : ℕ) → may_post P j room ≡ done → (plan_sound P ≡ true) × (least_tray ≤ room)
unfolding may_post
may_post_says P j room e =
    let p = or_no_done (plan_sound P) NotSound (or_no (leb least_tray room) SmallTray (or_no (is_job P j) NotNamed done)) e in
    (p.0, leb-true least_tray room (or_no_done (leb least_tray room) SmallTray (or_no (is_job P j) NotNamed done) p.1).0)
