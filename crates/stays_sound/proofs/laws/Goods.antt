-- A good record of each kind: its facts, the addressee's district named, its arrays' lengths.
-- What a step must keep: the box sound, its number, good records, bytes that fit.
use Prim.Native.Nat.{ℕ, ◌*◌, ◌≤◌}
use mathlib.Core.Bool.{Bool, true}
use mathlib.Core.List.{List, [], ◌∷◌}
use mathlib.Core.Path.{◌≡◌, refl, ◌∙◌}
use native.Mathlib.Omega.{arith}
use lib.ListN.{length}
use borrow.Author.Tests.{lt-ltb}
use Rattle.laws.proofs.laws.Choice.{never}
use Rattle.laws.specs.Place.{In}
use Rattle.laws.proofs.laws.Place.{in_one}
use Rattle.house.specs.Limits.{most_districts, most_jobs}
use Rattle.house.specs.Pairs.{box_no}
use Rattle.house.specs.declared.Ballot.{Ballot}
use Rattle.house.specs.declared.BoxNo.{BoxNo}
use Rattle.house.specs.declared.District.{District}
use Rattle.house.specs.Plan.{size_of, boxes_of, is_job, home_of, names, plan_sound}
use Rattle.house.proofs.laws.Says.{boxes_most, names_job}
use Rattle.house.specs.declared.Plan.{Plan}
use Rattle.records.proofs.laws.Lengths.{Arrays}
use Rattle.records.specs.Format.{has_job, entry}
use Rattle.records.specs.Rec.{Rec, multicast, accept, accept_ack, deliver, newleader, newleader_ack, new_state}
use Rattle.records.specs.declared.Proposal.{Proposal}
use Rattle.records.specs.declared.Handout.{Handout}
use Rattle.records.specs.declared.Ballotpaper.{Ballotpaper}
use Rattle.records.specs.declared.NewState.{NewState}
use Rattle.records.specs.Rec.{newstate_ack, unknown, carried, sender_of, addressee_of}
use Rattle.records.specs.Bytes.{encode, encode_all}
use Rattle.records.specs.declared.Record.{Record}
use Rattle.records.proofs.laws.Obeys.{Obeys, MulticastOk, AcceptOk, AckOk, DeliverOk, NewleaderOk, NewleaderAckOk, NewStateOk, NewstateAckOk, valid_says}
use Rattle.records.proofs.laws.Obeys.{valid_is}
use Rattle.boxes.specs.Out.{Out, to_each}
use Rattle.boxes.specs.declared.BoxState.{BoxState}
use Rattle.stays_sound.proofs.laws.Sends.{Every, no_step, a_step, Good, AllGood, in_each, each_most, home_most, good_nil, good_by}
use Rattle.stays_sound.proofs.laws.Size.{size_of_rec, record_size, few_most, size_most}
use Rattle.stays_sound.specs.Size.{longest_output}
use Rattle.stays_sound.proofs.laws.Changes.{Fine}

-- what names a district is a job
pub named_job : (P : Plan) (j : ℕ) (d : District) → names P j d ≡ true → is_job P j ≡ true
unfolding is_job
named_job P j d n = lt-ltb j P.jobs (names_job P j d n)

sized : {r : Record} → length r.ballots ≡ most_districts → length r.stamps ≡ 2 → length r.table ≡ most_jobs → Arrays r
sized b s t = record { ballots = b; stamps = s; table = t }

good : {P : Plan} {from : BoxNo} → plan_sound P ≡ true → (m : Rec) → Obeys P m
    → (has_job (carried m).kind ≡ true → names P (carried m).job (home_of P (addressee_of m)) ≡ true) → sender_of m ≡ from
    → Arrays (carried m) → Good P from m
good {P} s m o n b z = record { is_valid = valid_is P m s o; named = n; by = b; sized = z }

module _ {P : Plan} {from to : BoxNo} (s : plan_sound P ≡ true) where
  pub good_multicast : (j : ℕ) → MulticastOk P from to j → names P j (home_of P to) ≡ true → Good P from (multicast from to j)
  unfolding sender_of addressee_of carried
  good_multicast j o n = good s (multicast from to j) o (λ h. n) refl (sized refl refl refl)

  pub good_accept : (j : ℕ) (y : Proposal) → AcceptOk P from to j y → names P j (home_of P to) ≡ true → Good P from (accept from to j y)
  unfolding sender_of addressee_of carried
  good_accept j y o n = good s (accept from to j y) o (λ h. n) refl (sized refl refl refl)

  pub good_ack : (j : ℕ) (bs : List Ballot) → AckOk P from to j bs → length bs ≡ most_districts → names P j (home_of P to) ≡ true
      → Good P from (accept_ack from to j bs)
  unfolding sender_of addressee_of carried
  good_ack j bs o l n = good s (accept_ack from to j bs) o (λ h. n) refl (sized l refl refl)

  pub good_deliver : (j : ℕ) (y : Handout) → DeliverOk P from to j y → names P j (home_of P to) ≡ true → Good P from (deliver from to j y)
  unfolding sender_of addressee_of carried
  good_deliver j y o n = good s (deliver from to j y) o (λ h. n) refl (sized refl refl refl)

  pub good_newleader : (b : Ballot) → NewleaderOk P from to b → Good P from (newleader from to b)
  unfolding sender_of addressee_of carried has_job entry
  good_newleader b o = good s (newleader from to b) o (λ h. never h refl) refl (sized refl refl refl)

  pub good_newleader_ack : (y : Ballotpaper) → NewleaderAckOk P from to y → length y.table ≡ most_jobs → Good P from (newleader_ack from to y)
  unfolding sender_of addressee_of carried has_job entry
  good_newleader_ack y o l = good s (newleader_ack from to y) o (λ h. never h refl) refl (sized refl refl l)

  pub good_new_state : (y : NewState) → NewStateOk P from to y → length y.table ≡ most_jobs → Good P from (new_state from to y)
  unfolding sender_of addressee_of carried has_job entry
  good_new_state y o l = good s (new_state from to y) o (λ h. never h refl) refl (sized refl refl l)

  pub good_newstate_ack : (b : Ballot) → NewstateAckOk P from to b → Good P from (newstate_ack from to b)
  unfolding sender_of addressee_of carried has_job entry
  good_newstate_ack b o = good s (newstate_ack from to b) o (λ h. never h refl) refl (sized refl refl refl)

-- ---- what a good record says

-- its facts by kind
pub good_obeys : {P : Plan} {from : BoxNo} {m : Rec} → plan_sound P ≡ true → Good P from m → Obeys P m
good_obeys {P} {from} {m} s g = valid_says P m s g.is_valid

-- the job of kinds 1 to 4 names the addressee's district
abbrev pub NamedTo : Plan → Rec → Type 0
NamedTo P (multicast from to j) = names P j (home_of P to) ≡ true
NamedTo P (accept from to j y) = names P j (home_of P to) ≡ true
NamedTo P (accept_ack from to j bs) = names P j (home_of P to) ≡ true
NamedTo P (deliver from to j y) = names P j (home_of P to) ≡ true
NamedTo P (newleader from to b) = Unit {0}
NamedTo P (newleader_ack from to y) = Unit {0}
NamedTo P (new_state from to y) = Unit {0}
NamedTo P (newstate_ack from to b) = Unit {0}
NamedTo P unknown = Unit {0}

pub named_to : {P : Plan} {from : BoxNo} {m : Rec} → Good P from m → NamedTo P m
unfolding addressee_of carried has_job entry
named_to {m = multicast from to j} g = g.named refl
named_to {m = accept from to j y} g = g.named refl
named_to {m = accept_ack from to j bs} g = g.named refl
named_to {m = deliver from to j y} g = g.named refl
named_to {m = newleader from to b} g = tt
named_to {m = newleader_ack from to y} g = tt
named_to {m = new_state from to y} g = tt
named_to {m = newstate_ack from to b} g = tt
named_to {m = unknown} g = tt

-- ---- what a step keeps

pub record Keeps (P : Plan) (x y : BoxState) (l : List Rec) : Type 0 where
  -- the box is sound, with its arrays' lengths
  pub fine : Fine P y
  -- it is the same box
  pub same : y.core.own ≡ x.core.own
  -- its records are valid and sent by it
  pub good : AllGood P x.core.own l
  -- together they have at most 4,032 bytes, so they fit into every tray
  pub fits : length (encode_all P l) ≤ longest_output

-- ---- bytes

-- a good record's length is its kind's
good_size : {P : Plan} {from : BoxNo} → plan_sound P ≡ true → {m : Rec} → Good P from m → length (encode P (carried m)) ≡ size_of_rec P m
good_size {P} s {m} g = record_size P m s g.sized

pub fits_none : (P : Plan) → length (encode_all P []) ≤ longest_output
unfolding encode_all
fits_none P = omega arith

-- at most n good records of at most w bytes
pub fits_few : {P : Plan} {from : BoxNo} (w n : ℕ) (l : List Rec) → plan_sound P ≡ true → AllGood P from l → length l ≤ n
    → ((m : Rec) → In m l → size_of_rec P m ≤ w)
    → length (encode_all P l) ≤ n * w
fits_few {P} w n l s G c h = few_most P w n l c (λ m i. let e = good_size s (G.each m i) in let k = h m i in omega arith)

-- to any boxes, of kinds 1 to 5 and 8
pub fits_each : {P : Plan} {from : BoxNo} (meant : BoxNo → Bool) (f : BoxNo → Rec) → plan_sound P ≡ true → AllGood P from (to_each P meant f)
    → ((to : BoxNo) → size_of_rec P (f to) ≤ 21) → length (encode_all P (to_each P meant f)) ≤ longest_output
fits_each {P} meant f s G h =
    let r = fits_few 21 (boxes_of P) (to_each P meant f) s G (each_most P meant f) (λ m i. let z = in_each P meant f i in rw z.is (h (box_no z.box))) in
    omega (arith, boxes_most P s)

-- to the boxes of one district, of any kind
pub fits_home : {P : Plan} {from : BoxNo} (meant : BoxNo → Bool) (f : BoxNo → Rec) (d : District) → plan_sound P ≡ true → AllGood P from (to_each P meant f)
    → ((p : BoxNo) → meant p ≡ true → home_of P p ≡ d) → ((to : BoxNo) → size_of_rec P (f to) ≤ 723)
    → length (encode_all P (to_each P meant f)) ≤ longest_output
fits_home {P} meant f d s G k h =
    let r = fits_few 723 (size_of P) (to_each P meant f) s G (home_most P meant f d k) (λ m i. let z = in_each P meant f i in rw z.is (h (box_no z.box))) in
    omega (arith, size_most P)

-- one, of any kind
pub fits_one : {P : Plan} {from : BoxNo} (m : Rec) → plan_sound P ≡ true → AllGood P from (m ∷ []) → size_of_rec P m ≤ 723
    → length (encode_all P (m ∷ [])) ≤ longest_output
fits_one {P} m s G h = let r = fits_few 723 1 (m ∷ []) s G (omega arith) (λ k i. rw (in_one i) h) in omega arith

-- ---- steps one behind the other

-- a step from a changed box is a step of the box
pub keeps_on : {P : Plan} {x y z : BoxState} {l : List Rec} → y.core.own ≡ x.core.own → Keeps P y z l → Keeps P x z l
keeps_on e K = record { fine = K.fine; same = K.same ∙ e; good = good_by e K.good; fits = K.fits }

-- a change without records
pub keeps_quiet : {P : Plan} {x y : BoxState} → Fine P y → y.core.own ≡ x.core.own → Keeps P x y []
keeps_quiet {P} F e = record { fine = F; same = e; good = good_nil; fits = fits_none P }

pub every_on : {P : Plan} {x y : BoxState} {o : Out} → y.core.own ≡ x.core.own → Every (Keeps P y) o → Every (Keeps P x) o
every_on e no_step = no_step
every_on e (a_step K) = a_step (keeps_on e K)
