-- What a step sends: who gets a record, how many there are, and what every one of them must be.
-- What holds of every outcome that is not a refusal.
use Rattle.std.specs.Prelude.{Option}
use Prim.Native.Nat.{ℕ, zero, suc, ◌+◌, ◌-◌, ◌*◌, ◌≤◌, ◌<◌, min}
use mathlib.Core.Bool.{Bool, true, false}
use mathlib.Core.List.{List, [], ◌∷◌, ◌++◌}
use mathlib.Core.Logic.{◌⊎◌, inl, inr}
use mathlib.Core.Path.{◌≡◌, refl, subst}
use native.Mathlib.Omega.{arith}
use lib.ListN.{length, length-append}
use Rattle.laws.specs.Choice.{pick}
use Rattle.laws.proofs.laws.Choice.{pick_when}
use Rattle.laws.specs.Fold.{upto}
use Rattle.laws.specs.Place.{In}
use Rattle.laws.proofs.laws.Place.{in_nil, in_one, in_cases}
use Rattle.house.specs.Pairs.{box_no}
use Rattle.house.specs.declared.BoxNo.{BoxNo}
use Rattle.house.specs.declared.District.{District}
use Rattle.house.specs.Plan.{size_of, boxes_of, is_box, home_of, names}
use Rattle.house.proofs.laws.Says.{box_is, home_from, home_to}
use Rattle.house.specs.declared.Plan.{Plan}
use Rattle.records.specs.Format.{has_job}
use Rattle.records.specs.Rec.{Rec, carried, sender_of, addressee_of}
use Rattle.records.specs.Rules.{valid}
use Rattle.records.proofs.laws.Lengths.{Arrays}
use Rattle.records.specs.declared.answers.Refusal.{Refusal}
use Rattle.boxes.specs.Out.{Out, refused, does, guard, to_each}
use Rattle.boxes.specs.declared.BoxState.{BoxState}

-- ---- outcomes

-- what holds of the box and the records of every outcome that is not a refusal
pub data Every (Q : BoxState → List Rec → Type 0) : Out → Type 0 where
  no_step : {why : Refusal} → Every Q (refused why)
  a_step : {y : BoxState} {l : List Rec} {d : Option ℕ} → Q y l → Every Q (does y l d)

-- it may use the test that let the outcome through
pub every_guard : {Q : BoxState → List Rec → Type 0} (t : Bool) (why : Refusal) (o : Out) → (t ≡ true → Every Q o) → Every Q (guard t why o)
unfolding guard
every_guard true why o f = f refl
every_guard false why o f = no_step

pub every_does : {Q : BoxState → List Rec → Type 0} {o : Out} {y : BoxState} {l : List Rec} {d : Option ℕ} → Every Q o → o ≡ does y l d → Q y l
every_does {Q} {o} {y} {l} {d} e h = go (rw h at e)
  where
    go : Every Q (does y l d) → Q y l
    go (a_step q) = q

-- ---- who gets a record

-- m is the record of a box that is meant
pub record Sent (n : ℕ) (meant : BoxNo → Bool) (f : BoxNo → Rec) (m : Rec) : Type 0 where
  pub box : ℕ
  pub low : box < n
  pub is_meant : meant (box_no box) ≡ true
  pub is : m ≡ f (box_no box)

in_below : (meant : BoxNo → Bool) (f : BoxNo → Rec) (n : ℕ) {m : Rec} → In m (upto (λ l p. l ++ pick (meant (box_no p)) (f (box_no p) ∷ []) []) [] n)
    → Sent n meant f m
in_below meant f zero i = absurd (in_nil i)
in_below meant f (suc n) {m} i = go (in_cases before here i) (λ k. in_below meant f n k)
  where
    before : List Rec
    before = upto (λ l p. l ++ pick (meant (box_no p)) (f (box_no p) ∷ []) []) [] n

    here : List Rec
    here = pick (meant (box_no n)) (f (box_no n) ∷ []) []

    one : In m here → Sent (suc n) meant f m
    one =
        pick_when
        (λ l. In m l → Sent (suc n) meant f m)
        (meant (box_no n))
        (λ h k. record { box = n; low = omega arith; is_meant = h; is = in_one k })
        (λ h k. absurd (in_nil k))

    go : In m before ⊎ In m here → (In m before → Sent n meant f m) → Sent (suc n) meant f m
    go (inl k) r = let z = r k in record { box = z.box; low = omega arith; is_meant = z.is_meant; is = z.is }
    go (inr k) r = one k

pub in_each : (P : Plan) (meant : BoxNo → Bool) (f : BoxNo → Rec) {m : Rec} → In m (to_each P meant f) → Sent (boxes_of P) meant f m
unfolding to_each
in_each P meant f i = in_below meant f (boxes_of P) i

-- ---- how many

-- where only boxes from a to a + s are meant, there are at most s
below_most : (meant : BoxNo → Bool) (f : BoxNo → Rec) (a s n : ℕ) → ((p : ℕ) → p < n → meant (box_no p) ≡ true → (a ≤ p) × (p < a + s))
    → length (upto (λ l p. l ++ pick (meant (box_no p)) (f (box_no p) ∷ []) []) [] n) ≤ min (n - a) s
below_most meant f a s zero h = omega arith
below_most meant f a s (suc n) h =
    let r = below_most meant f a s n (λ p l. h p (omega arith)) in
    let k : length here + min (n - a) s ≤ min (suc n - a) s =
    pick_when (λ l. length l + min (n - a) s ≤ min (suc n - a) s) (meant (box_no n)) (λ e. let z = h n (omega arith) e in omega arith) (λ e. omega arith) in
    rw length-append (omega arith)
  where
    here : List Rec
    here = pick (meant (box_no n)) (f (box_no n) ∷ []) []

-- one to a box
pub each_most : (P : Plan) (meant : BoxNo → Bool) (f : BoxNo → Rec) → length (to_each P meant f) ≤ boxes_of P
unfolding to_each
each_most P meant f = let r = below_most meant f 0 (boxes_of P) (boxes_of P) (λ p l e. (omega arith, omega arith)) in omega arith

-- and in one district as many as it has boxes
pub home_most : (P : Plan) (meant : BoxNo → Bool) (f : BoxNo → Rec) (d : District) → ((p : BoxNo) → meant p ≡ true → home_of P p ≡ d)
    → length (to_each P meant f) ≤ size_of P
unfolding to_each
home_most P meant f d h =
    let r = below_most meant f (d.0 * size_of P) (size_of P) (boxes_of P)
    (λ p l e. (rw (h (box_no p) e) at (home_from P (box_no p)), rw (h (box_no p) e) at (home_to P (box_no p)))) in
    omega arith

-- ---- what every record must be

-- valid, from this box, and the job of a kind that has one names the addressee's district
pub record Good (P : Plan) (from : BoxNo) (m : Rec) : Type 0 where
  pub is_valid : valid P (carried m) ≡ true
  pub named : has_job (carried m).kind ≡ true → names P (carried m).job (home_of P (addressee_of m)) ≡ true
  pub by : sender_of m ≡ from
  pub sized : Arrays (carried m)

pub record AllGood (P : Plan) (from : BoxNo) (l : List Rec) : Type 0 where
  pub each : (m : Rec) → In m l → Good P from m

pub good_nil : {P : Plan} {from : BoxNo} → AllGood P from []
good_nil = record { each = λ m i. absurd (in_nil i) }

pub good_one : {P : Plan} {from : BoxNo} {m : Rec} → Good P from m → AllGood P from (m ∷ [])
good_one {P} {from} g = record { each = λ k i. rw (in_one i) g }

-- the same box under another name
pub good_by : {P : Plan} {a b : BoxNo} {l : List Rec} → a ≡ b → AllGood P a l → AllGood P b l
good_by {P} {a} {b} {l} e g = subst (λ (q : BoxNo). AllGood P q l) e g

pub good_append : {P : Plan} {from : BoxNo} {l k : List Rec} → AllGood P from l → AllGood P from k → AllGood P from (l ++ k)
good_append {P} {from} {l} {k} a b = record { each = λ m i. go m (in_cases l k i) }
  where
    go : (m : Rec) → In m l ⊎ In m k → Good P from m
    go m (inl i) = a.each m i
    go m (inr i) = b.each m i

pub good_each : {P : Plan} {from : BoxNo} (meant : BoxNo → Bool) (f : BoxNo → Rec) → ((to : BoxNo) → is_box P to ≡ true → meant to ≡ true → Good P from (f to))
    → AllGood P from (to_each P meant f)
good_each {P} meant f h =
    record { each = λ m i. let z = in_each P meant f i in rw z.is (h (box_no z.box) (box_is P (box_no z.box) z.low) z.is_meant) }
