-- Laws of what specs/Sends.antt defines.
use Prim.Native.Nat.{ℕ, zero, suc, ◌+◌, ◌<◌, ◌≤◌}
use mathlib.Core.Bool.{Bool, true, false}
use mathlib.Core.List.{List, [], ◌∷◌, ◌++◌, append-nil}
use mathlib.Core.Path.{◌≡◌, refl, sym, ap, ◌∙◌}
use native.Mathlib.Nat.{add-zero}
use native.Mathlib.Omega.{arith}
use lib.ListN.{length, length-append}
use Rattle.laws.specs.Choice.{pick}
use Rattle.laws.proofs.laws.Choice.{pick_true, pick_false, pick_ap}
use Rattle.laws.specs.Fold.{upto}
use Rattle.laws.proofs.laws.Fold.{upto_step}
use Rattle.laws.specs.Tray.{all_for}
use Rattle.laws.proofs.laws.Tray.{for_step, for_room}
use Rattle.house.specs.Pairs.{box_no}
use Rattle.house.specs.declared.BoxNo.{BoxNo}
use Rattle.house.specs.Marks.{has_mark, marks_of}
use Rattle.house.specs.Plan.{boxes_of, plan_sound}
use Rattle.house.proofs.laws.Quorums.{marks_pass}
use Rattle.house.proofs.laws.Says.{boxes_most}
use Rattle.house.specs.declared.Plan.{Plan}
use Rattle.records.specs.Rec.{Rec, carried}
use Rattle.records.specs.Bytes.{encode, encode_all}
use Rattle.records.proofs.laws.Bytes.{encode_append, encode_none}
use Rattle.records.specs.declared.Record.{Record}
use Rattle.boxes.specs.Out.{to_each}
use Rattle.sending.specs.Sends.{addressed, sent_to, sent_bytes, meant_below, sent_count, Sends}

pub encode_one : (P : Plan) (r : Rec) → encode_all P (r ∷ []) ≡ encode P (carried r)
unfolding encode_all
encode_one P r = append-nil (encode P (carried r))

meant_step : (m n : ℕ) → meant_below m n + pick (has_mark m (box_no n)) 1 0 ≡ meant_below m (n + 1)
unfolding meant_below
meant_step m n = upto_step (λ (k p : ℕ). k + pick (has_mark m (box_no p)) 1 0) 0 n

-- a box that is meant adds its record, another nothing
pub sent_meant : (P : Plan) (m : ℕ) (r : Record) (p : ℕ) → has_mark m (box_no p) ≡ true
    → (sent_to P m r p ≡ encode P (addressed r (box_no p))) × (meant_below m (p + 1) ≡ meant_below m p + 1)
unfolding sent_to
sent_meant P m r p e = (pick_true (encode P (addressed r (box_no p))) [] e, sym (meant_step m p) ∙ rw (pick_true {A = ℕ} 1 0 e))

pub sent_spared : (P : Plan) (m : ℕ) (r : Record) (p : ℕ) → has_mark m (box_no p) ≡ false
    → (all_for (sent_to P m r) (p + 1) ≡ all_for (sent_to P m r) p) × (meant_below m (p + 1) ≡ meant_below m p)
unfolding sent_to
sent_spared P m r p e = (
  sym (for_step (sent_to P m r) p) ∙ rw (pick_false (encode P (addressed r (box_no p))) [] e) (append-nil (all_for (sent_to P m r) p)),
  sym (meant_step m p) ∙ rw (pick_false {A = ℕ} 1 0 e) (add-zero (meant_below m p)),
)

-- a record that is r but for the box that it names becomes the same when it names another
pub addressed_same : (r q : Record) (p : BoxNo) → q ≡ addressed r q.to → addressed q p ≡ addressed r p
unfolding addressed
addressed_same r q p e = ap (λ (k : Record). addressed k p) e

-- the one copy that names each box in turn: a box that is meant gets it
pub copy_sent : (P : Plan) (m : ℕ) (r q : Record) (p : ℕ) → has_mark m (box_no p) ≡ true → q ≡ addressed r q.to
    → sent_to P m r p ≡ encode P (addressed q (box_no p))
copy_sent P m r q p e s = (sent_meant P m r p e).0 ∙ ap (encode P) (sym (addressed_same r q (box_no p) s))

-- and it fits behind what the boxes below got
pub copy_fits : (P : Plan) (m : ℕ) (r q : Record) (n p used room : ℕ) → sent_to P m r p ≡ encode P (addressed q (box_no p)) → p < n
    → used ≡ length (all_for (sent_to P m r) p) → length (all_for (sent_to P m r) n) ≤ room
    → used + length (encode P (addressed q (box_no p))) ≤ room
copy_fits P m r q n p used room e l u h = let k = for_room (sent_to P m r) n p l in rw (← e) (omega (arith, k, h, u))

-- a list made box by box is sent box by box, if each box gets the same record
module _ (P : Plan) (s : plan_sound P ≡ true) (meant : BoxNo → Bool) (f : BoxNo → Rec) (r : Record)
    (what : (p : BoxNo) → carried (f p) ≡ addressed r p) where
  made : ℕ → List Rec
  made n = upto (λ l p. l ++ pick (meant (box_no p)) (f (box_no p) ∷ []) []) [] n

  marks : ℕ
  marks = marks_of meant (boxes_of P)

  who : (p : ℕ) → p < boxes_of P → meant (box_no p) ≡ has_mark marks (box_no p)
  unfolding marks
  who p h = let few = boxes_most P s in sym (marks_pass meant (boxes_of P) p h (omega arith))

  bytes_below : (n : ℕ) → n ≤ boxes_of P → encode_all P (made n) ≡ all_for (sent_to P marks r) n
  unfolding all_for made sent_to
  bytes_below zero h = encode_none P
  bytes_below (suc n) h =
      encode_append P (made n) (pick (meant (box_no n)) (f (box_no n) ∷ []) [])
      ∙
      rw (
        bytes_below n (omega arith),
        pick_ap (encode_all P) (meant (box_no n)) (f (box_no n) ∷ []) [],
        encode_one P (f (box_no n)),
        encode_none P,
        what (box_no n),
        who n (omega arith),
      )

  count_below : (n : ℕ) → n ≤ boxes_of P → length (made n) ≡ meant_below marks n
  unfolding made meant_below
  count_below zero h = refl
  count_below (suc n) h =
      length-append (made n) (pick (meant (box_no n)) (f (box_no n) ∷ []) [])
      ∙ rw (count_below n (omega arith), pick_ap (length {A = Rec}) (meant (box_no n)) (f (box_no n) ∷ []) [], who n (omega arith))

  pub each_sends : Sends P (to_each P meant f) (marks_of meant (boxes_of P)) r
  unfolding to_each made marks sent_bytes sent_count
  each_sends = record { bytes = bytes_below (boxes_of P) (omega arith); count = count_below (boxes_of P) (omega arith) }

-- the boxes and the record of the code, if they are those of the law
pub sends_as : {P : Plan} {l : List Rec} {m m' : ℕ} {r r' : Record} → Sends P l m r → m' ≡ m → r' ≡ r → Sends P l m' r'
sends_as S e f = rw (e, f) S
