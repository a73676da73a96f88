-- Laws of what specs/Turns.antt defines.
use Prim.Native.Nat.{ℕ, zero, suc, ◌+◌, ◌-◌, ◌≤◌, ◌<◌}
use mathlib.Core.Bool.{Bool, true}
use mathlib.Core.List.{List, [], ◌++◌}
use mathlib.Core.Path.{◌≡◌, refl, sym, ap, ◌∙◌}
use native.Mathlib.Omega.{arith}
use lib.Dec.{eqb}
use lib.ListN.{length, length-append, get_or, set}
use borrow.Author.Tests.{eq-eqb, ne_eqb}
use Rattle.laws.proofs.laws.Choice.{pick_true, pick_false, pick_both}
use Rattle.laws.proofs.laws.Fold.{upto_step}
use Rattle.laws.proofs.laws.Place.{Begins, begins_refl, begins_append, begins_trans}
use Rattle.house.specs.Limits.{no_job}
use Rattle.house.specs.Pairs.{no_row}
use Rattle.house.specs.declared.Plan.{Plan}
use Rattle.records.specs.Rec.{Rec}
use Rattle.records.specs.Bytes.{encode_all}
use Rattle.boxes.specs.Box.{row_at, put_sent}
use Rattle.boxes.specs.Ready.{Handing, next_ready, delivers, flagged, hand_next, hand_turns}
use Rattle.boxes.specs.declared.BoxState.{BoxState}
use Rattle.records.proofs.laws.Bytes.{encode_append}
use Rattle.sending.specs.Turns.{delivers_from}

-- a turn with a ready job
pub hand_more : (P : Plan) (h : Handing) (j : ℕ) → j ≡ next_ready P h.box → (j ≡ no_job → ⊥)
    → hand_next P h ≡ record { box = flagged h.box j; sent = h.sent ++ delivers P h.box j }
unfolding hand_next
hand_more P h j e n =
    rw (← e) (pick_false h (record { box = flagged h.box j; sent = h.sent ++ delivers P h.box j }) (ne_eqb j no_job n))

-- a turn with none
pub hand_none : (P : Plan) (h : Handing) → next_ready P h.box ≡ no_job → hand_next P h ≡ h
unfolding hand_next
hand_none P h e = pick_true h _ (eq-eqb (next_ready P h.box) no_job e)

pub turn_step : (P : Plan) (x : BoxState) (n : ℕ) → hand_next P (hand_turns P x n) ≡ hand_turns P x (n + 1)
unfolding hand_turns
turn_step P x n = upto_step (λ (h : Handing) (i : ℕ). hand_next P h) (record { box = x; sent = [] }) n

pub turn_none : (P : Plan) (x : BoxState) → hand_turns P x 0 ≡ record { box = x; sent = [] }
unfolding hand_turns
turn_none P x = refl

-- once no job is ready, no turn changes anything
pub turns_stay : (P : Plan) (x : BoxState) (i k : ℕ) → next_ready P (hand_turns P x i).box ≡ no_job → hand_turns P x (i + k) ≡ hand_turns P x i
turns_stay P x i zero e = ap (hand_turns P x) (omega arith)
turns_stay P x i (suc k) e =
    let s : i + suc k ≡ (i + k) + 1 = omega arith in
    ap (hand_turns P x) s ∙ sym (turn_step P x (i + k)) ∙ ap (hand_next P) (turns_stay P x i k e) ∙ hand_none P (hand_turns P x i) e

-- a later turn's records begin with an earlier one's
next_begins : (P : Plan) (h : Handing) → Begins h.sent (hand_next P h).sent
unfolding hand_next
next_begins P h =
    pick_both
    (λ (q : Handing). Begins h.sent q.sent)
    (eqb (next_ready P h.box) no_job)
    (begins_refl h.sent)
    (begins_append h.sent (delivers P h.box (next_ready P h.box)))

turns_begin : (P : Plan) (x : BoxState) (i k : ℕ) → Begins (hand_turns P x i).sent (hand_turns P x (i + k)).sent
turns_begin P x i zero = let e : i + 0 ≡ i = omega arith in rw e (begins_refl (hand_turns P x i).sent)
turns_begin P x i (suc k) =
    let s : i + suc k ≡ (i + k) + 1 = omega arith in
    rw (s, ← turn_step P x (i + k)) (begins_trans (turns_begin P x i k) (next_begins P (hand_turns P x (i + k))))

begins_bytes : (P : Plan) {l k : List Rec} → Begins l k → length (encode_all P l) ≤ length (encode_all P k)
begins_bytes P {l} b = rw (b.split, encode_append P l b.rest, length-append) (omega arith)

pub turns_fit : (P : Plan) (x : BoxState) (i n : ℕ) → i ≤ n → length (encode_all P (hand_turns P x i).sent) ≤ length (encode_all P (hand_turns P x n).sent)
turns_fit P x i n h =
    let s : i + (n - i) ≡ n = omega arith in
    rw (← ap (λ (m : ℕ). length (encode_all P (hand_turns P x m).sent)) s) (begins_bytes P (turns_begin P x i (n - i)))

-- a turn of box x, whose flags are these by now, with ready job j: what it flags and adds
pub record Turn (P : Plan) (x : BoxState) (i n : ℕ) (flags : List Bool) (j : ℕ) (more : List Rec) : Type 0 where
  pub box : put_sent x (set flags j true) ≡ (hand_turns P x (i + 1)).box
  pub bytes : encode_all P (hand_turns P x i).sent ++ encode_all P more ≡ encode_all P (hand_turns P x (i + 1)).sent
  pub count : length (encode_all P (hand_turns P x i).sent) + length (encode_all P more) ≡ length (encode_all P (hand_turns P x (i + 1)).sent)
  pub number : length (hand_turns P x i).sent + length more ≡ length (hand_turns P x (i + 1)).sent
  pub fits : length (encode_all P (hand_turns P x i).sent) + length (encode_all P more) ≤ length (encode_all P (hand_turns P x n).sent)

pub turn : (P : Plan) (x : BoxState) (i n : ℕ) (flags : List Bool) (j : ℕ)
    → put_sent x flags ≡ (hand_turns P x i).box → j ≡ next_ready P (put_sent x flags) → (j ≡ no_job → ⊥) → i < n
    → Turn P x i n flags j (delivers_from P x.core.own x.core.cballot (get_or x.core.table j no_row) j)
unfolding delivers_from delivers flagged row_at
turn P x i n flags j ec ej nj l =
    let old = (hand_turns P x i).sent in let more = delivers_from P x.core.own x.core.cballot (get_or x.core.table j no_row) j in
    let m : hand_turns P x (i + 1) ≡ record { box = put_sent x (set flags j true); sent = old ++ more } =
    sym (turn_step P x i) ∙ hand_more P (hand_turns P x i) j (rw (← ec) ej) nj
    ∙ ap (λ (y : BoxState). record { box = flagged y j; sent = old ++ delivers P y j }) (sym ec) in
    let e : encode_all P old ++ encode_all P more ≡ encode_all P (hand_turns P x (i + 1)).sent = rw m (sym (encode_append P old more)) in
    let k : length (encode_all P old) + length (encode_all P more) ≡ length (encode_all P (hand_turns P x (i + 1)).sent) =
    sym (length-append (encode_all P old) (encode_all P more)) ∙ ap length e in
    let f = turns_fit P x (i + 1) n (omega arith) in
    record { box = rw m; bytes = e; count = k; number = rw m (sym (length-append old more)); fits = omega arith }
