-- Laws of what specs/Outcome.antt defines.
use Rattle.std.specs.Prelude.{ℕ, true, List, ◌≤◌, ◌≡◌, refl, length, leb, Result, Ok, Err, IfOk}
use Rattle.std.proofs.Common.{sym, ap, ◌∙◌}
use borrow.Author.Tests.{leb-true, le-leb}
use Rattle.laws.specs.Tray.{onto}
use Rattle.house.specs.Limits.{least_tray}
use Rattle.house.specs.Plan.{plan_sound}
use Rattle.house.specs.declared.Plan.{Plan}
use Rattle.records.specs.declared.answers.Refusal.{Refusal}
use Rattle.records.specs.declared.answers.Refusal.TheVariants.{NotSound, SmallTray, Unreadable, BrokenRule}
use Rattle.std.specs.Result.{is_ok}
use Rattle.records.specs.Answers.{Answer, done, answer_no, Answered}
use Rattle.records.proofs.laws.Answers.{one_result, or_no_done, no_done, no_is}
use Rattle.records.specs.Rules.{valid}
use Rattle.records.specs.Bytes.{encode, shaped, parse}
use Rattle.records.specs.declared.Record.{Record}
use Rattle.records.specs.Outcome.{write_no, write_answer, write_bytes, RecordWritten, read_no, read_answer, read_record, RecordRead}

-- the value, where all was done
abbrev pub with_value : {T : Type 0} → T → Answer → Result T Refusal
with_value v (Ok u) = Ok v
with_value v (Err why) = Err why

with_answered : {T : Type 0} (v : T) (a : Answer) → Answered (with_value v a) (is_ok a) (answer_no a) × IfOk (with_value v a) (λ w. w ≡ v)
with_answered v (Ok u) = (record { done_is = refl; number = refl }, refl)
with_answered v (Err why) = (record { done_is = refl; number = refl }, tt)

unfoldable pub writes : Plan → Record → ℕ → Result ℕ Refusal
writes P r room = with_value (length (write_bytes P r room)) (write_answer P r room)

pub write_promised : {P : Plan} {r : Record} {before : List ℕ} {w : Result ℕ Refusal} {after : List ℕ} → w ≡ writes P r (length before)
    → after ≡ onto (write_bytes P r (length before)) before → RecordWritten P r before w after
unfolding writes write_no
write_promised {P} {r} {before} e f =
    let p = with_answered (length (write_bytes P r (length before))) (write_answer P r (length before)) in
    record { answer = rw e p.0; used = rw e p.1; tray = f }

-- no second answer fits it, and no second tray
pub one_writing : {P : Plan} {r : Record} {before : List ℕ} {v w : Result ℕ Refusal} {t u : List ℕ} → RecordWritten P r before v t
    → RecordWritten P r before w u → (v ≡ w) × (t ≡ u)
one_writing p q = (one_result _ p.answer q.answer p.used q.used, p.tray ∙ sym q.tray)

unfoldable pub reads : Plan → List ℕ → Result Record Refusal
reads P s = with_value (read_record P s) (read_answer P s)

pub read_promised : {P : Plan} {s : List ℕ} {o : Result Record Refusal} → o ≡ reads P s → RecordRead P s o
unfolding reads read_no
read_promised {P} {s} e = let p = with_answered (read_record P s) (read_answer P s) in record { answer = rw e p.0; rec = rw e p.1 }

-- no second answer fits it
pub one_reading : {P : Plan} {s : List ℕ} {o q : Result Record Refusal} → RecordRead P s o → RecordRead P s q → o ≡ q
one_reading p q = one_result _ p.answer q.answer p.rec q.rec

pub read_is_promised : {P : Plan} {s : List ℕ} {o : Result Record Refusal} → RecordRead P s o → o ≡ reads P s
read_is_promised p = one_reading p (read_promised refl)

-- ---- what 'done' says of each test

pub write_says : (P : Plan) (r : Record) (room : ℕ) → write_answer P r room ≡ done → (plan_sound P ≡ true) × (least_tray ≤ room) × (valid P r ≡ true)
unfolding write_answer
write_says P r room e =
    let p = or_no_done (plan_sound P) NotSound _ e in
    let q = or_no_done (leb least_tray room) SmallTray _ p.1 in
    (p.0, leb-true least_tray room q.0, (or_no_done (valid P r) BrokenRule _ q.1).0)

pub write_is : (P : Plan) (r : Record) (room : ℕ) → plan_sound P ≡ true → least_tray ≤ room → valid P r ≡ true → write_answer P r room ≡ done
unfolding write_answer
write_is P r room p h v = rw (p, le-leb least_tray room h, v)

pub read_says : (P : Plan) (s : List ℕ) → read_answer P s ≡ done → (plan_sound P ≡ true) × (shaped P s ≡ true) × (valid P (parse P s) ≡ true)
unfolding read_answer
read_says P s e =
    let p = or_no_done (plan_sound P) NotSound _ e in
    let q = or_no_done (shaped P s) Unreadable _ p.1 in
    (p.0, q.0, (or_no_done (valid P (parse P s)) BrokenRule _ q.1).0)

pub read_is : (P : Plan) (s : List ℕ) → plan_sound P ≡ true → shaped P s ≡ true → valid P (parse P s) ≡ true → read_answer P s ≡ done
unfolding read_answer
read_is P s p h v = rw (p, h, v)

-- ---- what was written, and what was read

with_value_is : {T : Type 0} (v w : T) (a : Answer) → with_value v a ≡ Ok w → (a ≡ done) × (v ≡ w)
with_value_is v w (Ok u) e = (refl, cc)
with_value_is v w (Err why) e = cc

pub was_written : (P : Plan) (r : Record) (room : ℕ) {n : ℕ} → writes P r room ≡ Ok n → (write_answer P r room ≡ done) × (n ≡ length (encode P r))
unfolding writes write_bytes
was_written P r room e =
    let w = with_value_is (length (write_bytes P r room)) _ (write_answer P r room) e in (w.0, sym w.1 ∙ rw w.0)

pub was_read : (P : Plan) (s : List ℕ) {r : Record} → reads P s ≡ Ok r → (read_answer P s ≡ done) × (r ≡ parse P s)
unfolding reads read_record
was_read P s e = let w = with_value_is (read_record P s) _ (read_answer P s) e in (w.0, sym w.1 ∙ rw w.0)

with_value_no : {T : Type 0} (v : T) (why : Refusal) (a : Answer) → with_value v a ≡ Err why → a ≡ Err why
with_value_no v why (Ok u) e = no_done (sym e)
with_value_no v why (Err w) e = ap Err (no_is e)

pub was_unread : (P : Plan) (s : List ℕ) {why : Refusal} → reads P s ≡ Err why → read_answer P s ≡ Err why
unfolding reads
was_unread P s {why} e = with_value_no (read_record P s) why (read_answer P s) e
