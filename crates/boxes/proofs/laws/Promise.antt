-- Laws of what specs/Promise.antt defines.
use Rattle.std.specs.Prelude.{None, Option, Some}
use Prim.Native.Nat.{ℕ}
use mathlib.Core.List.{List}
use mathlib.Core.Path.{◌≡◌, refl, sym, ap, ◌∙◌}
use Rattle.laws.specs.Tray.{onto}
use Rattle.house.specs.declared.Plan.{Plan}
use Rattle.records.proofs.laws.Answers.{one_answer}
use Rattle.records.specs.Bytes.{encode_all}
use Rattle.boxes.specs.Out.{Out, refused, does, jobs_in, records_of, result_of}
use Rattle.boxes.specs.declared.BoxState.{BoxState}
use Rattle.boxes.specs.declared.Outcome.{Outcome}
use Rattle.boxes.specs.Promise.{Says, Stepped}

-- ---- no second outcome fits

one_delivery : (d e : Option ℕ) → jobs_in d ≡ jobs_in e → d ≡ e
one_delivery None None h = refl
one_delivery None (Some k) h = cc
one_delivery (Some j) None h = cc
one_delivery (Some j) (Some k) h = let e : j ≡ k = cc in ap Some e

pub one_outcome : {P : Plan} {x : BoxState} {o : Out} {r q : Outcome} → Says P x o r → Says P x o q → r ≡ q
one_outcome {r = r} {q} p s =
    let a = one_answer p.answer s.answer in
    let u = p.used ∙ sym s.used in
    let n = p.records ∙ sym s.records in
    let y = p.state ∙ sym s.state in
    let d = one_delivery r.delivery q.delivery (p.delivered ∙ sym s.delivered) in
    λ i. record { answer = a i; used = u i; records = n i; state = y i; delivery = d i }

pub one_step : {P : Plan} {x : BoxState} {o : Out} {before : List ℕ} {r q : Outcome} {t u : List ℕ} → Stepped P x o before r t → Stepped P x o before q u
    → (r ≡ q) × (t ≡ u)
one_step p s = (one_outcome p.says s.says, p.tray ∙ sym s.tray)

-- ---- the outcome as the code makes it

pub result_says : (P : Plan) (x : BoxState) (o : Out) → Says P x o (result_of P x o)
unfolding encode_all
result_says P x (refused n) = record { answer = record { done_is = refl; number = refl }; used = refl; records = refl; state = refl; delivered = refl }
result_says P x (does y l d) = record { answer = record { done_is = refl; number = refl }; used = refl; records = refl; state = refl; delivered = refl }

pub says_result : {P : Plan} {x : BoxState} {o : Out} {r : Outcome} → r ≡ result_of P x o → Says P x o r
says_result {P} {x} {o} e = rw e (result_says P x o)

pub stepped : {P : Plan} {x : BoxState} {o : Out} {before : List ℕ} {r : Outcome} {after : List ℕ} → r ≡ result_of P x o
    → after ≡ onto (encode_all P (records_of o)) before
    → Stepped P x o before r after
stepped e f = record { says = says_result e; tray = f }

-- the promise says the outcome
pub result_is : {P : Plan} {x : BoxState} {o : Out} {r : Outcome} → Says P x o r → r ≡ result_of P x o
result_is {P} {x} {o} p = one_outcome p (result_says P x o)
