-- Laws of what specs/Promises.antt defines.
use Prim.Native.Nat.{ℕ}
use mathlib.Core.List.{List}
use mathlib.Core.Path.{◌≡◌, refl, sym, ◌∙◌}
use lib.ListN.{length}
use Rattle.house.specs.declared.BoxNo.{BoxNo}
use Rattle.house.specs.declared.Plan.{Plan}
use Rattle.std.specs.Prelude.{Result, Ok, Err, IfOk}
use Rattle.records.specs.Answers.{done}
use Rattle.records.specs.declared.answers.Refusal.{Refusal}
use Rattle.records.proofs.laws.Answers.{one_result}
use Rattle.sending.specs.declared.Sent.{Sent}
use Rattle.sending.specs.Sends.{Written}
use Rattle.boxes.specs.Post.{posts}
use Rattle.laws.proofs.laws.Tray.{onto_nil}
use Rattle.records.proofs.laws.Bytes.{encode_none}
use Rattle.boxes.specs.Step.{post_no, may_post}
use Rattle.boxes.proofs.laws.Promise.{one_outcome, one_step}
use Rattle.boxes.specs.declared.BoxState.{BoxState}
use Rattle.boxes.specs.declared.Outcome.{Outcome}
use Rattle.collector.specs.Promises.{BoxFresh, BytesReceived, JobRetried, BoxStood, BoxCut, JobPosted}

-- ---- no second answer fits

pub one_fresh : (own : BoxNo) {x y : BoxState} → BoxFresh own x → BoxFresh own y → x ≡ y
one_fresh own p q = p ∙ sym q

pub one_receipt : (P : Plan) (x : BoxState) (bytes before : List ℕ) {r q : Outcome} {t u : List ℕ} → BytesReceived P x bytes before r t
    → BytesReceived P x bytes before q u
    → (r ≡ q) × (t ≡ u)
one_receipt P x bytes before p q = one_step p q

pub one_retry : (P : Plan) (x : BoxState) (j : ℕ) (before : List ℕ) {r q : Outcome} {t u : List ℕ} → JobRetried P x j before r t → JobRetried P x j before q u
    → (r ≡ q) × (t ≡ u)
one_retry P x j before p q = one_step p q

pub one_stand : (P : Plan) (x : BoxState) (before : List ℕ) {r q : Outcome} {t u : List ℕ} → BoxStood P x before r t → BoxStood P x before q u
    → (r ≡ q) × (t ≡ u)
one_stand P x before p q = one_step p q

pub one_cut : (P : Plan) (x : BoxState) {r q : Outcome} → BoxCut P x r → BoxCut P x q → r ≡ q
one_cut P x p q = one_outcome p q

pub one_post : (P : Plan) (j : ℕ) (before : List ℕ) {p q : Result Sent Refusal} {t u : List ℕ} → JobPosted P j before p t → JobPosted P j before q u
    → (p ≡ q) × (t ≡ u)
one_post P j before {p} {q} a b = (one_result _ a.answer b.answer (whole _ _ p a.used a.records) (whole _ _ q b.used b.records), a.tray ∙ sym b.tray)
  where
    whole : (n m : ℕ) (p : Result Sent Refusal) → IfOk p (λ s. s.used ≡ n) → IfOk p (λ s. s.records ≡ m) → IfOk p (λ s. s ≡ record { used = n; records = m })
    whole n m (Ok s) u r = λ i. record { used = u i; records = r i }
    whole n m (Err why) u r = tt

-- ---- a post as the code makes it

-- done
pub job_posted : {P : Plan} {j : ℕ} {before : List ℕ} {s : Sent} {after : List ℕ} → may_post P j (length before) ≡ done
    → Written P (posts P j) before s after → JobPosted P j before (Ok s) after
unfolding post_no
job_posted {P} {j} {before} e w =
    record { answer = rw e (record { done_is = refl; number = refl }); used = rw e w.used; records = rw e w.records; tray = rw e w.tray }

-- refused
pub job_refused : {P : Plan} {j : ℕ} {before : List ℕ} {why : Refusal} → may_post P j (length before) ≡ Err why → JobPosted P j before (Err why) before
unfolding post_no
job_refused {P} {j} {before} e =
    record {
      answer = rw e (record { done_is = refl; number = refl });
      used = tt;
      records = tt;
      tray = rw (e, encode_none P) (sym (onto_nil before));
    }
