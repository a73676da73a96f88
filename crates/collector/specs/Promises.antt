-- THE PROMISES of a box's face, one a function: what it answers, the box after it and every byte of the tray, for every input.
-- Each contract of src/lib.rt is one of these names; that no second answer fits is said of that very name.
use Rattle.std.specs.Prelude.{ℕ, List, ◌≡◌, length, Result, IfOk}
use Rattle.std.specs.Result.{is_ok}
use Rattle.laws.specs.Tray.{onto}
use Rattle.house.specs.declared.BoxNo.{BoxNo}
use Rattle.house.specs.declared.Plan.{Plan}
use Rattle.records.specs.Answers.{Answered}
use Rattle.records.specs.declared.answers.Refusal.{Refusal}
use Rattle.records.specs.Bytes.{encode_all}
use Rattle.boxes.specs.Box.{fresh}
use Rattle.boxes.specs.Step.{receives, post_no, may_post, posted_records, retried, stood, cut_off}
use Rattle.boxes.specs.Promise.{Says, Stepped}
use Rattle.boxes.specs.declared.BoxState.{BoxState}
use Rattle.boxes.specs.declared.Outcome.{Outcome}
use Rattle.sending.specs.declared.Sent.{Sent}

-- fresh_box: follower, clock 0, everything else none
abbrev pub BoxFresh : BoxNo → BoxState → Type 0
BoxFresh own x = x ≡ fresh own

-- receive: bytes from outside
abbrev pub BytesReceived : Plan → BoxState → List ℕ → List ℕ → Outcome → List ℕ → Type 0
BytesReceived P x bytes before r after = Stepped P x (receives P x (length before) bytes) before r after

-- retry_job: a box sends the job's MULTICAST again
abbrev pub JobRetried : Plan → BoxState → ℕ → List ℕ → Outcome → List ℕ → Type 0
JobRetried P x j before r after = Stepped P x (retried P x j (length before)) before r after

-- stand_up: a box stands for leader of its district
abbrev pub BoxStood : Plan → BoxState → List ℕ → Outcome → List ℕ → Type 0
BoxStood P x before r after = Stepped P x (stood P x (length before)) before r after

-- cut_off: a box loses power; it has no tray
abbrev pub BoxCut : Plan → BoxState → Outcome → Type 0
BoxCut P x r = Says P x (cut_off P x) r

-- post_job: the office posts a job; it has no box
pub record JobPosted (P : Plan) (j : ℕ) (before : List ℕ) (p : Result Sent Refusal) (after : List ℕ) : Type 0 where
  pub answer : Answered p (is_ok (may_post P j (length before))) (post_no P j (length before))
  pub used : IfOk p (λ s. s.used ≡ length (encode_all P (posted_records P j (may_post P j (length before)))))
  pub records : IfOk p (λ s. s.records ≡ length (posted_records P j (may_post P j (length before))))
  pub tray : after ≡ onto (encode_all P (posted_records P j (may_post P j (length before)))) before
