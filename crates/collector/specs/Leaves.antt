-- THE THEOREM OF THE FACE: a step from a sound box leaves a sound box; each record that it wrote is read back by the reader as itself and is
-- addressed as document 01 says; all of them fit (`face`). Said of the promises of the public functions.
use Rattle.std.specs.Prelude.{ℕ, ◌≤◌, ◌<◌, true, List, ◌≡◌, length, take, Result, Ok, IfOk}
use Rattle.laws.specs.Place.{In}
use Rattle.house.specs.Pairs.{box_no}
use Rattle.house.specs.declared.BoxNo.{BoxNo}
use Rattle.house.specs.Plan.{boxes_of, office_of, home_of, names, plan_sound}
use Rattle.house.specs.declared.Plan.{Plan}
use Rattle.records.specs.Format.{has_job}
use Rattle.records.specs.Rec.{Rec, carried, sender_of, addressee_of}
use Rattle.records.specs.Bytes.{encode, encode_all}
use Rattle.records.specs.Rules.{valid}
use Rattle.records.specs.Outcome.{RecordRead}
use Rattle.records.specs.declared.answers.Refusal.{Refusal}
use Rattle.boxes.specs.Sound.{sound}
use Rattle.boxes.specs.declared.BoxState.{BoxState}
use Rattle.boxes.specs.declared.Outcome.{Outcome}
use Rattle.boxes.specs.Lengths.{Lengths}
use Rattle.sending.specs.declared.Sent as Counts
use Rattle.stays_sound.specs.Size.{longest_output}
use Rattle.collector.specs.Promises.{BoxFresh, BytesReceived, JobRetried, BoxStood, BoxCut, JobPosted}

-- record m, from this sender, goes where document 01 sends it: to a box, and in kinds 1 to 4 to one of a district that the job names
-- (kinds 4 to 8 stay in one district by the rules of a valid record)
pub record Addressed (P : Plan) (from : BoxNo) (m : Rec) : Type 0 where
  pub sender : sender_of m ≡ from
  pub addressee : (addressee_of m).0 < boxes_of P
  pub named : has_job (carried m).kind ≡ true → names P (carried m).job (home_of P (addressee_of m)) ≡ true
  pub obeys : valid P (carried m) ≡ true

-- the first `used` bytes of a tray are `count` records, one behind the other
pub record Sent (P : Plan) (from : BoxNo) (count used : ℕ) (tray : List ℕ) : Type 0 where
  pub records : List Rec
  pub all : count ≡ length records
  pub bytes : take used tray ≡ encode_all P records
  -- they fit into every tray that is not refused
  pub fit : used ≤ longest_output
  -- each is read back as itself
  pub read : (m : Rec) → In m records → RecordRead P (encode P (carried m)) (Ok (carried m))
  pub addressed : (m : Rec) → In m records → Addressed P from m

-- the box after a step: sound, with its arrays' lengths, and the same number
pub record Stays (P : Plan) (x y : BoxState) : Type 0 where
  pub is_sound : sound P y ≡ true
  pub lengths : Lengths y
  pub own : y.core.own ≡ x.core.own

-- ---- all of them

-- what a step from a sound box leaves: the box after it, and what stands in its tray
abbrev pub Leaves : Plan → BoxState → Outcome → List ℕ → Type 0
Leaves P x r after = Stays P x r.state × Sent P x.core.own r.records r.used after

pub record Face (P : Plan) : Type 0 where
  pub receive : (x : BoxState) → sound P x ≡ true → Lengths x → (bytes before : List ℕ) (r : Outcome) (after : List ℕ) → BytesReceived P x bytes before r after
      → Leaves P x r after
  pub retry : (x : BoxState) → sound P x ≡ true → Lengths x → (j : ℕ) (before : List ℕ) (r : Outcome) (after : List ℕ) → JobRetried P x j before r after
      → Leaves P x r after
  pub stand : (x : BoxState) → sound P x ≡ true → Lengths x → (before : List ℕ) (r : Outcome) (after : List ℕ) → BoxStood P x before r after
      → Leaves P x r after
  pub cut : (x : BoxState) → sound P x ≡ true → Lengths x → (r : Outcome) → BoxCut P x r → Stays P x r.state
  pub post : plan_sound P ≡ true → (j : ℕ) (before : List ℕ) (p : Result Counts.Sent Refusal) (after : List ℕ) → JobPosted P j before p after
      → IfOk p (λ s. Sent P (office_of P) s.records s.used after)
  -- and there is a box to begin with
  pub fresh : plan_sound P ≡ true → (p : ℕ) → p < boxes_of P → (x : BoxState) → BoxFresh (box_no p) x → (sound P x ≡ true) × Lengths x
