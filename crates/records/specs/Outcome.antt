-- What the record writer and the record reader answer, for every input, and which bytes are written: their promises.
use Rattle.std.specs.Prelude.{ℕ, List, [], ◌≡◌, length, leb, Result, Ok, Err, IfOk}
use Rattle.std.specs.Result.{is_ok}
use Rattle.laws.specs.Tray.{onto}
use Rattle.house.specs.Limits.{least_tray}
use Rattle.house.specs.Plan.{plan_sound}
use Rattle.house.specs.declared.Plan.{Plan}
use Rattle.records.specs.Answers.{Answer, done, answer_no, Answered, or_no}
use Rattle.records.specs.Rec.{no_record}
use Rattle.records.specs.Rules.{valid}
use Rattle.records.specs.Bytes.{encode, shaped, parse}
use Rattle.records.specs.declared.Record.{Record}
use Rattle.records.specs.declared.answers.Refusal.{Refusal}
use Rattle.records.specs.declared.answers.Refusal.TheVariants.{NotSound, SmallTray, Unreadable, BrokenRule}

-- the first where all was done, else the second
abbrev pub if_done : {A : Type 0} → Answer → A → A → A
if_done (Ok u) a b = a
if_done (Err why) a b = b

-- ---- the writer

-- 1 for the plan, 2, and 4 for a record that breaks a rule
unfoldable pub write_answer : Plan → Record → ℕ → Answer
write_answer P r room = or_no (plan_sound P) NotSound (or_no (leb least_tray room) SmallTray (or_no (valid P r) BrokenRule done))

-- its number
unfoldable pub write_no : Plan → Record → ℕ → ℕ
write_no P r room = answer_no (write_answer P r room)

-- the bytes that are written; none with a refusal
unfoldable pub write_bytes : Plan → Record → ℕ → List ℕ
write_bytes P r room = if_done (write_answer P r room) (encode P r) []

-- THE PROMISE of the writer: its answer, how many bytes it wrote, and every byte of the tray
pub record RecordWritten (P : Plan) (r : Record) (before : List ℕ) (w : Result ℕ Refusal) (after : List ℕ) : Type 0 where
  pub answer : Answered w (is_ok (write_answer P r (length before))) (write_no P r (length before))
  pub used : IfOk w (λ n. n ≡ length (write_bytes P r (length before)))
  pub tray : after ≡ onto (write_bytes P r (length before)) before

-- ---- the reader

-- 1 for the plan, 3, 4
unfoldable pub read_answer : Plan → List ℕ → Answer
read_answer P s = or_no (plan_sound P) NotSound (or_no (shaped P s) Unreadable (or_no (valid P (parse P s)) BrokenRule done))

-- its number
unfoldable pub read_no : Plan → List ℕ → ℕ
read_no P s = answer_no (read_answer P s)

-- the record that is read; the struct that carries none with a refusal
unfoldable pub read_record : Plan → List ℕ → Record
read_record P s = if_done (read_answer P s) (parse P s) no_record

-- THE PROMISE of the reader: its answer and the record
pub record RecordRead (P : Plan) (s : List ℕ) (o : Result Record Refusal) : Type 0 where
  pub answer : Answered o (is_ok (read_answer P s)) (read_no P s)
  pub rec : IfOk o (λ r. r ≡ read_record P s)
