-- A record as a struct, sent to each box that is meant, by rising box number; and the bytes of all of them.
use Rattle.std.specs.Prelude.{ℕ, ◌+◌, List, [], ◌≡◌, length}
use Rattle.laws.specs.Choice.{pick}
use Rattle.laws.specs.Fold.{upto}
use Rattle.laws.specs.Tray.{onto, all_for}
use Rattle.house.specs.Pairs.{box_no}
use Rattle.house.specs.declared.BoxNo.{BoxNo}
use Rattle.house.specs.Marks.{has_mark}
use Rattle.house.specs.Plan.{boxes_of}
use Rattle.house.specs.declared.Plan.{Plan}
use Rattle.records.specs.Rec.{Rec}
use Rattle.records.specs.Bytes.{encode, encode_all}
use Rattle.records.specs.declared.Record.{Record}
use Rattle.sending.specs.declared.Sent.{Sent}

-- the same record to another box
unfoldable pub addressed : Record → BoxNo → Record
addressed r p = record { kind = r.kind; from = r.from; to = p; job = r.job; ballots = r.ballots; stamps = r.stamps; table = r.table }

-- the bytes for box p: none if it is not among the marked ones, which are meant
unfoldable pub sent_to : Plan → ℕ → Record → ℕ → List ℕ
sent_to P meant r p = pick (has_mark meant (box_no p)) (encode P (addressed r (box_no p))) []

unfoldable pub sent_bytes : Plan → ℕ → Record → List ℕ
sent_bytes P meant r = all_for (sent_to P meant r) (boxes_of P)

-- how many of the boxes below n are meant, and of all
unfoldable pub meant_below : ℕ → ℕ → ℕ
meant_below meant n = upto (λ k p. k + pick (has_mark meant (box_no p)) 1 0) 0 n

unfoldable pub sent_count : Plan → ℕ → ℕ
sent_count P meant = meant_below meant (boxes_of P)

-- a list of records is what the struct r writes when it is sent to the boxes that are meant
pub record Sends (P : Plan) (l : List Rec) (meant : ℕ) (r : Record) : Type 0 where
  pub bytes : encode_all P l ≡ sent_bytes P meant r
  pub count : length l ≡ sent_count P meant

-- these records were written, one behind the other, and behind them the tray is as it was
pub record Written (P : Plan) (l : List Rec) (before : List ℕ) (s : Sent) (after : List ℕ) : Type 0 where
  pub used : s.used ≡ length (encode_all P l)
  pub records : s.records ≡ length l
  pub tray : after ≡ onto (encode_all P l) before
