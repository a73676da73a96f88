-- The words of demand 3 over a rehearsal: what its boxes hold, and what the bytes of its post say, at each moment.
-- Plain definitions over the rehearsal's own turns; nothing is proved here.
use Rattle.std.specs.Prelude.{ℕ, ◌<◌, List, ◌++◌, ◌≡◌}
use Rattle.house.specs.Limits.{committed_phase}
use Rattle.house.specs.declared.Stamp.{Stamp}
use Rattle.house.specs.declared.Ballot.{Ballot}
use Rattle.house.specs.declared.BoxNo.{BoxNo}
use Rattle.house.specs.Plan.{boxes_of, home_of}
use Rattle.house.specs.declared.Plan.{Plan}
use Rattle.records.specs.Rec.{Rec, deliver}
use Rattle.records.specs.declared.Handout.{Handout}
use Rattle.house.specs.declared.Order.{Order}
use Rattle.boxes.specs.Box.{row_at}
use Rattle.boxes.specs.declared.BoxState.{BoxState}
use Rattle.post.specs.Posting.{start_of}
use Rattle.rehearsal.specs.Night.{box_in}
use Rattle.rehearsed.specs.Runs.{Stage, rehearsed, beginning, said_at}

-- the night and the post after a list of orders, from fresh boxes and a lent post of any bytes of which none is used
abbrev pub afterwards : Plan → List ℕ → List Order → Stage
afterwards P lent os = rehearsed P (beginning lent) os

abbrev pub box_on : Stage → ℕ → BoxState
box_on r p = box_in r.night p

-- record k stands in the post, and its bytes say m
pub record Says (P : Plan) (r : Stage) (k : ℕ) (m : Rec) : Type 0 where
  pub inside : start_of P r.post r.night.used k < r.night.used
  pub says : said_at P r k ≡ m

-- ---- final stamps

-- s is a final stamp of job m here: its global stamp in phase 3 at some box, or the one in a DELIVER written
pub data Shows (P : Plan) (r : Stage) (m : ℕ) (s : Stamp) : Type 0 where
  committed : (p : ℕ) → p < boxes_of P → m < P.jobs → (row_at (box_on r p) m).phase ≡ committed_phase → (row_at (box_on r p) m).global ≡ s → Shows P r m s
  written : (k : ℕ) (from to : BoxNo) (y : Handout) → Says P r k (deliver from to m y) → y.global ≡ s → Shows P r m s

-- s is a final stamp of job m at some moment of the rehearsal: after some first part of its orders
pub record FinalStamp (P : Plan) (lent : List ℕ) (os : List Order) (m : ℕ) (s : Stamp) : Type 0 where
  pub first : List Order
  pub rest : List Order
  pub split : os ≡ first ++ rest
  pub shows : Shows P (afterwards P lent first) m s

-- ---- handed out

-- record i is a DELIVER of job m with stamp s, written by box p as leader of ballot b: to whichever box
pub record HandsOut (P : Plan) (r : Stage) (i : ℕ) (p : BoxNo) (m : ℕ) (b : Ballot) (s : Stamp) : Type 0 where
  pub to : BoxNo
  pub local : Stamp
  pub there : Says P r i (deliver p to m (record { ballot = b; local = local; global = s }))

-- such a record to box q stands before record i
pub record HandedTo (P : Plan) (r : Stage) (i : ℕ) (p q : BoxNo) (m : ℕ) (b : Ballot) (s : Stamp) : Type 0 where
  pub place : ℕ
  pub before : place < i
  pub local : Stamp
  pub there : Says P r place (deliver p q m (record { ballot = b; local = local; global = s }))

-- the job has been handed out in p's district before record i: its DELIVERs to all boxes of the district are written
pub record HandedBefore (P : Plan) (r : Stage) (i : ℕ) (p : BoxNo) (m : ℕ) (b : Ballot) (s : Stamp) : Type 0 where
  pub each : (q : BoxNo) → q.0 < boxes_of P → home_of P q ≡ home_of P p → HandedTo P r i p q m b s
