-- DEMAND 3 of a rehearsal: any orders, any lent post, at every moment, over the boxes and the post's bytes. Its words stand in Words.
-- The statements are those of the room in_order; nothing is proved here.
use Rattle.std.specs.Prelude.{ℕ, ◌<◌, true, List, ◌++◌, ◌≡◌, Option}
use Rattle.house.specs.Pairs.{stamp_lt}
use Rattle.house.specs.declared.Stamp.{Stamp}
use Rattle.house.specs.declared.Ballot.{Ballot}
use Rattle.house.specs.declared.BoxNo.{BoxNo}
use Rattle.house.specs.Plan.{boxes_of, home_of, names}
use Rattle.house.specs.declared.Plan.{Plan}
use Rattle.house.specs.declared.Order.{Order}
use Rattle.records.specs.Rec.{Rec}
use Rattle.boxes.specs.Box.{listed_at}
use Rattle.boxes.specs.Out.{does}
use Rattle.boxes.specs.declared.BoxState.{BoxState}
use Rattle.in_order.specs.Words.{Rises, Once, SameOrder, ListBegins, Delivered}
use Rattle.rehearsal.specs.Night.{whose}
use Rattle.rehearsed.specs.Runs.{answered}
use Rattle.rehearsed.specs.Words.{afterwards, box_on, Shows, FinalStamp, HandsOut, HandedBefore}

pub record Demand3 (P : Plan) (lent : List ℕ) : Type 0 where
  -- (1) a job has one final stamp: two of them, at whatever moments of a rehearsal and of whatever continues it, are equal
  pub one_stamp : (os later : List Order) (m : ℕ) (s t : Stamp) → FinalStamp P lent os m s → FinalStamp P lent (os ++ later) m t → s ≡ t
  -- and two jobs never share one
  pub own_stamp : (os later : List Order) (m k : ℕ) (s : Stamp) → FinalStamp P lent os m s → FinalStamp P lent (os ++ later) k s → m ≡ k
  -- (2) each box delivers by rising stamp: its list rises at every moment,
  pub list_rises : (os : List Order) (p : ℕ) → p < boxes_of P → Rises (box_on (afterwards P lent os) p)
  -- a job stands on it once,
  pub list_once : (os : List Order) (p : ℕ) → p < boxes_of P → Once (box_on (afterwards P lent os) p)
  -- with its final stamp, which shows at that moment,
  pub list_final : (os : List Order) (p i : ℕ) → p < boxes_of P → i < (box_on (afterwards P lent os) p).core.count
      → Shows P (afterwards P lent os) (listed_at (box_on (afterwards P lent os) p) i).job (listed_at (box_on (afterwards P lent os) p) i).stamp
  -- later orders only append to it,
  pub list_grows : (os later : List Order) (p : ℕ) → p < boxes_of P → ListBegins (box_on (afterwards P lent os) p) (box_on (afterwards P lent (os ++ later)) p)
  -- and what an order delivers is what the list of its box gets
  pub list_delivers : (os : List Order) (o : Order) (y : BoxState) (l : List Rec) (d : Option ℕ) → answered P (afterwards P lent os) o ≡ does y l d
      → Delivered (box_on (afterwards P lent os) (whose P (afterwards P lent os).night (afterwards P lent os).post o)) y d
  -- (3) when a leader p hands out job m with stamp s, to whichever box first, then every job k that names p's district and that ever gets a
  -- final stamp t below s has been handed out in the district before, with that stamp: to all its boxes, by the same leader, in the same ballot
  pub handed_before : (os later : List Order) (i m k : ℕ) (p : BoxNo) (b : Ballot) (s t : Stamp) → HandsOut P (afterwards P lent os) i p m b s
      → names P k (home_of P p) ≡ true
      → FinalStamp P lent (os ++ later) k t → stamp_lt t s ≡ true → HandedBefore P (afterwards P lent os) i p k b t

-- the regulator's sentence: any two boxes, of whatever districts, at whatever two moments of a rehearsal, have the jobs that they both have in one order
abbrev pub OneOrder : Plan → List ℕ → Type 0
OneOrder P lent = (first rest second more : List Order) (p q : ℕ) → first ++ rest ≡ second ++ more → p < boxes_of P → q < boxes_of P
    → SameOrder (box_on (afterwards P lent first) p) (box_on (afterwards P lent second) q)
