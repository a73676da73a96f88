-- DEMAND 3, in full: what is to hold of every run of a plan, from fresh boxes, under any orders, at every moment. Its words stand in Words.
-- The post has no limit here. Orders are carried late, often or never, in any order; leaders stand against each other; cuts forget.
use Rattle.std.specs.Prelude.{ℕ, ◌<◌, true, List, ◌++◌, ◌≡◌, Option}
use Rattle.house.specs.Pairs.{stamp_lt}
use Rattle.house.specs.declared.Stamp.{Stamp}
use Rattle.house.specs.declared.Ballot.{Ballot}
use Rattle.house.specs.declared.BoxNo.{BoxNo}
use Rattle.house.specs.Plan.{boxes_of, home_of, names}
use Rattle.house.specs.declared.Plan.{Plan}
use Rattle.house.specs.declared.Order.{Order}
use Rattle.records.specs.Rec.{Rec}
use Rattle.boxes.specs.Box.{listed_at}
use Rattle.boxes.specs.Out.{does}
use Rattle.boxes.specs.declared.BoxState.{BoxState}
use Rattle.world.specs.World.{box_at, given, whose}
use Rattle.in_order.specs.Words.{after, Shows, FinalStamp, Rises, Once, SameOrder, ListBegins, Delivered, HandsOut, HandedBefore}

-- (1) a job has one final stamp: two of them, at whatever moments of a run and of whatever continues it, are equal
abbrev pub OneStamp : Plan → Type 0
OneStamp P = (os later : List Order) (m : ℕ) (s t : Stamp) → FinalStamp P os m s → FinalStamp P (os ++ later) m t → s ≡ t

-- and two jobs never share one
abbrev pub OwnStamp : Plan → Type 0
OwnStamp P = (os later : List Order) (m k : ℕ) (s : Stamp) → FinalStamp P os m s → FinalStamp P (os ++ later) k s → m ≡ k

-- (2) each box delivers by rising stamp: its list rises at every moment,
abbrev pub ListRises : Plan → Type 0
ListRises P = (os : List Order) (p : ℕ) → p < boxes_of P → Rises (box_at (after P os) p)

-- a job stands on it once,
abbrev pub ListOnce : Plan → Type 0
ListOnce P = (os : List Order) (p : ℕ) → p < boxes_of P → Once (box_at (after P os) p)

-- with its final stamp, which shows at that moment,
abbrev pub ListFinal : Plan → Type 0
ListFinal P = (os : List Order) (p i : ℕ) → p < boxes_of P → i < (box_at (after P os) p).core.count
    → Shows P (after P os) (listed_at (box_at (after P os) p) i).job (listed_at (box_at (after P os) p) i).stamp

-- later orders only append to it,
abbrev pub ListGrows : Plan → Type 0
ListGrows P = (os later : List Order) (p : ℕ) → p < boxes_of P → ListBegins (box_at (after P os) p) (box_at (after P (os ++ later)) p)

-- and what an order delivers is what the list of its box gets
abbrev pub ListDelivers : Plan → Type 0
ListDelivers P = (os : List Order) (o : Order) (y : BoxState) (l : List Rec) (d : Option ℕ) → given P (after P os) o ≡ does y l d
    → Delivered (box_at (after P os) (whose (after P os) o)) y d

-- (3) when a leader p hands out job m with stamp s, to whichever box first, then every job k that names p's district and that ever gets a
-- final stamp t below s has been handed out in the district before, with that stamp: to all its boxes, by the same leader, in the same ballot
abbrev pub HandsInOrder : Plan → Type 0
HandsInOrder P =
    (os later : List Order) (i m k : ℕ) (p : BoxNo) (b : Ballot) (s t : Stamp) → HandsOut (after P os).post i p m b s → names P k (home_of P p) ≡ true
    → FinalStamp P (os ++ later) k t → stamp_lt t s ≡ true → HandedBefore P (after P os).post i p k b t

pub record Demand3 (P : Plan) : Type 0 where
  pub one_stamp : OneStamp P
  pub own_stamp : OwnStamp P
  pub list_rises : ListRises P
  pub list_once : ListOnce P
  pub list_final : ListFinal P
  pub list_grows : ListGrows P
  pub list_delivers : ListDelivers P
  pub handed_before : HandsInOrder P

-- ---- the regulator's sentence, which follows from the statements above

-- any two boxes, of whatever districts, at whatever two moments of a run, have the jobs that they both have in one order
abbrev pub OneOrder : Plan → Type 0
OneOrder P = (first rest second more : List Order) (p q : ℕ) → first ++ rest ≡ second ++ more → p < boxes_of P → q < boxes_of P
    → SameOrder (box_at (after P first) p) (box_at (after P second) q)
