-- The words of demand 3: a run, a final stamp, a delivered list, a job handed out (document 01, 'Orders', last paragraph).
-- Plain definitions over the steps of demand 2; nothing is proved here.
use Rattle.std.specs.Prelude.{ℕ, ◌+◌, ◌≤◌, ◌<◌, true, List, ◌++◌, ◌≡◌, set, None, Option, Some}
use Rattle.laws.specs.Place.{At, In}
use Rattle.house.specs.Limits.{committed_phase}
use Rattle.house.specs.Pairs.{stamp_lt}
use Rattle.house.specs.declared.Stamp.{Stamp}
use Rattle.house.specs.declared.Ballot.{Ballot}
use Rattle.house.specs.declared.BoxNo.{BoxNo}
use Rattle.house.specs.Plan.{boxes_of, home_of}
use Rattle.house.specs.declared.Plan.{Plan}
use Rattle.records.specs.Rec.{Rec, deliver}
use Rattle.records.specs.declared.Handout.{Handout}
use Rattle.house.specs.declared.Order.{Order}
use Rattle.boxes.specs.Box.{row_at, listed_at}
use Rattle.boxes.specs.declared.BoxState.{BoxState}
use Rattle.world.specs.World.{World, box_at, new, run}

-- the world after a list of orders, from fresh boxes and an empty post
abbrev pub after : Plan → List Order → World
after P os = run P (new P) os

-- ---- final stamps

-- in this world s is a final stamp of job m: its global stamp in phase 3 at some box, or the one in a DELIVER written
pub data Shows (P : Plan) (w : World) (m : ℕ) (s : Stamp) : Type 0 where
  committed : (p : ℕ) → p < boxes_of P → m < P.jobs → (row_at (box_at w p) m).phase ≡ committed_phase → (row_at (box_at w p) m).global ≡ s → Shows P w m s
  written : (from to : BoxNo) (y : Handout) → In (deliver from to m y) w.post → y.global ≡ s → Shows P w m s

-- s is a final stamp of job m at some moment of the run: after some first part of its orders
pub record FinalStamp (P : Plan) (os : List Order) (m : ℕ) (s : Stamp) : Type 0 where
  pub first : List Order
  pub rest : List Order
  pub split : os ≡ first ++ rest
  pub shows : Shows P (after P first) m s

-- ---- delivered lists

-- each stamp of the list is below every later one
pub record Rises (x : BoxState) : Type 0 where
  pub says : (k i : ℕ) → k < i → i < x.core.count → stamp_lt (listed_at x k).stamp (listed_at x i).stamp ≡ true

-- each job of the list stands there once
pub record Once (x : BoxState) : Type 0 where
  pub says : (k i : ℕ) → k < x.core.count → i < x.core.count → (listed_at x k).job ≡ (listed_at x i).job → k ≡ i

-- x and y have the jobs that they both have in one order: a job that stands before another on the list of x stands before it on that of y
pub record SameOrder (x y : BoxState) : Type 0 where
  pub says : (i j k n : ℕ) → i < j → j < x.core.count → k < y.core.count → n < y.core.count
      → (listed_at x i).job ≡ (listed_at y k).job → (listed_at x j).job ≡ (listed_at y n).job → k < n

-- the list of y begins with that of x
pub record ListBegins (x y : BoxState) : Type 0 where
  pub longer : x.core.count ≤ y.core.count
  pub same : (i : ℕ) → i < x.core.count → listed_at y i ≡ listed_at x i

-- the list of y is that of x
pub record SameList (x y : BoxState) : Type 0 where
  pub count : y.core.count ≡ x.core.count
  pub list : y.core.list ≡ x.core.list

-- what a step from x to y delivers: nothing, and the list is as it was; or job j, which is added to the list with a stamp
pub data Delivered (x y : BoxState) (d : Option ℕ) : Type 0 where
  none : d ≡ None → SameList x y → Delivered x y d
  one : (j : ℕ) (s : Stamp) → d ≡ Some j → y.core.count ≡ x.core.count + 1
      → y.core.list ≡ set x.core.list x.core.count (record { job = j; stamp = s }) → Delivered x y d

-- ---- handed out

-- at place i of the post stands a DELIVER of job m with stamp s, written by box p as leader of ballot b: to whichever box
pub record HandsOut (l : List Rec) (i : ℕ) (p : BoxNo) (m : ℕ) (b : Ballot) (s : Stamp) : Type 0 where
  pub to : BoxNo
  pub local : Stamp
  pub there : At l i (deliver p to m (record { ballot = b; local = local; global = s }))

-- such a DELIVER to box q stands before place i; earlier in the same step counts
pub record HandedTo (l : List Rec) (i : ℕ) (p q : BoxNo) (m : ℕ) (b : Ballot) (s : Stamp) : Type 0 where
  pub place : ℕ
  pub before : place < i
  pub local : Stamp
  pub there : At l place (deliver p q m (record { ballot = b; local = local; global = s }))

-- the job has been handed out in p's district before place i: its DELIVERs to all boxes of the district are written
pub record HandedBefore (P : Plan) (l : List Rec) (i : ℕ) (p : BoxNo) (m : ℕ) (b : Ballot) (s : Stamp) : Type 0 where
  pub each : (q : BoxNo) → q.0 < boxes_of P → home_of P q ≡ home_of P p → HandedTo l i p q m b s
