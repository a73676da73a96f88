-- Words of the proof (docs/PROOF.md, 'Words'): records of the post, lam, Lts, Cert and its stamp, joined, the merge behind a NEW_STATE.
-- Each is over the post's list, and stays true when the post grows.
use Prim.Native.Nat.{ℕ, ◌≤◌, ◌<◌}
use mathlib.Core.Bool.{true}
use mathlib.Core.List.{List}
use mathlib.Core.Logic.{◌≢◌}
use mathlib.Core.Path.{◌≡◌}
use lib.ListN.{get_or}
use Rattle.laws.specs.Place.{At, In}
use Rattle.house.specs.Pairs.{no_ballot, no_row}
use Rattle.house.specs.declared.Stamp.{Stamp}
use Rattle.house.specs.declared.Ballot.{Ballot}
use Rattle.house.specs.declared.BoxNo.{BoxNo}
use Rattle.house.specs.declared.District.{District}
use Rattle.house.specs.declared.Row.{Row}
use Rattle.house.specs.Plan.{home_of, names}
use Rattle.house.specs.declared.Plan.{Plan}
use Rattle.records.specs.Rec.{Rec, accept, accept_ack, deliver, newleader_ack, new_state, newstate_ack}
use Rattle.records.specs.declared.Ballotpaper.{Ballotpaper}
use Rattle.records.specs.declared.NewState.{NewState}
use Rattle.world.specs.World.{World, box_at}
use Rattle.boxes.specs.declared.BoxState.{BoxState}
use Rattle.in_order.proofs.laws.Compare.{Upto, Until}
use Rattle.in_order.proofs.laws.Quorate.{Quorate}

-- box p of the world
abbrev pub the : World → BoxNo → BoxState
the w p = box_at w p.0

-- the row of a job in a table
abbrev pub row_in : List Row → ℕ → Row
row_in t m = get_or t m no_row

-- the entry of a vector for a district
abbrev pub ballot_at : List Ballot → District → Ballot
ballot_at bs d = get_or bs d.0 no_ballot

-- ---- records in the post, some copy, to whichever addressee

-- ACC(m,b,s)
pub record Acc (l : List Rec) (m : ℕ) (b : Ballot) (s : Stamp) : Type 0 where
  pub from : BoxNo
  pub to : BoxNo
  pub there : In (accept from to m (record { ballot = b; stamp = s })) l

-- ACK(p,m,Bal): an acknowledgement of p whose entry for each named district d is f d
pub record Ack (P : Plan) (l : List Rec) (p : BoxNo) (m : ℕ) (f : District → Ballot) : Type 0 where
  pub to : BoxNo
  pub ballots : List Ballot
  pub there : In (accept_ack p to m ballots) l
  pub entries : (d : District) → names P m d ≡ true → ballot_at ballots d ≡ f d

-- DEL(m,b,loc,glob), and the same at place i
pub record Del (l : List Rec) (m : ℕ) (b : Ballot) (loc glob : Stamp) : Type 0 where
  pub from : BoxNo
  pub to : BoxNo
  pub there : In (deliver from to m (record { ballot = b; local = loc; global = glob })) l

pub record DelAt (l : List Rec) (i : ℕ) (m : ℕ) (b : Ballot) (loc glob : Stamp) : Type 0 where
  pub from : BoxNo
  pub to : BoxNo
  pub there : At l i (deliver from to m (record { ballot = b; local = loc; global = glob }))

-- VOTE(p,z)
pub record Voted (l : List Rec) (p : BoxNo) (z : Ballotpaper) : Type 0 where
  pub to : BoxNo
  pub there : In (newleader_ack p to z) l

-- NS(y), and NS of a ballot
pub record News (l : List Rec) (y : NewState) : Type 0 where
  pub from : BoxNo
  pub to : BoxNo
  pub there : In (new_state from to y) l

pub record NewsOf (l : List Rec) (b : Ballot) : Type 0 where
  pub state : NewState
  pub ballot : state.ballot ≡ b
  pub news : News l state

-- NSA(p,b)
pub record Nsa (l : List Rec) (p : BoxNo) (b : Ballot) : Type 0 where
  pub to : BoxNo
  pub there : In (newstate_ack p to b) l

-- joined(p,b)
pub data Joined (l : List Rec) (p : BoxNo) (b : Ballot) : Type 0 where
  follows : Nsa l p b → Joined l p b
  heads : p ≡ b.owner → NewsOf l b → Joined l p b

-- ---- local stamps of a ballot

-- lam(b,m) is s: the new state of b has it, or an ACCEPT of b (they agree by L0)
pub data Lam (P : Plan) (l : List Rec) (b : Ballot) (m : ℕ) (s : Stamp) : Type 0 where
  stated : (y : NewState) → News l y → y.ballot ≡ b → m < P.jobs → (row_in y.table m).phase ≢ 0 → (row_in y.table m).local ≡ s → Lam P l b m s
  asked : Acc l m b s → Lam P l b m s

-- an ACCEPT of m in ballot b, of a time not above k
pub record Timed (l : List Rec) (m : ℕ) (b : Ballot) (k : ℕ) : Type 0 where
  pub stamp : Stamp
  pub acc : Acc l m b stamp
  pub upto : stamp.time ≤ k

-- what an acknowledgement of m with vector f says of a table and clock of district g: phase >= 2, local = Lts(g), clock >= time(top)
pub record Stay (P : Plan) (l : List Rec) (m : ℕ) (f : District → Ballot) (g : District) (k : ℕ) (t : List Row) : Type 0 where
  pub phase : 2 ≤ (row_in t m).phase
  pub local : Acc l m (f g) (row_in t m).local
  pub times : (d : District) → names P m d ≡ true → Timed l m (f d) k

-- ... of something in district g with cballot c, clock k and table t
pub record Acked (P : Plan) (l : List Rec) (m : ℕ) (f : District → Ballot) (g : District) (c : Ballot) (k : ℕ) (t : List Row) : Type 0 where
  pub below : Upto (f g) c
  pub stay : f g ≡ c → Stay P l m f g k t

-- ---- certificates

-- district d's part of a certificate of m with stamp t: Lts(d) not above it, and a quorum of d acknowledged
pub record Part (P : Plan) (l : List Rec) (m : ℕ) (f : District → Ballot) (d : District) (t : Stamp) : Type 0 where
  pub stamp : Stamp
  pub acc : Acc l m (f d) stamp
  pub until : Until stamp t
  pub quorum : Quorate P d (λ p. Ack P l p m f)

-- Cert(m,Bal) with its stamp
pub record Cert (P : Plan) (l : List Rec) (m : ℕ) (f : District → Ballot) (t : Stamp) : Type 0 where
  pub each : (d : District) → names P m d ≡ true → Part P l m f d t
  pub top : District
  pub named : names P m top ≡ true
  pub attained : Acc l m (f top) t

-- what I3 says: a certificate behind a final stamp that district g knows in ballot c
pub record Final (P : Plan) (l : List Rec) (m : ℕ) (g : District) (c : Ballot) (loc glob : Stamp) : Type 0 where
  pub vector : District → Ballot
  pub cert : Cert P l m vector glob
  pub named : names P m g ≡ true
  pub below : Upto (vector g) c
  pub local : Acc l m (vector g) loc
  pub own : Ack P l (vector g).owner m vector

-- ---- the merge behind a new state

-- a vote of u with paper z behind the new state y, whose highest cballot is top
pub record Voter (P : Plan) (l : List Rec) (y : NewState) (top : Ballot) (u : BoxNo) (z : Ballotpaper) : Type 0 where
  pub voted : Voted l u z
  pub ballot : z.ballot ≡ y.ballot
  pub upto : Upto z.cballot top
  pub clock : z.clock.time ≤ y.clock.time
  -- accepted or committed at a voter of highest cballot: not lost
  pub keeps : (m : ℕ) → m < P.jobs → z.cballot ≡ top → 2 ≤ (row_in z.table m).phase → 2 ≤ (row_in y.table m).phase

pub record AVoter (P : Plan) (l : List Rec) (y : NewState) (top : Ballot) (u : BoxNo) : Type 0 where
  pub paper : Ballotpaper
  pub voter : Voter P l y top u paper

-- where a row of the new state comes from
pub data Source (P : Plan) (l : List Rec) (y : NewState) (top : Ballot) (m : ℕ) : Type 0 where
  -- committed at a voter
  done : (u : BoxNo) (z : Ballotpaper) → Voter P l y top u z → (row_in z.table m).phase ≡ 3 → row_in y.table m ≡ row_in z.table m → Source P l y top m
  -- accepted at a voter of highest cballot
  taken : (u : BoxNo) (z : Ballotpaper) → Voter P l y top u z → z.cballot ≡ top → (row_in z.table m).phase ≡ 2 → row_in y.table m ≡ row_in z.table m
      → Source P l y top m
  start : (row_in y.table m).phase ≡ 0 → Source P l y top m

pub record Merge (P : Plan) (l : List Rec) (y : NewState) : Type 0 where
  pub top : Ballot
  -- the voters are a quorum of the district
  pub quorum : Quorate P (home_of P y.ballot.owner) (λ u. AVoter P l y top u)
  -- a voter of highest cballot
  pub highest : BoxNo
  pub paper : Ballotpaper
  pub voter : Voter P l y top highest paper
  pub is_top : paper.cballot ≡ top
  pub rows : (m : ℕ) → m < P.jobs → Source P l y top m
