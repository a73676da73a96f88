-- All STEP invariants as statements about one world: what every order keeps. docs/PROOF.md tells each by its label.
-- Record kinds are quantified over the post, boxes over the plan's box numbers; jobs of a table are below the plan's jobs.
use Prim.Native.Nat.{ℕ, ◌*◌, ◌≤◌, ◌<◌}
use mathlib.Core.Bool.{true, false}
use mathlib.Core.List.{List}
use mathlib.Core.Logic.{◌≢◌}
use mathlib.Core.Path.{◌≡◌}
use lib.ListN.{length}
use Rattle.house.specs.Limits.{most_districts, most_jobs}
use Rattle.house.specs.declared.Stamp.{Stamp}
use Rattle.house.specs.declared.Ballot.{Ballot}
use Rattle.house.specs.declared.BoxNo.{BoxNo}
use Rattle.house.specs.declared.District.{District}
use Rattle.house.specs.declared.Row.{Row}
use Rattle.house.specs.Pairs.{is_no_ballot}
use Rattle.house.specs.Plan.{boxes_of, home_of, names, plan_sound}
use Rattle.house.specs.declared.Plan.{Plan}
use Rattle.house.specs.Marks.{has_mark}
use Rattle.records.specs.Rec.{Rec}
use Rattle.records.specs.declared.Ballotpaper.{Ballotpaper}
use Rattle.records.specs.declared.NewState.{NewState}
use Rattle.boxes.specs.Box.{is_leader, is_recovering, sent_at, listed_at, kept_ballot, kept_stamp, marks_at}
use Rattle.boxes.specs.declared.BoxState.{BoxState}
use Rattle.boxes.specs.declared.Vote.{Vote}
use Rattle.world.specs.World.{World}
use Rattle.in_order.proofs.laws.Compare.{Lower, Upto, Sooner}
use Rattle.in_order.proofs.laws.Quorate.{Quorate}
use Rattle.in_order.proofs.laws.Notions.{the, row_in, Acc, Ack, Del, DelAt, Voted, News, NewsOf, Nsa, Joined, Lam, Stay, Acked, Cert, Final, Merge}

-- ---- forms: what S and R12 say of lengths, districts and numbers, as far as the proof asks

pub record BoxForm (P : Plan) (p : BoxNo) (x : BoxState) : Type 0 where
  -- own: box p has the number p
  pub own : x.core.own ≡ p
  pub order : Upto x.core.cballot x.core.ballot
  pub bhome : 1 ≤ x.core.ballot.number → home_of P x.core.ballot.owner ≡ home_of P p
  pub chome : 1 ≤ x.core.cballot.number → home_of P x.core.cballot.owner ≡ home_of P p
  pub table : length x.core.table ≡ most_jobs
  pub sent : length x.core.sent ≡ most_jobs
  pub list : length x.core.list ≡ most_jobs
  pub count : x.core.count ≤ most_jobs
  pub kept_ballots : length x.volatile.kept_ballots ≡ most_jobs * most_districts
  pub kept_stamps : length x.volatile.kept_stamps ≡ most_jobs * most_districts
  pub marks : length x.volatile.marks ≡ most_jobs

-- an ACCEPT: its ballot is a box's, the stamp has that box's district, which the job names
pub record AccForm (P : Plan) (m : ℕ) (b : Ballot) (s : Stamp) : Type 0 where
  pub real : 1 ≤ b.number
  pub box : b.owner.0 < boxes_of P
  pub district : s.district ≡ home_of P b.owner
  pub named : names P m (home_of P b.owner) ≡ true

-- an ACCEPT_ACK: the sender is a box of a named district; entry d is of a box of district d
pub record AckForm (P : Plan) (p : BoxNo) (m : ℕ) (f : District → Ballot) : Type 0 where
  pub box : p.0 < boxes_of P
  pub named : names P m (home_of P p) ≡ true
  pub real : (d : District) → names P m d ≡ true → 1 ≤ (f d).number
  pub homes : (d : District) → names P m d ≡ true → home_of P (f d).owner ≡ d

-- a DELIVER is its ballot's box's
pub record DelForm (P : Plan) (from : BoxNo) (b : Ballot) : Type 0 where
  pub real : 1 ≤ b.number
  pub box : b.owner.0 < boxes_of P
  pub by : from ≡ b.owner

-- a NEWLEADER_ACK: ballot, cballot and sender of one district, cballot lower
pub record VoteForm (P : Plan) (p : BoxNo) (z : Ballotpaper) : Type 0 where
  pub box : p.0 < boxes_of P
  pub owner : z.ballot.owner.0 < boxes_of P
  pub home : home_of P z.ballot.owner ≡ home_of P p
  pub lower : Lower z.cballot z.ballot
  pub chome : 1 ≤ z.cballot.number → home_of P z.cballot.owner ≡ home_of P p
  pub table : length z.table ≡ most_jobs

-- a NEW_STATE: a real ballot of a box
pub record NewsForm (P : Plan) (y : NewState) : Type 0 where
  pub real : 1 ≤ y.ballot.number
  pub box : y.ballot.owner.0 < boxes_of P
  pub table : length y.table ≡ most_jobs

pub record Forms (P : Plan) (w : World) : Type 0 where
  pub plan : plan_sound P ≡ true
  pub size : length w.boxes ≡ boxes_of P
  pub box : (p : BoxNo) → p.0 < boxes_of P → BoxForm P p (the w p)
  pub acc : {m : ℕ} {b : Ballot} {s : Stamp} → Acc w.post m b s → AccForm P m b s
  pub ack : {p : BoxNo} {m : ℕ} {f : District → Ballot} → Ack P w.post p m f → AckForm P p m f
  pub del : {m : ℕ} {b : Ballot} {s t : Stamp} (h : Del w.post m b s t) → DelForm P h.from b
  pub vote : {p : BoxNo} {z : Ballotpaper} → Voted w.post p z → VoteForm P p z
  pub news : {y : NewState} → News w.post y → NewsForm P y
  pub nsa : {p : BoxNo} {b : Ballot} → Nsa w.post p b → home_of P p ≡ home_of P b.owner

-- ---- ballots

pub record Ballots (P : Plan) (w : World) : Type 0 where
  -- B1: who voted for b has ballot b or a higher one
  pub b1 : {p : BoxNo} {z : Ballotpaper} → Voted w.post p z → Upto z.ballot (the w p).core.ballot
  -- I1c: the votes of one box for one ballot are equal
  pub i1c : {p : BoxNo} {z z' : Ballotpaper} → Voted w.post p z → Voted w.post p z' → z.ballot ≡ z'.ballot → z ≡ z'
  -- B2: who wrote the NEW_STATE of b has cballot b or a higher one
  pub b2 : {y : NewState} → News w.post y → Upto y.ballot (the w y.ballot.owner).core.cballot
  -- I1b: the NEW_STATEs of one ballot are equal
  pub i1b : {y y' : NewState} → News w.post y → News w.post y' → y.ballot ≡ y'.ballot → y ≡ y'
  -- B4: who acknowledged the NEW_STATE of b is another box, the NEW_STATE is there, its cballot is b or higher
  pub b4_other : {p : BoxNo} {b : Ballot} → Nsa w.post p b → p ≢ b.owner
  pub b4_news : {p : BoxNo} {b : Ballot} → Nsa w.post p b → NewsOf w.post b
  pub b4_upto : {p : BoxNo} {b : Ballot} → Nsa w.post p b → Upto b (the w p).core.cballot
  -- B5: who joined b tells a cballot of b or higher in every vote for a higher ballot
  pub b5 : {p : BoxNo} {b : Ballot} {z : Ballotpaper} → Joined w.post p b → Voted w.post p z → Lower b z.ballot → Upto b z.cballot
  -- B6l: a quorum joined a leader's ballot
  pub b6l : (p : BoxNo) → p.0 < boxes_of P → is_leader (the w p).core.status ≡ true
      → Quorate P (home_of P (the w p).core.cballot.owner) (λ q. Joined w.post q (the w p).core.cballot)
  -- B6a: a quorum joined the ballot of an ACCEPT or a DELIVER
  pub b6a : {m : ℕ} {b : Ballot} {s : Stamp} → Acc w.post m b s → Quorate P (home_of P b.owner) (λ q. Joined w.post q b)
  pub b6d : {m : ℕ} {b : Ballot} {s t : Stamp} → Del w.post m b s t → Quorate P (home_of P b.owner) (λ q. Joined w.post q b)
  -- B7: a recovering box that has its ballot as cballot heads it
  pub b7 : (p : BoxNo) → p.0 < boxes_of P → is_recovering (the w p).core.status ≡ true → (the w p).core.cballot ≡ (the w p).core.ballot
      → p ≡ (the w p).core.ballot.owner

-- ---- volatile parts

-- a kept vote stands in the post
pub record KeptVote (l : List Rec) (v : Vote) (b : Ballot) : Type 0 where
  pub paper : Ballotpaper
  pub voted : Voted l v.voter paper
  pub ballot : paper.ballot ≡ b
  pub cballot : paper.cballot ≡ v.cballot
  pub clock : paper.clock.time ≡ v.clock
  pub table : paper.table ≡ v.table

pub record Volatiles (P : Plan) (w : World) : Type 0 where
  -- V1: a kept ACCEPT is in the post
  pub v1 : (p : BoxNo) → p.0 < boxes_of P → (m : ℕ) (d : District) → d.0 < most_districts → is_no_ballot (kept_ballot (the w p) m d) ≡ false
      → Acc w.post m (kept_ballot (the w p) m d) (kept_stamp (the w p) m d)
  -- V2: a mark stands for an acknowledgement with the kept ballots
  pub v2 : (p : BoxNo) → p.0 < boxes_of P → (m : ℕ) (q : BoxNo) → has_mark (marks_at (the w p) m) q ≡ true → Ack P w.post q m (kept_ballot (the w p) m)
  -- V3: a kept vote is one for the own ballot, which this box heads
  pub v3_own : (p : BoxNo) → p.0 < boxes_of P → (the w p).volatile.vote.held ≡ true → (the w p).core.ballot.owner ≡ p
  pub v3 : (p : BoxNo) → p.0 < boxes_of P → (the w p).volatile.vote.held ≡ true → KeptVote w.post (the w p).volatile.vote (the w p).core.ballot
  -- N1: a NEW_STATE is the merge of a quorum's votes for its ballot
  pub n1 : {y : NewState} → News w.post y → Merge P w.post y

-- ---- what a box and a vote have in common: district g, cballot c, clock k, table t

pub record Held (P : Plan) (l : List Rec) (g : District) (c : Ballot) (k : ℕ) (t : List Row) : Type 0 where
  -- B3: a real cballot has its NEW_STATE in the post
  pub b3 : 1 ≤ c.number → NewsOf l c
  -- B9: without a cballot all jobs are at their start
  pub b9 : c.number ≡ 0 → (m : ℕ) → m < P.jobs → (row_in t m).phase ≡ 0
  -- L2: a local stamp is the ballot's
  pub l2 : (m : ℕ) → m < P.jobs → (row_in t m).phase ≢ 0 → Lam P l c m (row_in t m).local
  -- J3: not behind the NEW_STATE of the ballot in phases
  pub j3 : (y : NewState) → News l y → y.ballot ≡ c → (m : ℕ) → m < P.jobs → 2 ≤ (row_in y.table m).phase → 2 ≤ (row_in t m).phase
  -- J4: nor in the clock
  pub j4 : (y : NewState) → News l y → y.ballot ≡ c → y.clock.time ≤ k
  -- C1: the clock is not below a local stamp
  pub c1 : (m : ℕ) → m < P.jobs → (row_in t m).phase ≢ 0 → (row_in t m).local.time ≤ k
  -- I3: behind a commitment stands a certificate
  pub i3 : (m : ℕ) → m < P.jobs → (row_in t m).phase ≡ 3 → Final P l m g c (row_in t m).local (row_in t m).global

-- B3b B9b L2b J3b J4b C1b I3b of boxes, B3v B9v L2v J3v J4v C1v I3v of votes
pub record Holds (P : Plan) (w : World) : Type 0 where
  pub of_box : (p : BoxNo) → p.0 < boxes_of P → Held P w.post (home_of P p) (the w p).core.cballot (the w p).core.clock (the w p).core.table
  pub of_vote : {p : BoxNo} {z : Ballotpaper} → Voted w.post p z → Held P w.post (home_of P p) z.cballot z.clock.time z.table

-- ---- local stamps of one ballot

pub record Locals (P : Plan) (w : World) : Type 0 where
  -- I1a: one ballot gives a job one local stamp
  pub i1a : {m : ℕ} {b : Ballot} {s s' : Stamp} → Acc w.post m b s → Acc w.post m b s' → s ≡ s'
  -- L0: which is the one of the NEW_STATE, if that has one
  pub l0 : {m : ℕ} {b : Ballot} {s : Stamp} {y : NewState} → Acc w.post m b s → News w.post y → y.ballot ≡ b → (row_in y.table m).phase ≢ 0
      → (row_in y.table m).local ≡ s
  -- L1: the head of a ballot has a row for each local stamp of it
  pub l1 : (p : BoxNo) → p.0 < boxes_of P → p ≡ (the w p).core.cballot.owner → {m : ℕ} {s : Stamp} → Lam P w.post (the w p).core.cballot m s
      → (row_in (the w p).core.table m).phase ≢ 0
  -- N2: a stamp that is new in a ballot is above the clock of its NEW_STATE
  pub n2 : {m : ℕ} {b : Ballot} {s : Stamp} {y : NewState} → Acc w.post m b s → News w.post y → y.ballot ≡ b → (row_in y.table m).phase ≡ 0
      → y.clock.time < s.time
  -- N3: and two of them differ
  pub n3 : {m m' : ℕ} {b : Ballot} {s s' : Stamp} {y : NewState} → Acc w.post m b s → Acc w.post m' b s' → News w.post y → y.ballot ≡ b
      → (row_in y.table m).phase ≡ 0 → (row_in y.table m').phase ≡ 0 → m ≢ m' → s ≢ s'
  -- G0: the DELIVERs of a job in one ballot are equal
  pub g0 : {m : ℕ} {b : Ballot} {s t s' t' : Stamp} → Del w.post m b s t → Del w.post m b s' t' → (s ≡ s') × (t ≡ t')

-- ---- acknowledgements, hand-outs

-- an ACCEPT of m in ballot b
pub record Asked (l : List Rec) (m : ℕ) (b : Ballot) : Type 0 where
  pub stamp : Stamp
  pub acc : Acc l m b stamp

pub record Acks (P : Plan) (w : World) : Type 0 where
  -- A0: what is acknowledged was asked
  pub a0 : {p : BoxNo} {m : ℕ} {f : District → Ballot} → Ack P w.post p m f → (d : District) → names P m d ≡ true → Asked w.post m (f d)
  -- A1b, A1v: what the sender of an acknowledgement knows, and told in later votes
  pub a1b : {p : BoxNo} {m : ℕ} {f : District → Ballot} → Ack P w.post p m f
      → Acked P w.post m f (home_of P p) (the w p).core.cballot (the w p).core.clock (the w p).core.table
  pub a1v : {p : BoxNo} {m : ℕ} {f : District → Ballot} {z : Ballotpaper} → Ack P w.post p m f → Voted w.post p z → Lower (f (home_of P p)) z.ballot
      → Acked P w.post m f (home_of P p) z.cballot z.clock.time z.table
  -- I3d: behind a DELIVER stands a certificate
  pub i3d : {m : ℕ} {b : Ballot} {s t : Stamp} → Del w.post m b s t → Final P w.post m (home_of P b.owner) b s t

-- what I5a says of a job m' whose local stamp in ballot b is below the stamp t of a DELIVER at place i
pub data Handed (l : List Rec) (i m : ℕ) (b : Ballot) (t u : Stamp) : Type 0 where
  later : Sooner t u → Handed l i m b t u
  earlier : (j : ℕ) → j < i → (s : Stamp) → DelAt l j m b s u → Handed l i m b t u

pub record Before (P : Plan) (l : List Rec) (i m : ℕ) (b : Ballot) (t : Stamp) : Type 0 where
  pub stamp : Stamp
  pub vector : District → Ballot
  pub cert : Cert P l m vector stamp
  pub below : Upto (vector (home_of P b.owner)) b
  pub handed : Handed l i m b t stamp

-- what D1 says of a job on a list: a DELIVER of a lower ballot, or of this one and the job is in phase 3
pub record Listing (P : Plan) (l : List Rec) (g : District) (m : ℕ) (s : Stamp) (c : Ballot) (t : List Row) : Type 0 where
  pub ballot : Ballot
  pub local : Stamp
  pub del : Del l m ballot local s
  pub home : home_of P ballot.owner ≡ g
  pub upto : Upto ballot c
  pub now : ballot ≡ c → (row_in t m).phase ≡ 3

pub record Hands (P : Plan) (w : World) : Type 0 where
  -- I6: the head of a ballot has flagged exactly what it handed out in it
  pub i6_sent : (p : BoxNo) → p.0 < boxes_of P → p ≡ (the w p).core.cballot.owner → {m : ℕ} {s t : Stamp} → Del w.post m (the w p).core.cballot s t
      → sent_at (the w p) m ≡ true
  pub i6_del : (p : BoxNo) → p.0 < boxes_of P → p ≡ (the w p).core.cballot.owner → 1 ≤ (the w p).core.cballot.number → (m : ℕ) → m < P.jobs
      → sent_at (the w p) m ≡ true
      → (s t : Stamp) × Del w.post m (the w p).core.cballot s t
  -- I5a: of a job with a smaller local stamp there is a certificate, and it was handed out before or its stamp is larger
  pub i5a : {i m m' : ℕ} {b : Ballot} {s t s' : Stamp} → DelAt w.post i m b s t → m' ≢ m → Lam P w.post b m' s' → Sooner s' t
      → Before P w.post i m' b t
  -- D1: a job on a list was handed out
  pub d1 : (p : BoxNo) → p.0 < boxes_of P → (i : ℕ) → i < (the w p).core.count
      → Listing P w.post (home_of P p) (listed_at (the w p) i).job (listed_at (the w p) i).stamp (the w p).core.cballot (the w p).core.table
  -- S, of lists: jobs differ, stamps rise
  pub rising : (p : BoxNo) → p.0 < boxes_of P → (k i : ℕ) → k < i → i < (the w p).core.count
      → Sooner (listed_at (the w p) k).stamp (listed_at (the w p) i).stamp
  pub once : (p : BoxNo) → p.0 < boxes_of P → (k i : ℕ) → k < i → i < (the w p).core.count → (listed_at (the w p) k).job ≢ (listed_at (the w p) i).job

pub record Inv (P : Plan) (w : World) : Type 0 where
  pub forms : Forms P w
  pub ballots : Ballots P w
  pub volatiles : Volatiles P w
  pub holds : Holds P w
  pub locals : Locals P w
  pub acks : Acks P w
  pub hands : Hands P w

-- ---- the STATE lemmas that preservation uses (proved from Inv in the files Core..)

pub record State (P : Plan) (w : World) : Type 0 where
  -- I2n
  pub i2n : {m : ℕ} {f : District → Ballot} {g : District} {y : NewState} → names P m g ≡ true → Quorate P g (λ p. Ack P w.post p m f)
      → News w.post y → home_of P y.ballot.owner ≡ g → Lower (f g) y.ballot → Stay P w.post m f g y.clock.time y.table
  -- G1
  pub g1 : {m : ℕ} {b : Ballot} {s t : Stamp} → Del w.post m b s t → Lam P w.post b m s
  -- I4a
  pub i4a : {m : ℕ} {f f' : District → Ballot} {t t' : Stamp} → Cert P w.post m f t → Cert P w.post m f' t' → t ≡ t'
  -- I4b
  pub i4b : {m m' : ℕ} {f f' : District → Ballot} {t t' : Stamp} → Cert P w.post m f t → Cert P w.post m' f' t' → m ≢ m' → t ≢ t'
