-- Moves of a box: what each kind and order has for facts, the mover's new box and the records it sends.
-- A constructor takes one record of facts; the view makes a move of every step that is not refused.
use Prim.Native.Nat.{ℕ, ◌<◌}
use mathlib.Core.Bool.{true, false}
use mathlib.Core.List.{List, [], ◌∷◌, ◌++◌}
use mathlib.Core.Logic.{◌≢◌}
use mathlib.Core.Path.{◌≡◌}
use lib.Dec.{leb}
use lib.ListN.{set}
use Rattle.laws.specs.Place.{In}
use Rattle.house.specs.declared.Ballot.{Ballot}
use Rattle.house.specs.declared.BoxNo.{BoxNo}
use Rattle.house.specs.declared.District.{District}
use Rattle.house.specs.Plan.{boxes_of, quorum_of, home_of, names}
use Rattle.house.specs.declared.Plan.{Plan}
use Rattle.house.specs.Marks.{marked}
use Rattle.records.specs.Rec.{Rec, accept, accept_ack, deliver, newleader, newleader_ack, new_state, newstate_ack}
use Rattle.records.specs.declared.Proposal.{Proposal}
use Rattle.records.specs.declared.Handout.{Handout}
use Rattle.records.specs.declared.Ballotpaper.{Ballotpaper}
use Rattle.records.specs.declared.NewState.{NewState}
use Rattle.boxes.specs.Box.{is_leader, is_recovering, own_of, home_in, row_at, kept_ballot, marks_at, last_stamp, on_list, put_marks, put_vote}
use Rattle.boxes.specs.Out.{to_home}
use Rattle.boxes.specs.Ready.{hand_out}
use Rattle.boxes.specs.Multicast.{proposed, accepts}
use Rattle.boxes.specs.Accept.{kept, all_kept, accepted, acks}
use Rattle.boxes.specs.AcceptAck.{enough, committed}
use Rattle.boxes.specs.Deliver.{delivered}
use Rattle.boxes.specs.Newleader.{joined, vote_for}
use Rattle.boxes.specs.NewleaderAck.{vote_of, votes_with, votes_count, new_states}
use Rattle.boxes.specs.Merge.{merged}
use Rattle.boxes.specs.NewState.{followed}
use Rattle.boxes.specs.NewstateAck.{leading}
use Rattle.boxes.specs.Post.{posts}
use Rattle.boxes.specs.Retry.{retries}
use Rattle.boxes.specs.Stand.{next_ballot}
use Rattle.boxes.specs.Cut.{cut}
use Rattle.boxes.specs.declared.BoxState.{BoxState}
use Rattle.boxes.proofs.laws.Sound.{SoundBox}
use Rattle.world.specs.World.{World}
use Rattle.in_order.proofs.laws.Compare.{Lower, Sooner}
use Rattle.in_order.proofs.laws.Notions.{the, ballot_at}
use Rattle.in_order.proofs.laws.Facts.{AcceptFacts, AckFacts, DeliverFacts, LeaderFacts, VoteFacts, StateFacts, NsaFacts}

-- ---- facts per kind, of box p

module _ (P : Plan) (w : World) (p : BoxNo) where
  pub record Multicasting : Type 0 where
    pub j : ℕ
    pub sound : SoundBox P (the w p)
    pub named : names P j (home_in P (the w p)) ≡ true
    pub lead : is_leader (the w p).core.status ≡ true

  pub record Accepting : Type 0 where
    pub from : BoxNo
    pub j : ℕ
    pub y : Proposal
    pub there : In (accept from p j y) w.post
    pub sound : SoundBox P (the w p)
    pub facts : AcceptFacts P from p j y
    pub named : names P j (home_in P (the w p)) ≡ true
    pub active : is_recovering (the w p).core.status ≡ false
    -- the own district's ballot is cballot
    pub own : home_of P from ≡ home_in P (the w p) → y.ballot ≡ (the w p).core.cballot

  pub record Acking : Type 0 where
    pub from : BoxNo
    pub j : ℕ
    pub bs : List Ballot
    pub there : In (accept_ack from p j bs) w.post
    pub sound : SoundBox P (the w p)
    pub facts : AckFacts P from p j
    pub named : names P j (home_in P (the w p)) ≡ true
    pub lead : is_leader (the w p).core.status ≡ true
    pub agree : (d : District) → names P j d ≡ true → ballot_at bs d ≡ kept_ballot (the w p) j d
    pub own : ballot_at bs (home_in P (the w p)) ≡ (the w p).core.cballot
    pub pending : (row_at (the w p) j).phase ≢ 3

  pub record Delivering : Type 0 where
    pub from : BoxNo
    pub j : ℕ
    pub y : Handout
    pub there : In (deliver from p j y) w.post
    pub sound : SoundBox P (the w p)
    pub facts : DeliverFacts P from p y
    pub named : names P j (home_in P (the w p)) ≡ true
    pub active : is_recovering (the w p).core.status ≡ false
    pub same : y.ballot ≡ (the w p).core.cballot
    pub above : Sooner (last_stamp (the w p)) y.global
    pub new : on_list (the w p) j ≡ false

  pub record Joining : Type 0 where
    pub from : BoxNo
    pub b : Ballot
    pub there : In (newleader from p b) w.post
    pub sound : SoundBox P (the w p)
    pub facts : LeaderFacts P from p b
    pub above : Lower (the w p).core.ballot b

  pub record Voting : Type 0 where
    pub from : BoxNo
    pub y : Ballotpaper
    pub there : In (newleader_ack from p y) w.post
    pub sound : SoundBox P (the w p)
    pub facts : VoteFacts P from p y
    pub waits : is_recovering (the w p).core.status ≡ true
    pub same : y.ballot ≡ (the w p).core.ballot
    pub pending : (the w p).core.cballot ≢ (the w p).core.ballot
    pub another : (the w p).volatile.vote.held ≡ true → (the w p).volatile.vote.voter ≢ from

  pub record Stating : Type 0 where
    pub from : BoxNo
    pub y : NewState
    pub there : In (new_state from p y) w.post
    pub sound : SoundBox P (the w p)
    pub facts : StateFacts P from p y
    pub waits : is_recovering (the w p).core.status ≡ true
    pub same : y.ballot ≡ (the w p).core.ballot

  pub record Leading : Type 0 where
    pub from : BoxNo
    pub b : Ballot
    pub there : In (newstate_ack from p b) w.post
    pub sound : SoundBox P (the w p)
    pub facts : NsaFacts P from p b
    pub waits : is_recovering (the w p).core.status ≡ true
    pub same : b ≡ (the w p).core.ballot
    pub current : b ≡ (the w p).core.cballot

  -- the box with an ACCEPT kept, and with an acknowledgement marked
  abbrev pub keeps : Accepting → BoxState
  keeps a = kept (the w p) a.j (home_of P a.from) a.y

  abbrev pub marks : Acking → BoxState
  marks a = put_marks (the w p) a.j (marked (marks_at (the w p) a.j) a.from)

  pub data Move : Type 0 where
    m_post : (j : ℕ) → Move
    m_retry : (j : ℕ) → Move
    m_stand : Move
    m_cut : Move
    m_propose : (a : Multicasting) → (row_at (the w p) a.j).phase ≡ 0 → Move
    m_again : (a : Multicasting) → (row_at (the w p) a.j).phase ≢ 0 → Move
    m_keep : (a : Accepting) → Move
    m_accept : (a : Accepting) → all_kept P (keeps a) a.j ≡ true → Move
    m_mark : (a : Acking) → Move
    m_commit : (a : Acking) → enough P (marks a) a.j ≡ true → Move
    m_deliver : (a : Delivering) → Move
    m_join : (a : Joining) → Move
    m_hold : (a : Voting) → Move
    m_merge : (a : Voting) → leb (quorum_of P) (votes_count (the w p).volatile.vote) ≡ true → Move
    m_state : (a : Stating) → Move
    m_lead : (a : Leading) → Move

  -- what a commit, a merge and a new leader start from
  abbrev pub commits : Acking → BoxState
  commits a = committed P (marks a) a.j

  abbrev pub merges : Voting → BoxState
  merges a = merged P (the w p) (votes_with (the w p).volatile.vote (vote_of a.from a.y))

  abbrev pub box : Move → BoxState
  box (m_post j) = the w p
  box (m_retry j) = the w p
  box m_stand = the w p
  box m_cut = cut (the w p)
  box (m_propose a n) = proposed P (the w p) a.j
  box (m_again a n) = the w p
  box (m_keep a) = keeps a
  box (m_accept a f) = accepted P (keeps a) a.j
  box (m_mark a) = marks a
  box (m_commit a e) = (hand_out P (commits a)).box
  box (m_deliver a) = delivered (the w p) a.j a.y
  box (m_join a) = joined (the w p) a.b
  box (m_hold a) = put_vote (the w p) (vote_of a.from a.y)
  box (m_merge a q) = merges a
  box (m_state a) = followed (the w p) a.y
  box (m_lead a) = (hand_out P (leading (the w p))).box

  abbrev pub sent : Move → List Rec
  sent (m_post j) = posts P j
  sent (m_retry j) = retries P (the w p) j
  sent m_stand = to_home P (the w p) (λ to. newleader (own_of (the w p)) to (next_ballot (the w p)))
  sent m_cut = []
  sent (m_propose a n) = accepts P (proposed P (the w p) a.j) a.j
  sent (m_again a n) = accepts P (the w p) a.j
  sent (m_keep a) = []
  sent (m_accept a f) = acks P (accepted P (keeps a) a.j) a.j
  sent (m_mark a) = []
  sent (m_commit a e) = (hand_out P (commits a)).sent
  sent (m_deliver a) = []
  sent (m_join a) = vote_for P (the w p) a.from a.b ∷ []
  sent (m_hold a) = []
  sent (m_merge a q) = new_states P (merges a)
  sent (m_state a) = newstate_ack (own_of (the w p)) a.from a.y.ballot ∷ []
  sent (m_lead a) = (hand_out P (leading (the w p))).sent

  pub record Does (x : BoxState) (l : List Rec) : Type 0 where
    pub known : p.0 < boxes_of P
    pub move : Move
    pub box_is : x ≡ box move
    pub sent_is : l ≡ sent move

-- the world after a move: one box changes, its records are appended
abbrev pub next : (P : Plan) (w : World) (p : BoxNo) → Move P w p → World
next P w p m = record { boxes = set w.boxes p.0 (box P w p m); post = w.post ++ sent P w p m }
