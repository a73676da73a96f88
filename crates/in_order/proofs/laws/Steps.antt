-- What a move can do to the mover's ballots and status, to its clock and table, and to its flags: three views of the new box.
-- Case analysis over moves for these parts happens here only.
use Prim.Native.Nat.{ℕ, ◌+◌, ◌≤◌, ◌<◌}
use mathlib.Core.Bool.{Bool, true, false, not, ◌&&◌}
use mathlib.Core.List.{List, ◌++◌}
use mathlib.Core.Logic.{◌⊎◌, inl, inr, ◌≢◌}
use mathlib.Core.Path.{◌≡◌, refl, ap, ◌∙◌, subst}
use native.Mathlib.Omega.{arith}
use lib.Dec.{leb, eqb}
use lib.ListN.{set}
use lib.Seq.{set-get_or, get_or-set_same}
use borrow.Author.Tests.{eqb-false, eq-eqb, ne_eqb}
use Rattle.laws.proofs.laws.Choice.{look, pick_true, pick_false, and_both, not_off}
use Rattle.laws.specs.Place.{In}
use Rattle.laws.proofs.laws.Place.{in_right}
use Rattle.house.specs.Limits.{most_jobs}
use Rattle.house.specs.Pairs.{stamp, no_stamp, no_row}
use Rattle.house.specs.declared.Stamp.{Stamp}
use Rattle.house.specs.declared.BoxNo.{BoxNo}
use Rattle.house.specs.declared.Row.{Row}
use Rattle.house.specs.Plan.{boxes_of, home_of, same_home, names}
use Rattle.house.proofs.laws.Says.{plan_says, names_job, same_home_is}
use Rattle.house.specs.declared.Plan.{Plan}
use Rattle.records.specs.Rec.{Rec, accept, new_state}
use Rattle.boxes.specs.Box.{is_leader, is_recovering, own_of, home_in, row_at, kept_stamp, put_row, put_sent, raised}
use Rattle.boxes.specs.Multicast.{proposed}
use Rattle.boxes.specs.Accept.{kept, all_kept, latest_kept, accepted_row, accepted}
use Rattle.boxes.specs.AcceptAck.{committed}
use Rattle.boxes.specs.Deliver.{delivered}
use Rattle.boxes.specs.Newleader.{joined, clock_stamp}
use Rattle.boxes.specs.Merge.{merged}
use Rattle.boxes.specs.NewState.{followed}
use Rattle.boxes.specs.NewstateAck.{leading}
use Rattle.boxes.specs.NewleaderAck.{new_states}
use Rattle.boxes.specs.Cut.{cut}
use Rattle.boxes.specs.declared.BoxState.{BoxState}
use Rattle.world.specs.World.{World}
use Rattle.in_order.proofs.laws.Notions.{the, row_in, Acc, News}
use Rattle.in_order.proofs.laws.Inv.{Forms}
use Rattle.in_order.proofs.laws.Laws.{raised_left}
use Rattle.in_order.proofs.laws.Sends.{each_in}
use Rattle.in_order.proofs.laws.Counting.{another}
use Rattle.in_order.proofs.laws.HandOut.{Turned, hand_out_lem}
use Rattle.in_order.proofs.laws.Moves.{Multicasting, Accepting, Acking, Delivering, Joining, Voting, Stating, Leading, Move, m_post, m_retry, m_stand}
use Rattle.in_order.proofs.laws.Moves.{m_cut, m_propose, m_again, m_keep, m_accept, m_mark, m_commit, m_deliver, m_join, m_hold, m_merge, m_state}
use Rattle.in_order.proofs.laws.Moves.{m_lead, keeps, marks, commits, merges, box, sent}
use Rattle.in_order.proofs.laws.Facts.{own_low}

-- a move that hands out, from box y
pub record Hand (P : Plan) (w : World) (p : BoxNo) (m : Move P w p) (y : BoxState) : Type 0 where
  pub flags : List Bool
  pub box_is : box P w p m ≡ put_sent y flags
  pub turned : Turned P y flags (sent P w p m)

-- how ballots and status change
pub data ModeStep (P : Plan) (w : World) (p : BoxNo) (x : BoxState) : Type 0 where
  mode_same : x.core.ballot ≡ (the w p).core.ballot → x.core.cballot ≡ (the w p).core.cballot → x.core.status ≡ (the w p).core.status → ModeStep P w p x
  mode_join : (a : Joining P w p) → x.core.ballot ≡ a.b → x.core.cballot ≡ (the w p).core.cballot → is_recovering x.core.status ≡ true
      → is_leader x.core.status ≡ false
      → ModeStep P w p x
  mode_merge : (a : Voting P w p) → x.core.ballot ≡ (the w p).core.ballot → x.core.cballot ≡ (the w p).core.ballot → is_leader x.core.status ≡ false
      → ModeStep P w p x
  mode_state : (a : Stating P w p) → x.core.ballot ≡ (the w p).core.ballot → x.core.cballot ≡ a.y.ballot → is_recovering x.core.status ≡ false
      → is_leader x.core.status ≡ false
      → ModeStep P w p x
  mode_lead : (a : Leading P w p) → x.core.ballot ≡ (the w p).core.ballot → x.core.cballot ≡ (the w p).core.cballot → is_recovering x.core.status ≡ false
      → ModeStep P w p x

-- why a row is written
pub data Why (P : Plan) (w : World) (p : BoxNo) (x : BoxState) (l : List Rec) (j : ℕ) (r : Row) : Type 0 where
  proposes : (a : Multicasting P w p) → a.j ≡ j → (row_in (the w p).core.table j).phase ≡ 0 → x.core.clock ≡ (the w p).core.clock + 1
      → Acc l j (the w p).core.cballot (stamp ((the w p).core.clock + 1) (home_in P (the w p)).0)
      → r ≡ record { phase = 1; local = stamp ((the w p).core.clock + 1) (home_in P (the w p)).0; global = no_stamp } → Why P w p x l j r
  accepts : (a : Accepting P w p) → a.j ≡ j → all_kept P (keeps P w p a) j ≡ true → (row_in (the w p).core.table j).phase ≢ 3
      → x.core.clock ≡ raised (the w p).core.clock (latest_kept P (keeps P w p a) j P.districts).time
      → r ≡ record { phase = 2; local = kept_stamp (keeps P w p a) j (home_in P (the w p)); global = no_stamp } → Why P w p x l j r
  commits_it : (a : Acking P w p) → a.j ≡ j → Rattle.boxes.specs.AcceptAck.enough P (marks P w p a) j ≡ true → x.core.clock ≡ (the w p).core.clock
      → r ≡ record { phase = 3; local = kept_stamp (the w p) j (home_in P (the w p)); global = latest_kept P (the w p) j P.districts } → Why P w p x l j r
  delivers_it : (a : Delivering P w p) → a.j ≡ j → x.core.clock ≡ raised (the w p).core.clock a.y.global.time
      → r ≡ record { phase = 3; local = a.y.local; global = a.y.global } → Why P w p x l j r

-- how clock and table change: not, or one row is written, or all is a new state's
pub data TableStep (P : Plan) (w : World) (p : BoxNo) (x : BoxState) (l : List Rec) : Type 0 where
  still : x.core.cballot ≡ (the w p).core.cballot → (the w p).core.clock ≤ x.core.clock → x.core.table ≡ (the w p).core.table → TableStep P w p x l
  wrote : x.core.cballot ≡ (the w p).core.cballot → (the w p).core.clock ≤ x.core.clock → (j : ℕ) (r : Row) → names P j (home_in P (the w p)) ≡ true
      → x.core.table ≡ set (the w p).core.table j r → Why P w p x l j r → TableStep P w p x l
  took : (a : Stating P w p) → x.core.cballot ≡ a.y.ballot → x.core.clock ≡ a.y.clock.time → x.core.table ≡ a.y.table → TableStep P w p x l
  merged_it : (a : Voting P w p) → leb (Rattle.house.specs.Plan.quorum_of P) (Rattle.boxes.specs.NewleaderAck.votes_count (the w p).volatile.vote) ≡ true
      → x ≡ merges P w p a
      → News l (record { ballot = (the w p).core.ballot; clock = clock_stamp P (merges P w p a); table = (merges P w p a).core.table }) → TableStep P w p x l

module _ (P : Plan) (w : World) (p : BoxNo) (known : p.0 < boxes_of P) (F : Forms P w) where
  few : P.jobs ≤ most_jobs
  few = (plan_says P F.plan).jobs_most

  pub commit_hands : (a : Acking P w p) (e : Rattle.boxes.specs.AcceptAck.enough P (marks P w p a) a.j ≡ true) → Hand P w p (m_commit a e) (commits P w p a)
  unfolding committed
  commit_hands a e =
      let H = hand_out_lem P (commits P w p a) (own_low a.sound) (F.box p known).sent few in
      record { flags = H.flags; box_is = H.box_is; turned = H.turned }

  pub lead_hands : (a : Leading P w p) → Hand P w p (m_lead a) (leading (the w p))
  unfolding leading
  lead_hands a =
      let H = hand_out_lem P (leading (the w p)) (own_low a.sound) (F.box p known).sent few in
      record { flags = H.flags; box_is = H.box_is; turned = H.turned }

  pub proposed_is : (a : Multicasting P w p) → (row_at (the w p) a.j).phase ≡ 0
      → proposed P (the w p) a.j
      ≡ put_row
      (the w p)
      ((the w p).core.clock + 1)
      a.j
      (record { phase = 1; local = stamp ((the w p).core.clock + 1) (home_in P (the w p)).0; global = no_stamp })
  unfolding proposed
  proposed_is a n = pick_true _ _ (eq-eqb (row_at (the w p) a.j).phase 0 n)

  -- a proposal is sent to the proposing box too
  propose_sent : (a : Multicasting P w p) (n : (row_at (the w p) a.j).phase ≡ 0)
      → Acc (w.post ++ sent P w p (m_propose a n)) a.j (the w p).core.cballot (stamp ((the w p).core.clock + 1) (home_in P (the w p)).0)
  unfolding Rattle.boxes.specs.Multicast.accepts row_at
  propose_sent a n =
      let e = proposed_is a n in
      let few = (plan_says P F.plan).jobs_most in
      let low = names_job P a.j (home_in P (the w p)) a.named in
      let x =
      put_row
      (the w p)
      ((the w p).core.clock + 1)
      a.j
      (record { phase = 1; local = stamp ((the w p).core.clock + 1) (home_in P (the w p)).0; global = no_stamp }) in
      let q : (row_in x.core.table a.j).local ≡ stamp ((the w p).core.clock + 1) (home_in P (the w p)).0
      = ap (λ (r : Row). r.local) (get_or-set_same (the w p).core.table a.j _ no_row (omega (arith, (F.box p known).table))) in
      let i =
      each_in
      P
      (λ q. names P a.j (home_of P q))
      (λ to. accept (own_of x) to a.j (record { ballot = x.core.cballot; stamp = (row_in x.core.table a.j).local }))
      (own_of x)
      (own_low a.sound)
      a.named in
      let k =
      subst
      (λ (s : Stamp).
      In (accept (own_of x) (own_of x) a.j (record { ballot = x.core.cballot; stamp = s })) (Rattle.boxes.specs.Multicast.accepts P x a.j))
      q
      i in
      record { from = own_of x; to = own_of x; there = in_right w.post _ (rw e k) }

  -- a merge is sent to another box of the district
  merge_sent : (a : Voting P w p) (q : leb (Rattle.house.specs.Plan.quorum_of P) (Rattle.boxes.specs.NewleaderAck.votes_count (the w p).volatile.vote) ≡ true)
      →
      News
      (w.post ++ sent P w p (m_merge a q))
      (record { ballot = (the w p).core.ballot; clock = clock_stamp P (merges P w p a); table = (merges P w p a).core.table })
  unfolding new_states merged
  merge_sent a q =
      let A = another P (own_of (the w p)) (own_low a.sound) in
      let i = each_in P (λ r. same_home P r (own_of (the w p)) && not (eqb r.0 (own_of (the w p)).0))
      (λ to. new_state (own_of (the w p)) to
      (record { ballot = (the w p).core.ballot; clock = clock_stamp P (merges P w p a); table = (merges P w p a).core.table }))
      A.box
      A.known
      (and_both (same_home P A.box (own_of (the w p))) _ (same_home_is P A.box (own_of (the w p)) A.home)
      (not_off (ne_eqb A.box.0 (own_of (the w p)).0 A.other)))
      in
      record { from = own_of (the w p); to = A.box; there = in_right w.post _ i }

  pub mode : (m : Move P w p) → ModeStep P w p (box P w p m)
  unfolding kept accepted committed delivered joined merged followed leading cut
  mode (m_post j) = mode_same refl refl refl
  mode (m_retry j) = mode_same refl refl refl
  mode m_stand = mode_same refl refl refl
  mode m_cut = mode_same refl refl refl
  mode (m_propose a n) =
      let e = proposed_is a n in
      mode_same (ap (λ (x : BoxState). x.core.ballot) e) (ap (λ (x : BoxState). x.core.cballot) e) (ap (λ (x : BoxState). x.core.status) e)
  mode (m_again a n) = mode_same refl refl refl
  mode (m_keep a) = mode_same refl refl refl
  mode (m_accept a f) = mode_same refl refl refl
  mode (m_mark a) = mode_same refl refl refl
  mode (m_commit a f) =
      let e = (commit_hands a f).box_is in
      mode_same (ap (λ (x : BoxState). x.core.ballot) e) (ap (λ (x : BoxState). x.core.cballot) e) (ap (λ (x : BoxState). x.core.status) e)
  mode (m_deliver a) = mode_same refl refl refl
  mode (m_join a) = mode_join a refl refl refl refl
  mode (m_hold a) = mode_same refl refl refl
  mode (m_merge a q) = mode_merge a refl refl refl
  mode (m_state a) = mode_state a refl refl refl refl
  mode (m_lead a) =
      let e = (lead_hands a).box_is in
      mode_lead
      a
      (ap (λ (x : BoxState). x.core.ballot) e)
      (ap (λ (x : BoxState). x.core.cballot) e)
      (ap (λ (x : BoxState). is_recovering x.core.status) e)

  -- an accepted job in phase 3 keeps its row
  accept_step : (a : Accepting P w p) (f : all_kept P (keeps P w p a) a.j ≡ true) {l : List Rec}
      → (eqb (row_at (the w p) a.j).phase 3 ≡ true) ⊎ (eqb (row_at (the w p) a.j).phase 3 ≡ false) → TableStep P w p (box P w p (m_accept a f)) l
  unfolding accepted accepted_row kept row_at
  accept_step a f (inl t) =
      let q : accepted_row (row_at (the w p) a.j) (kept_stamp (keeps P w p a) a.j (home_in P (the w p))) ≡ row_at (the w p) a.j = pick_true _ _ t in
      still refl (raised_left (the w p).core.clock _)
      (ap (λ (r : Row). set (the w p).core.table a.j r) q ∙ set-get_or (the w p).core.table a.j no_row)
  accept_step a f (inr t) =
      wrote refl (raised_left (the w p).core.clock _) a.j _ a.named refl
      (accepts a refl f (eqb-false (row_at (the w p) a.j).phase 3 t) refl (pick_false _ _ t))

  -- a mark changes no kept ACCEPT
  pub commit_row : (a : Acking P w p) → ◌≡◌ {A = Row}
      (record { phase = 3; local = kept_stamp (marks P w p a) a.j (home_in P (the w p)); global = latest_kept P (marks P w p a) a.j P.districts })
      (record { phase = 3; local = kept_stamp (the w p) a.j (home_in P (the w p)); global = latest_kept P (the w p) a.j P.districts })
  unfolding kept_stamp latest_kept
  commit_row a = refl

  pub table_step : (m : Move P w p) → TableStep P w p (box P w p m) (w.post ++ sent P w p m)
  unfolding kept committed delivered joined followed leading row_at cut
  table_step (m_post j) = still refl (omega arith) refl
  table_step (m_retry j) = still refl (omega arith) refl
  table_step m_stand = still refl (omega arith) refl
  table_step m_cut = still refl (omega arith) refl
  table_step (m_propose a n) =
      let e = proposed_is a n in
      let c : (proposed P (the w p) a.j).core.clock ≡ (the w p).core.clock + 1 = ap (λ (x : BoxState). x.core.clock) e in
      wrote
      (ap (λ (x : BoxState). x.core.cballot) e)
      (omega arith)
      a.j
      _
      a.named
      (ap (λ (x : BoxState). x.core.table) e)
      (proposes a refl n c (propose_sent a n) refl)
  table_step (m_again a n) = still refl (omega arith) refl
  table_step (m_keep a) = still refl (omega arith) refl
  table_step (m_accept a f) = accept_step a f (look (eqb (row_at (the w p) a.j).phase 3))
  table_step (m_mark a) = still refl (omega arith) refl
  table_step (m_commit a f) =
      let e = (commit_hands a f).box_is in
      let c : (box P w p (m_commit a f)).core.clock ≡ (the w p).core.clock = ap (λ (x : BoxState). x.core.clock) e in
      wrote
      (ap (λ (x : BoxState). x.core.cballot) e)
      (omega arith)
      a.j
      _
      a.named
      (ap (λ (x : BoxState). x.core.table) e)
      (commits_it a refl f c (commit_row a))
  table_step (m_deliver a) = wrote refl (raised_left (the w p).core.clock _) a.j _ a.named refl (delivers_it a refl refl refl)
  table_step (m_join a) = still refl (omega arith) refl
  table_step (m_hold a) = still refl (omega arith) refl
  table_step (m_merge a q) = merged_it a q refl (merge_sent a q)
  table_step (m_state a) = took a refl refl refl
  table_step (m_lead a) =
      let e = (lead_hands a).box_is in
      let c : (box P w p (m_lead a)).core.clock ≡ (the w p).core.clock = ap (λ (x : BoxState). x.core.clock) e in
      still (ap (λ (x : BoxState). x.core.cballot) e) (omega arith) (ap (λ (x : BoxState). x.core.table) e)
