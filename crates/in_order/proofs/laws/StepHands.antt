-- Hand-outs: every move keeps I6 and I5a.
-- Work is where DELIVERs are written (kinds 3 and 8), in kind 1 (a new stamp is late) and in the merge (flags cleared).
use Prim.Native.Nat.{ℕ, ◌+◌, ◌≤◌, ◌<◌}
use mathlib.Core.Bool.{true, false}
use mathlib.Core.List.{List}
use mathlib.Core.Logic.{◌⊎◌, inl, inr, ◌≢◌}
use mathlib.Core.Path.{◌≡◌, refl, sym, ap, ◌∙◌, subst}
use native.Mathlib.Decide.{ℕ_discrete}
use native.Mathlib.Omega.{arith}
use lib.ListN.{length, replicate}
use lib.Seq.{get_or-set_other}
use Rattle.laws.proofs.laws.Choice.{look, never}
use Rattle.laws.specs.Place.{In}
use Rattle.laws.proofs.laws.Place.{Begins, Side, before, after, at_side, at_lt, at_right, in_right}
use Rattle.house.specs.Limits.{most_jobs}
use Rattle.house.specs.Pairs.{stamp_lt, stamp, no_row}
use Rattle.house.proofs.laws.Orders.{ballot_order, stamp_order}
use Rattle.house.specs.declared.Stamp.{Stamp}
use Rattle.house.specs.declared.Ballot.{Ballot}
use Rattle.house.specs.declared.BoxNo.{BoxNo}
use Rattle.house.specs.declared.District.{District}
use Rattle.house.specs.declared.Row.{Row}
use Rattle.house.specs.Plan.{boxes_of, home_of}
use Rattle.house.proofs.laws.Says.{plan_says, names_job}
use Rattle.house.specs.declared.Plan.{Plan}
use Rattle.records.specs.Rec.{Rec, deliver}
use Rattle.records.specs.declared.Handout.{Handout}
use Rattle.records.specs.declared.NewState.{NewState}
use Rattle.boxes.specs.Box.{own_of, home_in, row_at, sent_at}
use Rattle.boxes.specs.Accept.{kept, accepted}
use Rattle.boxes.specs.AcceptAck.{committed}
use Rattle.boxes.specs.Deliver.{delivered}
use Rattle.boxes.specs.Newleader.{joined}
use Rattle.boxes.specs.Merge.{merged}
use Rattle.boxes.specs.NewState.{followed}
use Rattle.boxes.specs.NewstateAck.{leading}
use Rattle.boxes.specs.Cut.{cut}
use Rattle.boxes.specs.declared.BoxState.{BoxState}
use Rattle.world.specs.World.{World}
use Rattle.in_order.proofs.laws.Compare.{Upto, Within, strict, equal, within, Sooner, lt_not, lt_to_le, Compared, under, level, over, compare}
use Rattle.in_order.proofs.laws.Laws.{one_value, sooner_time}
use Rattle.in_order.proofs.laws.Notions.{the, row_in, Ack, Del, DelAt, Lam, Timed, Stay, Final}
use Rattle.in_order.proofs.laws.Inv.{Forms, Held, Handed, later, earlier, Before, Inv, State}
use Rattle.in_order.proofs.laws.Grow.{del_cases, del_up, del_at_up, before_up, cert_up, lam_up}
use Rattle.in_order.proofs.laws.HandOut.{Ready, ready_says, ready_is, above_says, above_down, open_is, handout}
use Rattle.in_order.proofs.laws.Moves.{Voting, Stating, Move, m_post, m_retry, m_stand, m_cut, m_propose, m_again, m_keep, m_accept, m_mark, m_commit}
use Rattle.in_order.proofs.laws.Moves.{m_deliver, m_join, m_hold, m_merge, m_state, m_lead, commits, box, sent, next}
use Rattle.in_order.proofs.laws.Steps.{Hand, commit_hands, lead_hands, proposed_is}
use Rattle.in_order.proofs.laws.Origins.{Stamped, new_stamp, old_stamp, Asks, HandFrom, by_commit, by_lead, AccNew, acc_new, DelNew, del_new, news_new}
use Rattle.in_order.proofs.laws.Next.{grows, mover, others_next}
use Rattle.in_order.proofs.laws.StepBallots.{no_news_yet, fresh_news}
use Rattle.in_order.proofs.laws.StepHolds.{held_mid, at_row}
use Rattle.in_order.proofs.laws.StepLocals.{LamStep, lam_old, lam_state, lam_ask, lam_step, leader_waits, l1_next, head, low, hand_ballot, hand_sent}
use Rattle.in_order.proofs.laws.StepLocals.{hand_head, at_place}
use Rattle.in_order.proofs.laws.StepAcks.{final_new}
use Rattle.in_order.proofs.laws.CoreBase.{lam_one, del_news, lam_job}
use Rattle.in_order.proofs.laws.Commit.{own_mark, kept_own}
use Rattle.in_order.proofs.laws.Facts.{leads_real, phase_most}

-- how the flags change
data FlagStep (P : Plan) (w : World) (p : BoxNo) (m : Move P w p) : Type 0 where
  flag_same : (box P w p m).core.sent ≡ (the w p).core.sent → (box P w p m).core.cballot ≡ (the w p).core.cballot → FlagStep P w p m
  flag_state : (a : Stating P w p) → (box P w p m).core.cballot ≡ a.y.ballot → FlagStep P w p m
  flag_merge : (a : Voting P w p) → (box P w p m).core.sent ≡ replicate most_jobs false → (box P w p m).core.cballot ≡ (the w p).core.ballot → FlagStep P w p m
  flag_hand : (y : BoxState) → HandFrom P w p y → Hand P w p m y → FlagStep P w p m

module _ (P : Plan) (w : World) (p : BoxNo) (known : p.0 < boxes_of P) (F : Forms P w) where
  flag_step : (m : Move P w p) → FlagStep P w p m
  unfolding kept accepted delivered joined merged followed cut
  flag_step (m_post j) = flag_same refl refl
  flag_step (m_retry j) = flag_same refl refl
  flag_step m_stand = flag_same refl refl
  flag_step m_cut = flag_same refl refl
  flag_step (m_propose a n) =
      let e = proposed_is P w p known F a n in flag_same (ap (λ (x : BoxState). x.core.sent) e) (ap (λ (x : BoxState). x.core.cballot) e)
  flag_step (m_again a n) = flag_same refl refl
  flag_step (m_keep a) = flag_same refl refl
  flag_step (m_accept a f) = flag_same refl refl
  flag_step (m_mark a) = flag_same refl refl
  flag_step (m_commit a f) = flag_hand (commits P w p a) (by_commit a f refl) (commit_hands P w p known F a f)
  flag_step (m_deliver a) = flag_same refl refl
  flag_step (m_join a) = flag_same refl refl
  flag_step (m_hold a) = flag_same refl refl
  flag_step (m_merge a q) = flag_merge a refl refl
  flag_step (m_state a) = flag_state a refl
  flag_step (m_lead a) = flag_hand (leading (the w p)) (by_lead a refl) (lead_hands P w p known F a)

-- a DELIVER in a longer post
del_pair : {l l' : List Rec} {j : ℕ} {b c : Ballot} → Begins l l' → b ≡ c → (s t : Stamp) × Del l j c s t → (s t : Stamp) × Del l' j b s t
del_pair B e z = (z.0, z.1, rw e (del_up B z.2))

del_at_is : {l : List Rec} {i k : ℕ} {b c : Ballot} {s t u : Stamp} → b ≡ c → t ≡ u → DelAt l i k c s t → DelAt l i k b s u
del_at_is e q h = rw (e, ← q) h

below_is : (P : Plan) (f : District → Ballot) {b c : Ballot} {g : District} → b ≡ c → home_of P b.owner ≡ g → Upto (f g) c → Upto (f (home_of P b.owner)) b
below_is P f {b} {c} {g} e h u = subst (λ (d : District). Upto (f d) b) (sym h) (subst (λ (a : Ballot). Upto (f g) a) (sym e) u)

module _ (P : Plan) (w : World) (p : BoxNo) (known : p.0 < boxes_of P) (m : Move P w p) (I : Inv P w) (S : State P w) where
  F : Forms P w
  F = I.forms

  -- the ballot of a new DELIVER is the mover's
  pub del_ballot : {i j : ℕ} {from : BoxNo} {b : Ballot} {s t : Stamp} → DelNew P w p m i j from b s t → b ≡ (the w p).core.cballot
  del_ballot N = ap (λ (o : Handout). o.ballot) N.is ∙ hand_ballot P w p known m I N.y N.hand_from

  -- a box that merges has handed out nothing in its ballot
  no_del : (a : Voting P w p) {j : ℕ} {s t : Stamp} {A : Type 0} → Del w.post j (the w p).core.ballot s t → A
  no_del a h = no_news_yet P w p known m I a (del_news I h)

  -- ---- I6

  sent_new : {i j : ℕ} {b : Ballot} {s t : Stamp} → DelAt (sent P w p m) i j b s t → sent_at (box P w p m) j ≡ true
  unfolding sent_at
  sent_new {i} {j} h = let N = del_new P w p known F m h in rw (ap (λ (x : BoxState). x.core.sent) N.hand.box_is) (N.hand.turned.flags i h.there)

  sent_old : FlagStep P w p m → p ≡ (box P w p m).core.cballot.owner → (j : ℕ) (s t : Stamp) → Del w.post j (box P w p m).core.cballot s t
      → sent_at (box P w p m) j ≡ true
  unfolding sent_at
  sent_old (flag_same e c) o j s t h = rw e (I.hands.i6_sent p known (o ∙ ap (λ (b : Ballot). b.owner) c) (rw c at h))
  sent_old (flag_state a c) o j s t h = absurd (a.facts.apart.other (sym a.facts.mine ∙ sym (ap (λ (b : Ballot). b.owner) c) ∙ sym o))
  sent_old (flag_merge a e c) o j s t h = no_del a (rw c at h)
  sent_old (flag_hand y f K) o j s t h =
      let c : (box P w p m).core.cballot ≡ (the w p).core.cballot = ap (λ (x : BoxState). x.core.cballot) K.box_is ∙ hand_ballot P w p known m I y f in
      rw (ap (λ (x : BoxState). x.core.sent) K.box_is)
      (K.turned.stays j (hand_sent P w p known m I y f j ∙ I.hands.i6_sent p known (hand_head P w p known m I y f) (rw c at h)))

  pub i6_sent_next : (q : BoxNo) → q.0 < boxes_of P → q ≡ (the (next P w p m) q).core.cballot.owner → (j : ℕ) (s t : Stamp)
      → Del (next P w p m).post j (the (next P w p m) q).core.cballot s t
      → sent_at (the (next P w p m) q) j ≡ true
  i6_sent_next =
      others_next
      P
      w
      p
      known
      F
      m
      (λ q y. q ≡ y.core.cballot.owner → (j : ℕ) (s t : Stamp) → Del (next P w p m).post j y.core.cballot s t → sent_at y j ≡ true)
      (λ o j s t h. mine o j s t (del_cases w.post (sent P w p m) h)) (λ q l n o j s t h. theirs q l n o j s t (del_cases w.post (sent P w p m) h))
    where
      mine : p ≡ (box P w p m).core.cballot.owner → (j : ℕ) (s t : Stamp)
          → Del w.post j (box P w p m).core.cballot s t ⊎ Del (sent P w p m) j (box P w p m).core.cballot s t
          → sent_at (box P w p m) j ≡ true
      mine o j s t (inl h) = sent_old (flag_step P w p known F m) o j s t h
      mine o j s t (inr h) = sent_new (at_place P w p known m I h)

      theirs : (q : BoxNo) → q.0 < boxes_of P → q ≢ p → q ≡ (the w q).core.cballot.owner → (j : ℕ) (s t : Stamp)
          → Del w.post j (the w q).core.cballot s t ⊎ Del (sent P w p m) j (the w q).core.cballot s t → sent_at (the w q) j ≡ true
      theirs q l n o j s t (inl h) = I.hands.i6_sent q l o h
      theirs q l n o j s t (inr h) =
          let N = del_new P w p known F m (at_place P w p known m I h) in
          absurd (n (o ∙ ap (λ (b : Ballot). b.owner) (del_ballot N) ∙ sym (hand_head P w p known m I N.y N.hand_from)))

  pub i6_del_next : (q : BoxNo) → q.0 < boxes_of P → q ≡ (the (next P w p m) q).core.cballot.owner → 1 ≤ (the (next P w p m) q).core.cballot.number → (j : ℕ)
      → j < P.jobs
      → sent_at (the (next P w p m) q) j ≡ true → (s t : Stamp) × Del (next P w p m).post j (the (next P w p m) q).core.cballot s t
  unfolding sent_at
  i6_del_next =
      others_next P w p known F m
      (λ q y.
      q ≡ y.core.cballot.owner
      → 1 ≤ y.core.cballot.number
      → (j : ℕ)
      → j < P.jobs
      → sent_at y j ≡ true
      → (s t : Stamp) × Del (next P w p m).post j y.core.cballot s t)
      (mine (flag_step P w p known F m)) (λ q l n o r j lj h. del_pair (grows P w p known F m) refl (I.hands.i6_del q l o r j lj h))
    where
      mine : FlagStep P w p m → p ≡ (box P w p m).core.cballot.owner → 1 ≤ (box P w p m).core.cballot.number → (j : ℕ) → j < P.jobs
          → sent_at (box P w p m) j ≡ true
          → (s t : Stamp) × Del (next P w p m).post j (box P w p m).core.cballot s t
      mine (flag_same e c) o r j lj h =
          del_pair (grows P w p known F m) c (I.hands.i6_del p known (o ∙ ap (λ (b : Ballot). b.owner) c) (rw c at r) j lj (rw e at h))
      mine (flag_state a c) o r j lj h = absurd (a.facts.apart.other (sym a.facts.mine ∙ sym (ap (λ (b : Ballot). b.owner) c) ∙ sym o))
      mine (flag_merge a e c) o r j lj h = never (rw e at h) (one_value most_jobs j false)
      mine (flag_hand y f K) o r j lj h = then (K.turned.set_for j (rw (ap (λ (x : BoxState). x.core.sent) K.box_is) at h))
        where
          c : (box P w p m).core.cballot ≡ y.core.cballot
          c = ap (λ (x : BoxState). x.core.cballot) K.box_is

          then : (sent_at y j ≡ true) ⊎ In (deliver (own_of y) (own_of y) j (handout y j)) (sent P w p m)
              → (s t : Stamp) × Del (next P w p m).post j (box P w p m).core.cballot s t
          then (inl t) =
              let e : (box P w p m).core.cballot ≡ (the w p).core.cballot = c ∙ hand_ballot P w p known m I y f in
              del_pair
              (grows P w p known F m)
              e
              (I.hands.i6_del p known (hand_head P w p known m I y f) (rw e at r) j lj (sym (hand_sent P w p known m I y f j) ∙ t))
          then (inr i) = ((row_at y j).local, (row_at y j).global, rw c (record { from = own_of y; to = own_of y; there = in_right w.post (sent P w p m) i }))

  -- ---- I5a, a new local stamp: it is above the clock, and the clock is not below a stamp handed out

  handed_time : {j : ℕ} {s t : Stamp} → p ≡ (the w p).core.cballot.owner → Del w.post j (the w p).core.cballot s t → t.time ≤ (the w p).core.clock
  handed_time {j} {s} {t} o h = go (within ballot_order G.below)
    where
      c : Ballot
      c = (the w p).core.cballot

      g : District
      g = home_of P (the w p).core.cballot.owner

      G : Final P w.post j (home_of P (the w p).core.cballot.owner) (the w p).core.cballot s t
      G = I.acks.i3d h

      -- a clock that is not below the certificate's parts
      from : {k : ℕ} → Timed w.post j (G.vector G.cert.top) k → t.time ≤ k
      from T = let e = I.locals.i1a T.acc G.cert.attained in rw e at T.upto

      go : Within Rattle.house.specs.Pairs.ballot_lt (G.vector (home_of P (the w p).core.cballot.owner)) (the w p).core.cballot
          → t.time ≤ (the w p).core.clock
      go (equal e) =
          let q : (G.vector (home_of P (the w p).core.cballot.owner)).owner ≡ p = ap (λ (b : Ballot). b.owner) e ∙ sym o in
          let A : Ack P w.post p j G.vector = subst (λ (r : BoxNo). Ack P w.post r j G.vector) q G.own in
          let e' : G.vector (home_of P p) ≡ (the w p).core.cballot = ap (λ (r : BoxNo). G.vector (home_of P r)) o ∙ e in
          from (((I.acks.a1b A).stay e').times G.cert.top G.cert.named)
      go (strict u) =
          let N = del_news I h in
          let T = S.i2n G.named (G.cert.each g G.named).quorum N.news (ap (λ (b : Ballot). home_of P b.owner) N.ballot) (rw N.ballot u) in
          let k = from (T.times G.cert.top G.cert.named) in
          let q = (I.holds.of_box p known).j4 N.state N.news N.ballot in
          omega arith

  -- ---- I5a, a new DELIVER

  -- a commit or a new leader proposes nothing
  asks_not : {k : ℕ} {s : Stamp} {A : Type 0} (y : BoxState) → HandFrom P w p y → Hand P w p m y → Asks P w p m k s → (row_in (the w p).core.table k).phase ≡ 0
      → A
  unfolding committed
  asks_not y (by_lead a e) K Q z = leader_waits (the w p).core.status Q.lead a.waits
  asks_not {k} y (by_commit a t e) K Q z = go (ℕ_discrete k a.j)
    where
      table : (box P w p m).core.table ≡ (commits P w p a).core.table
      table = ap (λ (x : BoxState). x.core.table) K.box_is ∙ ap (λ (x : BoxState). x.core.table) e

      others : k ≢ a.j → row_in (commits P w p a).core.table k ≡ row_in (the w p).core.table k
      others n = get_or-set_other (the w p).core.table a.j k _ no_row n

      own : Stay P w.post a.j (Rattle.boxes.specs.Box.kept_ballot (the w p) a.j) (home_of P p) (the w p).core.clock (the w p).core.table
      own =
          (I.acks.a1b (own_mark P w p known m I a t)).stay
          (subst
          (λ (q : BoxNo). Rattle.boxes.specs.Box.kept_ballot (the w p) a.j (home_of P q) ≡ (the w p).core.cballot)
          (F.box p known).own
          (kept_own P w p known m I a t))

      go : {A : Type 0} → Dec (k ≡ a.j) → A
      go (yes q) = let h = own.phase in let z' = rw q at z in absurd (omega arith)
      go (no n) = absurd (Q.phase (ap (λ (x : List Row). (row_in x k).phase) table ∙ ap (λ (r : Row). r.phase) (others n) ∙ z))

  pub hand_real : (y : BoxState) → HandFrom P w p y → 1 ≤ (the w p).core.cballot.number
  hand_real y (by_lead a e) = rw a.current at a.facts.real
  hand_real y (by_commit a t e) = leads_real a.sound a.lead

  -- phases of the box that hands out
  hand_most : (y : BoxState) → HandFrom P w p y → (k : ℕ) → k < P.jobs → (row_in y.core.table k).phase ≤ 3
  unfolding committed leading
  hand_most y (by_lead a e) k l = rw e (phase_most a.sound k l)
  hand_most y (by_commit a t e) k l =
      rw e (at_row (the w p).core.table a.j _ k (λ r. r.phase ≤ 3)
      (omega (arith, names_job P a.j (home_in P (the w p)) a.named, (plan_says P F.plan).jobs_most, (F.box p known).table))
      (λ _. omega arith)
      (λ _. phase_most a.sound k l))

  module _ {n j : ℕ} {from : BoxNo} {b : Ballot} {s t : Stamp} (N : DelNew P w p m n j from b s t) {k : ℕ} (apart : k ≢ j) {u : Stamp}
      (L : Lam P w.post b k u) (below : Sooner u t) where
    y : BoxState
    y = N.y

    H : Held P w.post (home_of P p) N.y.core.cballot N.y.core.clock N.y.core.table
    H = held_mid P w p known m I S N.y N.hand_from

    lk : k < P.jobs
    lk = lam_job I L

    table : (box P w p m).core.table ≡ N.y.core.table
    table = ap (λ (x : BoxState). x.core.table) N.hand.box_is

    ballot : b ≡ N.y.core.cballot
    ballot = ap (λ (o : Handout). o.ballot) N.is

    global : t ≡ (row_at N.y j).global
    global = ap (λ (o : Handout). o.global) N.is

    -- the job has a row, whose local stamp is lam
    some : (row_at N.y k).phase ≢ 0
    unfolding row_at
    some =
        let c : (box P w p m).core.cballot ≡ b = ap (λ (x : BoxState). x.core.cballot) N.hand.box_is ∙ sym ballot in
        let o : p ≡ (box P w p m).core.cballot.owner =
        hand_head P w p known m I N.y N.hand_from ∙ sym (ap (λ (c : Ballot). c.owner) (c ∙ del_ballot N)) in
        let h = l1_next P w p known m I p known in
        let h' =
        subst
        (λ (x : BoxState).
        p ≡ x.core.cballot.owner → (i : ℕ) (r : Stamp) → Lam P (next P w p m).post x.core.cballot i r → (row_in x.core.table i).phase ≢ 0)
        (mover P w p known F m)
        h in
        rw table at (h' o k u (rw c (lam_up (grows P w p known F m) L)))

    local : (row_at N.y k).local ≡ u
    unfolding row_at
    local = lam_one I (H.l2 k lk some) (rw ballot at L)

    R : Ready P N.y j
    R = ready_says P N.y j N.ready_it

    -- it is committed: an open job would be above
    done : (row_at N.y k).phase ≡ 3
    unfolding row_at
    done = go (ℕ_discrete (row_at N.y k).phase 3)
      where
        go : Dec ((row_at N.y k).phase ≡ 3) → (row_at N.y k).phase ≡ 3
        go (yes e) = e
        go (no e) =
            let o = open_is N.y k some e (hand_most N.y N.hand_from k lk) in
            let a : Sooner (row_at N.y j).global (row_at N.y k).local = above_says P N.y (row_at N.y j).global R.above k lk o in
            lt_not stamp_order below (lt_to_le stamp_order (rw (← global, local) at a))

    G : Final P w.post k (home_of P p) N.y.core.cballot (row_at N.y k).local (row_at N.y k).global
    unfolding row_at
    G = H.i3 k lk done

    -- it went out before: now, or in an earlier step
    went : Sooner (row_at N.y k).global t → Handed (next P w p m).post (length w.post + n) k b t (row_at N.y k).global
    went e = go (look (sent_at N.y k))
      where
        go : (sent_at N.y k ≡ true) ⊎ (sent_at N.y k ≡ false) → Handed (next P w p m).post (length w.post + n) k b t (row_at N.y k).global
        go (inr f) =
            let r =
            ready_is
            P
            N.y
            k
            (record { phase = done; fresh = f; above = above_down P N.y (row_at N.y k).global (row_at N.y j).global R.above (rw global at e) }) in
            let z = N.first k lk r (rw global at e) in
            let i = z.1 in
            earlier (length w.post + z.0) (omega arith) (row_at N.y k).local
            (del_at_is ballot refl (record { from = z.2.from; to = z.2.to; there = at_right w.post (sent P w p m) z.0 z.2.there }))
        go (inl f) =
            let c = hand_ballot P w p known m I N.y N.hand_from in
            let o = hand_head P w p known m I N.y N.hand_from in
            let z = I.hands.i6_del p known o (hand_real N.y N.hand_from) k lk (sym (hand_sent P w p known m I N.y N.hand_from k) ∙ f) in
            let D = z.2 in
            let q = S.i4a (I.acks.i3d D).cert G.cert in
            let i = at_lt w.post D.there.place D.there.there in
            earlier D.there.place (omega arith) z.0 (del_at_is (del_ballot N) q (del_at_up (grows P w p known F m) (at_place P w p known m I D)))

    before_new : Before P (next P w p m).post (length w.post + n) k b t
    before_new =
        record {
          stamp = (row_at N.y k).global;
          vector = G.vector;
          cert = cert_up (grows P w p known F m) G.cert;
          below = below_is P G.vector ballot home G.below;
          handed = go (compare stamp_order (row_at N.y k).global t);
        }
      where
        home : home_of P b.owner ≡ home_of P p
        home = ap (λ (c : Ballot). home_of P c.owner) (del_ballot N) ∙ sym (ap (home_of P) (hand_head P w p known m I N.y N.hand_from))

        go : Compared stamp_lt (row_at N.y k).global t → Handed (next P w p m).post (length w.post + n) k b t (row_at N.y k).global
        go (under e) = went e
        go (level e) = absurd (S.i4b G.cert (final_new P w p known m I S N).cert apart e)
        go (over e) = later e

  -- ---- I5a

  pub i5a' : {i j k : ℕ} {b : Ballot} {s t u : Stamp} → DelAt (next P w p m).post i j b s t → k ≢ j → Lam P (next P w p m).post b k u → Sooner u t
      → Before P (next P w p m).post i k b t
  i5a' {i} {j} {k} {b} {s} {t} {u} h n L e = go (at_side w.post (sent P w p m) i h.there) (lam_step w.post (sent P w p m) L)
    where
      old : DelAt w.post i j b s t → Del w.post j b s t
      old d = record { from = d.from; to = d.to; there = record { place = i; there = d.there } }

      -- an old DELIVER and a new ACCEPT
      asked_new : DelAt w.post i j b s t → (A : AccNew P w p m k b u) → Stamped P (the w p) k u → Before P (next P w p m).post i k b t
      asked_new d A (old_stamp z q) =
          before_up (grows P w p known F m) (I.hands.i5a d n (rw (A.ballot, q) ((I.holds.of_box p known).l2 k (low P w p known m I A.asks) z)) e)
      asked_new d A (new_stamp z q) =
          let x = handed_time (head P w p known m I A.asks) (rw A.ballot at (old d)) in
          let y = sooner_time e in
          let v : u.time ≡ (the w p).core.clock + 1 = ap (λ (r : Stamp). r.time) q in
          absurd (omega arith)

      -- a new DELIVER and a new ACCEPT
      both_new : {a : ℕ} {from : BoxNo} → (N : DelNew P w p m a j from b s t) → (A : AccNew P w p m k b u) → Stamped P (the w p) k u → Lam P w.post b k u
      both_new N A (old_stamp z q) = rw (A.ballot, q) ((I.holds.of_box p known).l2 k (low P w p known m I A.asks) z)
      both_new N A (new_stamp z q) = asks_not N.y N.hand_from N.hand A.asks z

      lam_before : {a : ℕ} {from : BoxNo} → DelNew P w p m a j from b s t → LamStep P w.post (sent P w p m) b k u → Lam P w.post b k u
      lam_before N (lam_old o) = o
      lam_before N (lam_state y i q z) =
          let M = news_new P w p known F m i in
          absurd (M.a.pending (sym (del_ballot N) ∙ sym q ∙ ap (λ (x : NewState). x.ballot) M.is))
      lam_before N (lam_ask i) = let A = acc_new P w p known F m i in both_new N A A.asks.stamped

      go : Side w.post (sent P w p m) i (deliver h.from h.to j (record { ballot = b; local = s; global = t }))
          → LamStep P w.post (sent P w p m) b k u → Before P (next P w p m).post i k b t
      go (before d) (lam_old o) = before_up (grows P w p known F m) (I.hands.i5a (record { from = h.from; to = h.to; there = d }) n o e)
      go (before d) (lam_state y i q z) = fresh_news P w p known m I i (rw q (del_news I (old (record { from = h.from; to = h.to; there = d }))))
      go (before d) (lam_ask i) = let A = acc_new P w p known F m i in asked_new (record { from = h.from; to = h.to; there = d }) A A.asks.stamped
      go (after a q d) X =
          let N = del_new P w p known F m {i = a} {j = j} {b = b} {s = s} {t = t} (record { from = h.from; to = h.to; there = d }) in
          rw q (before_new N n (lam_before N X) e)
