-- Where a new record comes from: one view of what a move sends, and from it the facts behind a new record of each kind.
-- Case analysis over moves for records happens here only.
use Prim.Native.Nat.{ℕ, ◌+◌, ◌<◌}
use mathlib.Core.Bool.{true}
use mathlib.Core.List.{List}
use mathlib.Core.Logic.{◌≢◌}
use mathlib.Core.Path.{◌≡◌, refl, sym, ap, ◌∙◌}
use native.Mathlib.Omega.{arith}
use lib.Dec.{leb}
use lib.Seq.{get_or-set_same}
use Rattle.laws.specs.Place.{At, In}
use Rattle.laws.proofs.laws.Place.{at_nil, in_one}
use Rattle.house.specs.Pairs.{stamp, no_stamp, no_row}
use Rattle.house.specs.declared.Stamp.{Stamp}
use Rattle.house.specs.declared.Ballot.{Ballot}
use Rattle.house.specs.declared.BoxNo.{BoxNo}
use Rattle.house.specs.declared.District.{District}
use Rattle.house.specs.declared.Row.{Row}
use Rattle.house.specs.Plan.{boxes_of, quorum_of, names}
use Rattle.house.proofs.laws.Says.{plan_says, names_job}
use Rattle.house.specs.declared.Plan.{Plan}
use Rattle.records.specs.Rec.{Rec, multicast, accept, accept_ack, deliver, newleader, newleader_ack, new_state}
use Rattle.records.specs.declared.Proposal.{Proposal}
use Rattle.records.specs.declared.Handout.{Handout}
use Rattle.records.specs.declared.Ballotpaper.{Ballotpaper}
use Rattle.records.specs.declared.NewState.{NewState}
use Rattle.records.specs.Rec.{newstate_ack}
use Rattle.boxes.specs.Box.{is_leader, own_of, home_in, row_at, kept_ballot}
use Rattle.boxes.specs.Multicast.{proposed, accepts}
use Rattle.boxes.specs.Accept.{kept, all_kept, accepted, kept_for, kept_vector, acks}
use Rattle.boxes.specs.AcceptAck.{enough}
use Rattle.boxes.specs.Newleader.{joined, vote_for, clock_stamp}
use Rattle.boxes.specs.NewleaderAck.{votes_count, new_states}
use Rattle.boxes.specs.Merge.{merged}
use Rattle.boxes.specs.NewState.{followed}
use Rattle.boxes.specs.NewstateAck.{leading}
use Rattle.boxes.specs.Post.{posts}
use Rattle.boxes.specs.Retry.{retries}
use Rattle.boxes.specs.declared.BoxState.{BoxState}
use Rattle.boxes.proofs.laws.Sound.{SoundBox}
use Rattle.world.specs.World.{World}
use Rattle.in_order.proofs.laws.Notions.{the, row_in, ballot_at, Acc, Ack, DelAt, Voted, News, Nsa}
use Rattle.in_order.proofs.laws.Inv.{Forms}
use Rattle.in_order.proofs.laws.Sends.{clash, in_each}
use Rattle.in_order.proofs.laws.HandOut.{Gone, handout}
use Rattle.in_order.proofs.laws.Moves.{Multicasting, Accepting, Acking, Joining, Voting, Stating, Leading, Move, m_post, m_retry, m_stand, m_cut}
use Rattle.in_order.proofs.laws.Moves.{m_propose, m_again, m_keep, m_accept, m_mark, m_commit, m_deliver, m_join, m_hold, m_merge, m_state, m_lead}
use Rattle.in_order.proofs.laws.Moves.{keeps, marks, commits, merges, box, sent}
use Rattle.in_order.proofs.laws.Steps.{Hand, commit_hands, lead_hands, proposed_is}

-- the stamp that an ACCEPT of job j carries: a new one, or the stored one
pub data Stamped (P : Plan) (x : BoxState) (j : ℕ) (s : Stamp) : Type 0 where
  new_stamp : (row_in x.core.table j).phase ≡ 0 → s ≡ stamp (x.core.clock + 1) (home_in P x).0 → Stamped P x j s
  old_stamp : (row_in x.core.table j).phase ≢ 0 → s ≡ (row_in x.core.table j).local → Stamped P x j s

pub record Asks (P : Plan) (w : World) (p : BoxNo) (m : Move P w p) (j : ℕ) (s : Stamp) : Type 0 where
  pub sound : SoundBox P (the w p)
  pub named : names P j (home_in P (the w p)) ≡ true
  pub lead : is_leader (the w p).core.status ≡ true
  pub stamped : Stamped P (the w p) j s
  -- after the step
  pub cballot : (box P w p m).core.cballot ≡ (the w p).core.cballot
  pub phase : (row_in (box P w p m).core.table j).phase ≢ 0
  pub local : (row_in (box P w p m).core.table j).local ≡ s

-- the box that hands out: by a commit, or as a new leader
pub data HandFrom (P : Plan) (w : World) (p : BoxNo) (y : BoxState) : Type 0 where
  by_commit : (a : Acking P w p) → enough P (marks P w p a) a.j ≡ true → y ≡ commits P w p a → HandFrom P w p y
  by_lead : (a : Leading P w p) → y ≡ leading (the w p) → HandFrom P w p y

pub data Origin (P : Plan) (w : World) (p : BoxNo) (m : Move P w p) (i : ℕ) (r : Rec) : Type 0 where
  o_multicast : (from to : BoxNo) (j : ℕ) → r ≡ multicast from to j → Origin P w p m i r
  o_newleader : (from to : BoxNo) (b : Ballot) → r ≡ newleader from to b → Origin P w p m i r
  o_accept : (to : BoxNo) (j : ℕ) (s : Stamp) → Asks P w p m j s → r ≡ accept (own_of (the w p)) to j (record { ballot = (the w p).core.cballot; stamp = s })
      → Origin P w p m i r
  o_ack : (to : BoxNo) (a : Accepting P w p) → all_kept P (keeps P w p a) a.j ≡ true → box P w p m ≡ accepted P (keeps P w p a) a.j
      → r ≡ accept_ack (own_of (the w p)) to a.j (kept_vector P (keeps P w p a) a.j) → Origin P w p m i r
  o_deliver : (y : BoxState) → HandFrom P w p y → Hand P w p m y → Gone P y (sent P w p m) i r → Origin P w p m i r
  o_vote : (a : Joining P w p) → box P w p m ≡ joined (the w p) a.b
      → r
      ≡ newleader_ack
      (own_of (the w p))
      a.from
      (record { ballot = a.b; cballot = (the w p).core.cballot; clock = clock_stamp P (the w p); table = (the w p).core.table })
      → Origin P w p m i r
  o_news : (to : BoxNo) (a : Voting P w p) → leb (quorum_of P) (votes_count (the w p).volatile.vote) ≡ true → box P w p m ≡ merges P w p a
      → r
      ≡ new_state (own_of (the w p)) to (record { ballot = (the w p).core.ballot; clock = clock_stamp P (merges P w p a); table = (merges P w p a).core.table })
      → Origin P w p m i r
  o_nsa : (a : Stating P w p) → box P w p m ≡ followed (the w p) a.y → r ≡ newstate_ack (own_of (the w p)) a.from a.y.ballot → Origin P w p m i r

module _ (P : Plan) (w : World) (p : BoxNo) (known : p.0 < boxes_of P) (F : Forms P w) where
  propose_asks : (a : Multicasting P w p) (n : (row_at (the w p) a.j).phase ≡ 0)
      → Asks P w p (m_propose a n) a.j (stamp ((the w p).core.clock + 1) (home_in P (the w p)).0)
  unfolding row_at
  propose_asks a n =
      let e = proposed_is P w p known F a n in
      let low = names_job P a.j (home_in P (the w p)) a.named in
      let few = (plan_says P F.plan).jobs_most in
      let q : row_in (proposed P (the w p) a.j).core.table a.j
      ≡ record { phase = 1; local = stamp ((the w p).core.clock + 1) (home_in P (the w p)).0; global = no_stamp }
      = ap (λ (x : BoxState). row_in x.core.table a.j) e ∙ get_or-set_same (the w p).core.table a.j _ no_row (omega (arith, (F.box p known).table)) in
      record {
        sound = a.sound;
        named = a.named;
        lead = a.lead;
        stamped = new_stamp n refl;
        cballot = ap (λ (x : BoxState). x.core.cballot) e;
        phase = rw q (omega arith);
        local = ap (λ (r : Row). r.local) q;
      }

  again_asks : (a : Multicasting P w p) (n : (row_at (the w p) a.j).phase ≢ 0) → Asks P w p (m_again a n) a.j (row_at (the w p) a.j).local
  unfolding row_at
  again_asks a n = record { sound = a.sound; named = a.named; lead = a.lead; stamped = old_stamp n refl; cballot = refl; phase = n; local = refl }

  propose_sends : (a : Multicasting P w p) (n : (row_at (the w p) a.j).phase ≡ 0) {r : Rec} → In r (sent P w p (m_propose a n))
      → (to : BoxNo)
      × (r ≡ accept (own_of (the w p)) to a.j (record { ballot = (the w p).core.cballot; stamp = stamp ((the w p).core.clock + 1) (home_in P (the w p)).0 }))
  unfolding accepts row_at
  propose_sends a n h =
      let z = in_each h in
      let e = proposed_is P w p known F a n in
      let A = propose_asks a n in
      (z.to, z.is ∙ (λ i. accept (e i).core.own z.to a.j (record { ballot = (e i).core.cballot; stamp = A.local i })))

  ack_is : (a : Accepting P w p) (to : BoxNo)
      → accept_ack (own_of (accepted P (keeps P w p a) a.j)) to a.j (kept_vector P (accepted P (keeps P w p a) a.j) a.j)
      ≡ accept_ack (own_of (the w p)) to a.j (kept_vector P (keeps P w p a) a.j)
  unfolding accepted kept kept_vector kept_for kept_ballot
  ack_is a to = refl

  pub origin : (m : Move P w p) (i : ℕ) (r : Rec) → At (sent P w p m) i r → Origin P w p m i r
  unfolding posts retries accepts acks vote_for new_states merged
  origin (m_post j) i r h = let z = in_each (record { place = i; there = h }) in o_multicast _ _ _ z.is
  origin (m_retry j) i r h = let z = in_each (record { place = i; there = h }) in o_multicast _ _ _ z.is
  origin m_stand i r h = let z = in_each (record { place = i; there = h }) in o_newleader _ _ _ z.is
  origin m_cut i r h = absurd (at_nil i h)
  origin (m_propose a n) i r h = let z = propose_sends a n (record { place = i; there = h }) in o_accept z.0 a.j _ (propose_asks a n) z.1
  origin (m_again a n) i r h = let z = in_each (record { place = i; there = h }) in o_accept z.to a.j _ (again_asks a n) z.is
  origin (m_keep a) i r h = absurd (at_nil i h)
  origin (m_accept a f) i r h = let z = in_each (record { place = i; there = h }) in o_ack z.to a f refl (z.is ∙ ack_is a z.to)
  origin (m_mark a) i r h = absurd (at_nil i h)
  origin (m_commit a e) i r h = let H = commit_hands P w p known F a e in o_deliver (commits P w p a) (by_commit a e refl) H (H.turned.gone i r h)
  origin (m_deliver a) i r h = absurd (at_nil i h)
  origin (m_join a) i r h = o_vote a refl (in_one (record { place = i; there = h }))
  origin (m_hold a) i r h = absurd (at_nil i h)
  origin (m_merge a q) i r h = let z = in_each (record { place = i; there = h }) in o_news z.to a q refl z.is
  origin (m_state a) i r h = o_nsa a refl (in_one (record { place = i; there = h }))
  origin (m_lead a) i r h = let H = lead_hands P w p known F a in o_deliver (leading (the w p)) (by_lead a refl) H (H.turned.gone i r h)

-- ---- a new record of each kind

pub record AccNew (P : Plan) (w : World) (p : BoxNo) (m : Move P w p) (j : ℕ) (b : Ballot) (s : Stamp) : Type 0 where
  pub asks : Asks P w p m j s
  pub ballot : b ≡ (the w p).core.cballot

pub record AckNew (P : Plan) (w : World) (p : BoxNo) (m : Move P w p) (q : BoxNo) (j : ℕ) (f : District → Ballot) : Type 0 where
  pub a : Accepting P w p
  pub all : all_kept P (keeps P w p a) a.j ≡ true
  pub by : q ≡ own_of (the w p)
  pub job : a.j ≡ j
  pub entries : (d : District) → names P j d ≡ true → ballot_at (kept_vector P (keeps P w p a) a.j) d ≡ f d
  pub box_is : box P w p m ≡ accepted P (keeps P w p a) a.j

pub record DelNew (P : Plan) (w : World) (p : BoxNo) (m : Move P w p) (i j : ℕ) (from : BoxNo) (b : Ballot) (s t : Stamp) : Type 0 where
  pub y : BoxState
  pub hand_from : HandFrom P w p y
  pub hand : Hand P w p m y
  pub low : j < P.jobs
  pub ready_it : Rattle.boxes.specs.Ready.ready P y j ≡ true
  pub by : from ≡ own_of y
  pub is : ◌≡◌ {A = Handout} (record { ballot = b; local = s; global = t }) (handout y j)
  pub first : (k : ℕ) → k < P.jobs → Rattle.boxes.specs.Ready.ready P y k ≡ true
      → Rattle.in_order.proofs.laws.Compare.Sooner (row_at y k).global (row_at y j).global
      → (i' : ℕ) × (i' < i) × DelAt (sent P w p m) i' k y.core.cballot (row_at y k).local (row_at y k).global

pub record VoteNew (P : Plan) (w : World) (p : BoxNo) (m : Move P w p) (q : BoxNo) (z : Ballotpaper) : Type 0 where
  pub a : Joining P w p
  pub by : q ≡ own_of (the w p)
  pub is : z ≡ record { ballot = a.b; cballot = (the w p).core.cballot; clock = clock_stamp P (the w p); table = (the w p).core.table }
  pub box_is : box P w p m ≡ joined (the w p) a.b

pub record NewsNew (P : Plan) (w : World) (p : BoxNo) (m : Move P w p) (y : NewState) : Type 0 where
  pub a : Voting P w p
  pub enough_votes : leb (quorum_of P) (votes_count (the w p).volatile.vote) ≡ true
  pub is : y ≡ record { ballot = (the w p).core.ballot; clock = clock_stamp P (merges P w p a); table = (merges P w p a).core.table }
  pub box_is : box P w p m ≡ merges P w p a

pub record NsaNew (P : Plan) (w : World) (p : BoxNo) (m : Move P w p) (q : BoxNo) (b : Ballot) : Type 0 where
  pub a : Stating P w p
  pub by : q ≡ own_of (the w p)
  pub ballot : b ≡ a.y.ballot
  pub box_is : box P w p m ≡ followed (the w p) a.y

module _ (P : Plan) (w : World) (p : BoxNo) (known : p.0 < boxes_of P) (F : Forms P w) (m : Move P w p) where
  pub acc_new : {j : ℕ} {b : Ballot} {s : Stamp} → Acc (sent P w p m) j b s → AccNew P w p m j b s
  acc_new {j} {b} {s} h = go (origin P w p known F m h.there.place _ h.there.there)
    where
      go : Origin P w p m h.there.place (accept h.from h.to j (record { ballot = b; stamp = s })) → AccNew P w p m j b s
      go (o_multicast f t k e) = clash (cc)
      go (o_newleader f t c e) = clash (cc)
      go (o_accept to k u A e) =
          let ek : k ≡ j = cc in
          let ey : ◌≡◌ {A = Proposal} (record { ballot = b; stamp = s }) (record { ballot = (the w p).core.cballot; stamp = u }) = cc in
          let es : u ≡ s = sym (ap (λ (y : Proposal). y.stamp) ey) in
          record { asks = rw (ek, es) at A; ballot = ap (λ (y : Proposal). y.ballot) ey }
      go (o_ack to a f q e) = clash (cc)
      go (o_deliver y f H G) = let e = G.is in clash (cc)
      go (o_vote a q e) = clash (cc)
      go (o_news to a q u e) = clash (cc)
      go (o_nsa a q e) = clash (cc)

  pub ack_new : {q : BoxNo} {j : ℕ} {f : District → Ballot} → Ack P (sent P w p m) q j f → AckNew P w p m q j f
  ack_new {q} {j} {f} h = go (origin P w p known F m h.there.place _ h.there.there)
    where
      go : Origin P w p m h.there.place (accept_ack q h.to j h.ballots) → AckNew P w p m q j f
      go (o_multicast f t k e) = clash (cc)
      go (o_newleader f t c e) = clash (cc)
      go (o_accept to k u A e) = clash (cc)
      go (o_ack to a g u e) =
          let eb : h.ballots ≡ kept_vector P (keeps P w p a) a.j = cc in
          record { a = a; all = g; by = cc; job = cc; entries = λ d n. ap (λ (bs : List Ballot). ballot_at bs d) (sym eb) ∙ h.entries d n; box_is = u }
      go (o_deliver y f H G) = let e = G.is in clash (cc)
      go (o_vote a u e) = clash (cc)
      go (o_news to a k u e) = clash (cc)
      go (o_nsa a u e) = clash (cc)

  pub del_new : {i j : ℕ} {b : Ballot} {s t : Stamp} (h : DelAt (sent P w p m) i j b s t) → DelNew P w p m i j h.from b s t
  del_new {i} {j} {b} {s} {t} h = go (origin P w p known F m i _ h.there)
    where
      go : Origin P w p m i (deliver h.from h.to j (record { ballot = b; local = s; global = t })) → DelNew P w p m i j h.from b s t
      go (o_multicast f t k e) = clash (cc)
      go (o_newleader f t c e) = clash (cc)
      go (o_accept to k u A e) = clash (cc)
      go (o_ack to a g u e) = clash (cc)
      go (o_deliver y f H G) =
          let e = G.is in
          let ej : G.job ≡ j = cc in
          record {
            y = y;
            hand_from = f;
            hand = H;
            low = rw ej at G.low;
            ready_it = rw ej at G.ready_it;
            by = cc;
            is = rw (← ej) (payload e);
            first = rw ej at G.first;
          }
        where
          payload : {f₁ t₁ f₂ t₂ : BoxNo} {j₁ j₂ : ℕ} {y₁ y₂ : Handout} → deliver f₁ t₁ j₁ y₁ ≡ deliver f₂ t₂ j₂ y₂ → y₁ ≡ y₂
          payload e = cc
      go (o_vote a u e) = clash (cc)
      go (o_news to a k u e) = clash (cc)
      go (o_nsa a u e) = clash (cc)

  pub vote_new : {q : BoxNo} {z : Ballotpaper} → Voted (sent P w p m) q z → VoteNew P w p m q z
  vote_new {q} {z} h = go (origin P w p known F m h.there.place _ h.there.there)
    where
      go : Origin P w p m h.there.place (newleader_ack q h.to z) → VoteNew P w p m q z
      go (o_multicast f t k e) = clash (cc)
      go (o_newleader f t c e) = clash (cc)
      go (o_accept to k u A e) = clash (cc)
      go (o_ack to a g u e) = clash (cc)
      go (o_deliver y f H G) = let e = G.is in clash (cc)
      go (o_vote a u e) = record { a = a; by = cc; is = cc; box_is = u }
      go (o_news to a k u e) = clash (cc)
      go (o_nsa a u e) = clash (cc)

  pub news_new : {y : NewState} → News (sent P w p m) y → NewsNew P w p m y
  news_new {y} h = go (origin P w p known F m h.there.place _ h.there.there)
    where
      go : Origin P w p m h.there.place (new_state h.from h.to y) → NewsNew P w p m y
      go (o_multicast f t k e) = clash (cc)
      go (o_newleader f t c e) = clash (cc)
      go (o_accept to k u A e) = clash (cc)
      go (o_ack to a g u e) = clash (cc)
      go (o_deliver y f H G) = let e = G.is in clash (cc)
      go (o_vote a u e) = clash (cc)
      go (o_news to a k u e) = record { a = a; enough_votes = k; is = cc; box_is = u }
      go (o_nsa a u e) = clash (cc)

  pub nsa_new : {q : BoxNo} {b : Ballot} → Nsa (sent P w p m) q b → NsaNew P w p m q b
  nsa_new {q} {b} h = go (origin P w p known F m h.there.place _ h.there.there)
    where
      go : Origin P w p m h.there.place (newstate_ack q h.to b) → NsaNew P w p m q b
      go (o_multicast f t k e) = clash (cc)
      go (o_newleader f t c e) = clash (cc)
      go (o_accept to k u A e) = clash (cc)
      go (o_ack to a g u e) = clash (cc)
      go (o_deliver y f H G) = let e = G.is in clash (cc)
      go (o_vote a u e) = clash (cc)
      go (o_news to a k u e) = clash (cc)
      go (o_nsa a u e) = record { a = a; by = cc; ballot = cc; box_is = u }
