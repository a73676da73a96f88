-- Volatile parts and new states: every move keeps V1 V2 V3 and N1.
-- Work is in kinds 2, 3 and 6.
use Prim.Native.Nat.{ℕ, ◌*◌, ◌≤◌, ◌<◌}
use mathlib.Core.Bool.{true, false}
use mathlib.Core.List.{List}
use mathlib.Core.Logic.{◌⊎◌, inl, inr, ◌≢◌}
use mathlib.Core.Path.{◌≡◌, refl, sym, ap, ◌∙◌}
use native.Mathlib.Decide.{ℕ_discrete}
use native.Mathlib.Omega.{arith}
use lib.Dec.{leb}
use lib.ListN.{length, get_or}
use lib.Seq.{get_or-set_same, get_or-set_other}
use borrow.Author.Tests.{leb-true}
use Rattle.laws.proofs.laws.Choice.{look, never, pick_true, pick_false, and_left}
use Rattle.laws.specs.Choice.{pick}
use Rattle.house.specs.Limits.{most_districts, most_jobs}
use Rattle.house.specs.Pairs.{no_stamp, no_ballot, is_no_ballot, same_ballot}
use Rattle.house.proofs.laws.Orders.{ballot_order}
use Rattle.house.specs.declared.Ballot.{Ballot}
use Rattle.house.specs.declared.BoxNo.{BoxNo}
use Rattle.house.specs.declared.District.{District}
use Rattle.house.specs.Plan.{boxes_of, home_of, names, quorum_of}
use Rattle.house.proofs.laws.Says.{plan_says, home_low, names_job, names_district, boxes_most}
use Rattle.house.specs.declared.Plan.{Plan}
use Rattle.house.specs.Marks.{no_marks, most_marks, has_mark, marked}
use Rattle.house.proofs.laws.Quorums.{no_mark, mark_other}
use Rattle.records.specs.Rec.{Rec}
use Rattle.records.specs.declared.NewState.{NewState}
use Rattle.boxes.specs.Box.{home_in, kept_at, kept_ballot, kept_stamp, marks_at, fresh_volatile, no_vote, put_vote}
use Rattle.boxes.specs.Sound.{paper_of}
use Rattle.boxes.specs.Accept.{same_kept, kept, accepted}
use Rattle.boxes.specs.AcceptAck.{committed}
use Rattle.boxes.specs.Deliver.{delivered}
use Rattle.boxes.specs.Newleader.{joined, clock_stamp}
use Rattle.boxes.specs.NewleaderAck.{vote_of, votes_with, votes_count}
use Rattle.boxes.specs.Merge.{merged}
use Rattle.boxes.specs.NewState.{followed}
use Rattle.boxes.specs.NewstateAck.{leading}
use Rattle.boxes.specs.Cut.{cut}
use Rattle.boxes.specs.declared.BoxState.{BoxState}
use Rattle.boxes.specs.declared.Volatile.{Volatile}
use Rattle.world.specs.World.{World}
use Rattle.in_order.proofs.laws.Notions.{the, Acc, Ack, News, Merge}
use Rattle.in_order.proofs.laws.Inv.{Forms, KeptVote, Volatiles, Inv}
use Rattle.in_order.proofs.laws.Grow.{acc_up, ack_up, merge_up, kept_vote_up, news_cases}
use Rattle.in_order.proofs.laws.Laws.{one_value, kept_place_lem, kept_apart, same_box, box_ne}
use Rattle.in_order.proofs.laws.Merging.{merge_of, merged_row_lem}
use Rattle.in_order.proofs.laws.Moves.{Accepting, Acking, Voting, Move, m_post, m_retry, m_stand, m_cut, m_propose, m_again, m_keep, m_accept, m_mark}
use Rattle.in_order.proofs.laws.Moves.{m_commit, m_deliver, m_join, m_hold, m_merge, m_state, m_lead, keeps, marks, merges, box, sent, next}
use Rattle.in_order.proofs.laws.Steps.{commit_hands, lead_hands, proposed_is}
use Rattle.in_order.proofs.laws.Origins.{news_new}
use Rattle.in_order.proofs.laws.Next.{grows, boxes_next, own_is}
use Rattle.in_order.proofs.laws.Facts.{voter_near, vote_most}

-- how the volatile part changes
data VolStep (P : Plan) (w : World) (p : BoxNo) (y : BoxState) : Type 0 where
  vol_same : y.volatile ≡ (the w p).volatile → y.core.ballot ≡ (the w p).core.ballot → VolStep P w p y
  vol_cut : y.volatile ≡ fresh_volatile → VolStep P w p y
  vol_keep : (a : Accepting P w p) → y.volatile ≡ (keeps P w p a).volatile → y.core.ballot ≡ (the w p).core.ballot → VolStep P w p y
  vol_mark : (a : Acking P w p) → y.volatile ≡ (marks P w p a).volatile → y.core.ballot ≡ (the w p).core.ballot → VolStep P w p y
  vol_drop : y.volatile ≡ (put_vote (the w p) no_vote).volatile → VolStep P w p y
  vol_hold : (a : Voting P w p) → y.volatile ≡ (put_vote (the w p) (vote_of a.from a.y)).volatile → y.core.ballot ≡ (the w p).core.ballot
      → VolStep P w p y

module _ (P : Plan) (w : World) (p : BoxNo) (known : p.0 < boxes_of P) (F : Forms P w) where
  vol_step : (m : Move P w p) → VolStep P w p (box P w p m)
  unfolding kept accepted committed delivered joined merged followed leading cut
  vol_step (m_post j) = vol_same refl refl
  vol_step (m_retry j) = vol_same refl refl
  vol_step m_stand = vol_same refl refl
  vol_step m_cut = vol_cut refl
  vol_step (m_propose a n) = let e = proposed_is P w p known F a n in vol_same (ap (λ (x : BoxState). x.volatile) e) (ap (λ (x : BoxState). x.core.ballot) e)
  vol_step (m_again a n) = vol_same refl refl
  vol_step (m_keep a) = vol_keep a refl refl
  vol_step (m_accept a f) = vol_keep a refl refl
  vol_step (m_mark a) = vol_mark a refl refl
  vol_step (m_commit a f) =
      let e = (commit_hands P w p known F a f).box_is in vol_mark a (ap (λ (x : BoxState). x.volatile) e) (ap (λ (x : BoxState). x.core.ballot) e)
  vol_step (m_deliver a) = vol_same refl refl
  vol_step (m_join a) = vol_drop refl
  vol_step (m_hold a) = vol_hold a refl refl
  vol_step (m_merge a q) = vol_drop refl
  vol_step (m_state a) = vol_same refl refl
  vol_step (m_lead a) =
      let e = (lead_hands P w p known F a).box_is in vol_same (ap (λ (x : BoxState). x.volatile) e) (ap (λ (x : BoxState). x.core.ballot) e)

-- an acknowledgement with other ballots for districts that are not named
ack_same : {P : Plan} {l : List Rec} {q : BoxNo} {m : ℕ} {f g : District → Ballot} → Ack P l q m f → ((d : District) → names P m d ≡ true → f d ≡ g d)
    → Ack P l q m g
ack_same h e = record { to = h.to; ballots = h.ballots; there = h.there; entries = λ d n. h.entries d n ∙ e d n }

-- V1 and V2 of a volatile part
abbrev pub V1 : List Rec → Volatile → Type 0
V1 l v = (m : ℕ) (d : District) → d.0 < most_districts → is_no_ballot (get_or v.kept_ballots (kept_at m d) no_ballot) ≡ false
    → Acc l m (get_or v.kept_ballots (kept_at m d) no_ballot) (get_or v.kept_stamps (kept_at m d) no_stamp)

abbrev pub V2 : Plan → List Rec → Volatile → Type 0
V2 P l v = (m : ℕ) (q : BoxNo) → has_mark (get_or v.marks m no_marks) q ≡ true → Ack P l q m (λ d. get_or v.kept_ballots (kept_at m d) no_ballot)

module _ (P : Plan) (w : World) (p : BoxNo) (known : p.0 < boxes_of P) (m : Move P w p) (I : Inv P w) where
  F : Forms P w
  F = I.forms

  four : P.districts ≤ most_districts
  four = (plan_says P F.plan).districts_most

  few : P.jobs ≤ most_jobs
  few = (plan_says P F.plan).jobs_most

  named_low : (j : ℕ) (d : District) → names P j d ≡ true → d.0 < most_districts
  named_low j d n = omega (arith, names_district P j d F.plan n, four)

  old_v1 : (q : BoxNo) → q.0 < boxes_of P → V1 w.post (the w q).volatile
  unfolding kept_ballot kept_stamp
  old_v1 q l = I.volatiles.v1 q l

  old_v2 : (q : BoxNo) → q.0 < boxes_of P → V2 P w.post (the w q).volatile
  unfolding kept_ballot marks_at
  old_v2 q l = I.volatiles.v2 q l

  -- ---- kind 2 keeps an ACCEPT

  module _ (a : Accepting P w p) where
    job_low : a.j < most_jobs
    job_low = omega (arith, names_job P a.j (home_in P (the w p)) a.named, few)

    home_four : (home_of P a.from).0 < most_districts
    home_four = omega (arith, home_low P a.from a.facts.from_box, four)

    abbrev pub place : ℕ
    place = kept_at a.j (home_of P a.from)

    place_low : place < most_jobs * most_districts
    place_low = kept_place_lem a.j (home_of P a.from) job_low home_four

    pub kept_here : (k : ℕ) (d : District) → kept_at k d ≡ place → get_or (keeps P w p a).volatile.kept_ballots (kept_at k d) no_ballot ≡ a.y.ballot
    unfolding kept
    kept_here k d e =
        rw e (get_or-set_same (the w p).volatile.kept_ballots place a.y.ballot no_ballot (omega (arith, place_low, (F.box p known).kept_ballots)))

    pub kept_there : (k : ℕ) (d : District) → kept_at k d ≢ place
        → get_or (keeps P w p a).volatile.kept_ballots (kept_at k d) no_ballot ≡ get_or (the w p).volatile.kept_ballots (kept_at k d) no_ballot
    unfolding kept
    kept_there k d n = get_or-set_other (the w p).volatile.kept_ballots place (kept_at k d) a.y.ballot no_ballot n

    stamp_here : (k : ℕ) (d : District) → kept_at k d ≡ place → get_or (keeps P w p a).volatile.kept_stamps (kept_at k d) no_stamp ≡ a.y.stamp
    unfolding kept
    stamp_here k d e =
        rw e (get_or-set_same (the w p).volatile.kept_stamps place a.y.stamp no_stamp (omega (arith, place_low, (F.box p known).kept_stamps)))

    stamp_there : (k : ℕ) (d : District) → kept_at k d ≢ place
        → get_or (keeps P w p a).volatile.kept_stamps (kept_at k d) no_stamp ≡ get_or (the w p).volatile.kept_stamps (kept_at k d) no_stamp
    unfolding kept
    stamp_there k d n = get_or-set_other (the w p).volatile.kept_stamps place (kept_at k d) a.y.stamp no_stamp n

    pub keep_v1 : V1 w.post (keeps P w p a).volatile
    keep_v1 k d ld n = go (ℕ_discrete (kept_at k d) place)
      where
        go : Dec (kept_at k d ≡ place)
            → Acc w.post k (get_or (keeps P w p a).volatile.kept_ballots (kept_at k d) no_ballot)
            (get_or (keeps P w p a).volatile.kept_stamps (kept_at k d) no_stamp)
        go (yes e) =
            let ek = (kept_apart k a.j d (home_of P a.from) ld home_four e).0 in
            rw (kept_here k d e, stamp_here k d e, ek) (record { from = a.from; to = p; there = a.there })
        go (no u) = rw (kept_there k d u, stamp_there k d u) (old_v1 p known k d ld (rw (kept_there k d u) at n))

    -- the same ACCEPT kept again changes nothing
    kept_again : same_kept (the w p) a.j (home_of P a.from) a.y ≡ true → (k : ℕ) (d : District)
        → get_or (the w p).volatile.kept_ballots (kept_at k d) no_ballot ≡ get_or (keeps P w p a).volatile.kept_ballots (kept_at k d) no_ballot
    unfolding same_kept kept_ballot
    kept_again t k d = go (ℕ_discrete (kept_at k d) place)
      where
        go : Dec (kept_at k d ≡ place)
            → get_or (the w p).volatile.kept_ballots (kept_at k d) no_ballot ≡ get_or (keeps P w p a).volatile.kept_ballots (kept_at k d) no_ballot
        go (yes e) =
            let q =
            ballot_order.eq_says
            a.y.ballot
            (kept_ballot (the w p) a.j (home_of P a.from))
            (and_left (same_ballot a.y.ballot (kept_ballot (the w p) a.j (home_of P a.from))) _ t) in
            ap (λ (i : ℕ). get_or (the w p).volatile.kept_ballots i no_ballot) e ∙ sym q ∙ sym (kept_here k d e)
        go (no u) = sym (kept_there k d u)

    marks_here : get_or (keeps P w p a).volatile.marks a.j no_marks ≡ pick (same_kept (the w p) a.j (home_of P a.from) a.y)
        (get_or (the w p).volatile.marks a.j no_marks) no_marks
    unfolding kept marks_at
    marks_here = get_or-set_same (the w p).volatile.marks a.j _ no_marks (omega (arith, job_low, (F.box p known).marks))

    marks_there : (k : ℕ) → k ≢ a.j → get_or (keeps P w p a).volatile.marks k no_marks ≡ get_or (the w p).volatile.marks k no_marks
    unfolding kept marks_at
    marks_there k n = get_or-set_other (the w p).volatile.marks a.j k _ no_marks n

    keep_v2 : V2 P w.post (keeps P w p a).volatile
    keep_v2 k q h = go (ℕ_discrete k a.j) (look (same_kept (the w p) a.j (home_of P a.from) a.y))
      where
        go : Dec (k ≡ a.j) → (same_kept (the w p) a.j (home_of P a.from) a.y ≡ true) ⊎ (same_kept (the w p) a.j (home_of P a.from) a.y ≡ false)
            → Ack P w.post q k (λ d. get_or (keeps P w p a).volatile.kept_ballots (kept_at k d) no_ballot)
        go (no u) _ =
            ack_same (old_v2 p known k q (rw (marks_there k u) at h))
            (λ d n. sym (kept_there k d (λ e. u (kept_apart k a.j d (home_of P a.from) (named_low k d n) home_four e).0)))
        go (yes e) (inl t) =
            let s : has_mark (get_or (the w p).volatile.marks k no_marks) q ≡ true =
            rw e (rw (e, marks_here, pick_true (get_or (the w p).volatile.marks a.j no_marks) no_marks t) at h) in
            ack_same (old_v2 p known k q s) (λ d n. kept_again t k d)
        go (yes e) (inr t) = never (rw (e, marks_here, pick_false (get_or (the w p).volatile.marks a.j no_marks) no_marks t) at h) (no_mark q)

  -- ---- kind 3 marks an acknowledgement

  module _ (a : Acking P w p) where
    from_low : a.from.0 < most_marks
    from_low = omega (arith, a.facts.from_box, boxes_most P F.plan)

    pub mark_v2 : V2 P w.post (marks P w p a).volatile
    unfolding marks_at kept_ballot
    mark_v2 k q h = go (ℕ_discrete k a.j) (same_box q a.from)
      where
        low : a.j < length (the w p).volatile.marks
        low = omega (arith, names_job P a.j (home_in P (the w p)) a.named, few, (F.box p known).marks)

        go : Dec (k ≡ a.j) → Dec (q ≡ a.from) → Ack P w.post q k (λ d. get_or (the w p).volatile.kept_ballots (kept_at k d) no_ballot)
        go (no u) _ = old_v2 p known k q (rw (get_or-set_other (the w p).volatile.marks a.j k (marked (marks_at (the w p) a.j) a.from) no_marks u) at h)
        go (yes e) (yes eq) = rw (e, eq) (record { to = p; ballots = a.bs; there = a.there; entries = a.agree })
        go (yes e) (no n) =
            let h' =
            rw (
              e,
              get_or-set_same (the w p).volatile.marks a.j (marked (marks_at (the w p) a.j) a.from) no_marks low,
              mark_other (marks_at (the w p) a.j) a.from q from_low (box_ne n),
            )
            at
            h in
            old_v2 p known k q (rw e h')

  -- ---- all boxes

  V3 : BoxNo → BoxState → Type 0
  V3 q y = y.volatile.vote.held ≡ true → (y.core.ballot.owner ≡ q) × KeptVote w.post y.volatile.vote y.core.ballot

  new_v1 : VolStep P w p (box P w p m) → V1 w.post (box P w p m).volatile
  unfolding fresh_volatile is_no_ballot
  new_v1 (vol_same e b) = rw e (old_v1 p known)
  new_v1 (vol_cut e) = rw e (λ k d l n. never empty (rw (one_value 256 (kept_at k d) no_ballot) at n))
    where
      empty : is_no_ballot no_ballot ≡ true
      empty = ballot_order.eq_is no_ballot
  new_v1 (vol_keep a e b) = rw e (keep_v1 a)
  new_v1 (vol_mark a e b) = rw e (old_v1 p known)
  new_v1 (vol_drop e) = rw e (old_v1 p known)
  new_v1 (vol_hold a e b) = rw e (old_v1 p known)

  new_v2 : VolStep P w p (box P w p m) → V2 P w.post (box P w p m).volatile
  unfolding fresh_volatile
  new_v2 (vol_same e b) = rw e (old_v2 p known)
  new_v2 (vol_cut e) = rw e (λ k q h. never (rw (one_value most_jobs k no_marks) at h) (no_mark q))
  new_v2 (vol_keep a e b) = rw e (keep_v2 a)
  new_v2 (vol_mark a e b) = rw e (mark_v2 a)
  new_v2 (vol_drop e) = rw e (old_v2 p known)
  new_v2 (vol_hold a e b) = rw e (old_v2 p known)

  new_v3 : VolStep P w p (box P w p m) → V3 p (box P w p m)
  unfolding V3 vote_of kept fresh_volatile
  new_v3 (vol_same e b) h =
      let t : (the w p).volatile.vote.held ≡ true = sym (ap (λ (v : Volatile). v.vote.held) e) ∙ h in
      (ap (λ (c : Ballot). c.owner) b ∙ I.volatiles.v3_own p known t, rw (e, b) (I.volatiles.v3 p known t))
  new_v3 (vol_cut e) h = never h (ap (λ (v : Volatile). v.vote.held) e)
  new_v3 (vol_keep a e b) h =
      let t : (the w p).volatile.vote.held ≡ true = sym (ap (λ (v : Volatile). v.vote.held) e) ∙ h in
      (ap (λ (c : Ballot). c.owner) b ∙ I.volatiles.v3_own p known t, rw (e, b) (I.volatiles.v3 p known t))
  new_v3 (vol_mark a e b) h =
      let t : (the w p).volatile.vote.held ≡ true = sym (ap (λ (v : Volatile). v.vote.held) e) ∙ h in
      (ap (λ (c : Ballot). c.owner) b ∙ I.volatiles.v3_own p known t, rw (e, b) (I.volatiles.v3 p known t))
  new_v3 (vol_drop e) h = never h (ap (λ (v : Volatile). v.vote.held) e)
  new_v3 (vol_hold a e b) h = (
    ap (λ (c : Ballot). c.owner) (b ∙ sym a.same) ∙ a.facts.theirs,
    rw (e, b) (record { paper = a.y; voted = record { to = p; there = a.there }; ballot = a.same; cballot = refl; clock = refl; table = refl }),
  )

  -- ---- N1

  pub merge_new : (a : Voting P w p) → leb (quorum_of P) (votes_count (the w p).volatile.vote) ≡ true
      → Merge P w.post (record { ballot = (the w p).core.ballot; clock = clock_stamp P (merges P w p a); table = (merges P w p a).core.table })
  unfolding vote_of paper_of clock_stamp merged
  merge_new a t =
      let o : (the w p).core.ballot.owner ≡ p = ap (λ (c : Ballot). c.owner) (sym a.same) ∙ a.facts.theirs in
      let h : home_of P p ≡ home_of P (the w p).core.ballot.owner = sym (ap (λ (q : BoxNo). home_of P q) o) in
      merge_of P w.post (record { ballot = (the w p).core.ballot; clock = clock_stamp P (merges P w p a); table = (merges P w p a).core.table })
      (the w p).volatile.vote (vote_of a.from a.y) F.plan (leb-true _ _ t)
      (record {
        kept = record { paper = a.y; voted = record { to = p; there = a.there }; ballot = a.same; cballot = refl; clock = refl; table = refl };
        most = λ k low. a.facts.most k low;
      })
      (λ e. record { kept = I.volatiles.v3 p known e; most = λ k low. vote_most a.sound e k low })
      a.facts.near.from_box (a.facts.near.home ∙ h)
      (λ e. (voter_near a.sound e).from_box) (λ e. (voter_near a.sound e).home ∙ ap (λ (q : BoxNo). home_of P q) (own_is P w p known F m) ∙ h)
      a.another refl
      (λ k low. merged_row_lem (votes_with (the w p).volatile.vote (vote_of a.from a.y)) P.jobs k few low)

  n1' : {y : NewState} → News (next P w p m).post y → Merge P (next P w p m).post y
  n1' {y} h = go (news_cases w.post (sent P w p m) h)
    where
      go : News w.post y ⊎ News (sent P w p m) y → Merge P (next P w p m).post y
      go (inl o) = merge_up (grows P w p known F m) (I.volatiles.n1 o)
      go (inr n) = let N = news_new P w p known F m n in merge_up (grows P w p known F m) (rw N.is (merge_new N.a N.enough_votes))

  pub volatiles_step : Volatiles P (next P w p m)
  unfolding kept_ballot kept_stamp marks_at V3
  volatiles_step =
      let S = vol_step P w p known F m in
      record {
        v1 = λ q l k d ld n. acc_up (grows P w p known F m) (boxes_next P w p known F m (λ q y. V1 w.post y.volatile) (new_v1 S) old_v1 q l k d ld n);
        v2 = λ q l k r h. ack_up (grows P w p known F m) (boxes_next P w p known F m (λ q y. V2 P w.post y.volatile) (new_v2 S) old_v2 q l k r h);
        v3_own = λ q l h. (boxes_next P w p known F m V3 (new_v3 S) old_v3 q l h).0;
        v3 = λ q l h. kept_vote_up (grows P w p known F m) (boxes_next P w p known F m V3 (new_v3 S) old_v3 q l h).1;
        n1 = n1';
      }
    where
      old_v3 : (q : BoxNo) → q.0 < boxes_of P → V3 q (the w q)
      old_v3 q l h = (I.volatiles.v3_own q l h, I.volatiles.v3 q l h)
