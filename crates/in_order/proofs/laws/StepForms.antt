-- What S and R12 say as far as it is asked: every move keeps the forms of boxes and records (own numbers, lengths, districts, real ballots).
-- Validity of what is written comes from the sound box and the valid record of the step.
use Prim.Native.Nat.{ℕ, ◌+◌, ◌*◌, ◌≤◌, ◌<◌}
use mathlib.Core.Bool.{Bool, true, false}
use mathlib.Core.List.{List}
use mathlib.Core.Logic.{◌⊎◌, inl, inr, ⊎_elim}
use mathlib.Core.Path.{◌≡◌, sym, ap, ◌∙◌}
use native.Mathlib.Decide.{ℕ_discrete}
use native.Mathlib.Omega.{arith}
use lib.ListN.{length, set, length-set, length-replicate}
use Rattle.laws.specs.Place.{In}
use Rattle.laws.proofs.laws.Place.{in_cases}
use Rattle.house.specs.Limits.{most_districts, most_jobs}
use Rattle.house.specs.Pairs.{district, no_ballot, no_stamp}
use Rattle.house.proofs.laws.Orders.{ballot_order}
use Rattle.house.specs.declared.Stamp.{Stamp}
use Rattle.house.specs.declared.Ballot.{Ballot}
use Rattle.house.specs.declared.BoxNo.{BoxNo}
use Rattle.house.specs.declared.District.{District}
use Rattle.house.specs.declared.Row.{Row}
use Rattle.house.specs.Plan.{boxes_of, home_of, names}
use Rattle.house.proofs.laws.Says.{plan_says, home_low, names_job, names_district}
use Rattle.house.specs.declared.Plan.{Plan}
use Rattle.records.specs.Rec.{deliver}
use Rattle.records.specs.declared.Ballotpaper.{Ballotpaper}
use Rattle.records.specs.declared.NewState.{NewState}
use Rattle.boxes.specs.Box.{own_of, home_in, fresh_volatile, kept_at, kept_ballot}
use Rattle.boxes.specs.Accept.{kept, accepted}
use Rattle.boxes.specs.AcceptAck.{committed}
use Rattle.boxes.specs.Deliver.{delivered}
use Rattle.boxes.specs.Newleader.{joined}
use Rattle.boxes.specs.Merge.{merged}
use Rattle.boxes.specs.NewState.{followed}
use Rattle.boxes.specs.NewstateAck.{leading}
use Rattle.boxes.specs.NewleaderAck.{vote_of, votes_with}
use Rattle.boxes.specs.Cut.{cut}
use Rattle.boxes.specs.declared.BoxState.{BoxState}
use Rattle.boxes.specs.declared.Listed.{Listed}
use Rattle.world.specs.World.{World}
use Rattle.in_order.proofs.laws.Compare.{Upto, le_refl, le_le, lt_to_le, le_then_lt}
use Rattle.in_order.proofs.laws.Notions.{the, Del}
use Rattle.in_order.proofs.laws.Inv.{BoxForm, AccForm, AckForm, DelForm, VoteForm, NewsForm, Forms, Inv, State}
use Rattle.in_order.proofs.laws.Grow.{acc_cases, ack_cases, voted_cases, news_cases, nsa_cases}
use Rattle.in_order.proofs.laws.Laws.{kept_apart, real_some}
use Rattle.in_order.proofs.laws.Merging.{merged_length}
use Rattle.in_order.proofs.laws.StepVolatile.{kept_here, kept_there}
use Rattle.in_order.proofs.laws.Moves.{commits, Accepting, Acking, Move, m_post, m_retry, m_stand, m_cut, m_propose, m_again, m_keep, m_accept, m_mark}
use Rattle.in_order.proofs.laws.Moves.{m_commit, m_deliver, m_join, m_hold, m_merge, m_state, m_lead, keeps, box, sent, next}
use Rattle.in_order.proofs.laws.Steps.{Hand, commit_hands, lead_hands, proposed_is, ModeStep, mode_same, mode_join, mode_merge, mode_state, mode_lead}
use Rattle.in_order.proofs.laws.Steps.{mode}
use Rattle.in_order.proofs.laws.Origins.{Stamped, new_stamp, old_stamp, HandFrom, by_commit, by_lead, AccNew, acc_new, AckNew, ack_new, DelNew, del_new}
use Rattle.in_order.proofs.laws.Origins.{VoteNew, vote_new, NewsNew, news_new, NsaNew, nsa_new}
use Rattle.in_order.proofs.laws.Next.{boxes_next, own_is}
use Rattle.in_order.proofs.laws.StepBallots.{merger}
use Rattle.in_order.proofs.laws.StepLocals.{hand_head}
use Rattle.in_order.proofs.laws.StepHands.{hand_real, del_ballot}
use Rattle.in_order.proofs.laws.StepAcks.{new_entry, new_acc}
use Rattle.in_order.proofs.laws.StepLists.{room}
use Rattle.in_order.proofs.laws.Facts.{leads_own, leads_real, own_low, local_home, owner_home, cballot_upto}

-- the own number and the lengths of a box, over the fields that they speak of
record Sizes (p own : BoxNo) (table : List Row) (sent : List Bool) (list : List Listed) (count : ℕ) (kept_ballots : List Ballot) (kept_stamps : List Stamp)
    (marks : List ℕ) : Type 0 where
  own_is : own ≡ p
  table_is : length table ≡ most_jobs
  sent_is : length sent ≡ most_jobs
  list_is : length list ≡ most_jobs
  count_is : count ≤ most_jobs
  ballots_are : length kept_ballots ≡ most_jobs * most_districts
  stamps_are : length kept_stamps ≡ most_jobs * most_districts
  marks_are : length marks ≡ most_jobs

abbrev SizesOf : BoxNo → BoxState → Type 0
SizesOf p x =
    Sizes
    p
    x.core.own
    x.core.table
    x.core.sent
    x.core.list
    x.core.count
    x.volatile.kept_ballots
    x.volatile.kept_stamps
    x.volatile.marks

-- another table, other flags, a longer list, another volatile part
module _ {p o : BoxNo} {t : List Row} {f : List Bool} {l : List Listed} {c : ℕ} {kb : List Ballot} {ks : List Stamp} {mk : List ℕ}
    (B : Sizes p o t f l c kb ks mk) where
  with_table : {t' : List Row} → length t' ≡ most_jobs → Sizes p o t' f l c kb ks mk
  with_table e =
      record {
        own_is = B.own_is;
        table_is = e;
        sent_is = B.sent_is;
        list_is = B.list_is;
        count_is = B.count_is;
        ballots_are = B.ballots_are;
        stamps_are = B.stamps_are;
        marks_are = B.marks_are;
      }

  with_row : (j : ℕ) (r : Row) → Sizes p o (set t j r) f l c kb ks mk
  with_row j r = with_table (length-set t j r ∙ B.table_is)

  with_sent : {f' : List Bool} → length f' ≡ most_jobs → Sizes p o t f' l c kb ks mk
  with_sent e =
      record {
        own_is = B.own_is;
        table_is = B.table_is;
        sent_is = e;
        list_is = B.list_is;
        count_is = B.count_is;
        ballots_are = B.ballots_are;
        stamps_are = B.stamps_are;
        marks_are = B.marks_are;
      }

  with_listed : (i : ℕ) (x : Listed) → c < most_jobs → Sizes p o t f (set l i x) (c + 1) kb ks mk
  with_listed i x h =
      record {
        own_is = B.own_is;
        table_is = B.table_is;
        sent_is = B.sent_is;
        list_is = length-set l i x ∙ B.list_is;
        count_is = omega arith;
        ballots_are = B.ballots_are;
        stamps_are = B.stamps_are;
        marks_are = B.marks_are;
      }

  with_volatile : {kb' : List Ballot} {ks' : List Stamp} {mk' : List ℕ} → length kb' ≡ most_jobs * most_districts → length ks' ≡ most_jobs * most_districts
      → length mk' ≡ most_jobs
      → Sizes p o t f l c kb' ks' mk'
  with_volatile a b e =
      record {
        own_is = B.own_is;
        table_is = B.table_is;
        sent_is = B.sent_is;
        list_is = B.list_is;
        count_is = B.count_is;
        ballots_are = a;
        stamps_are = b;
        marks_are = e;
      }

  with_kept : (i : ℕ) (b : Ballot) (s : Stamp) (j m : ℕ) → Sizes p o t f l c (set kb i b) (set ks i s) (set mk j m)
  with_kept i b s j m = with_volatile (length-set kb i b ∙ B.ballots_are) (length-set ks i s ∙ B.stamps_are) (length-set mk j m ∙ B.marks_are)

  with_marks : (j m : ℕ) → Sizes p o t f l c kb ks (set mk j m)
  with_marks j m = with_volatile B.ballots_are B.stamps_are (length-set mk j m ∙ B.marks_are)

module _ (P : Plan) (w : World) (p : BoxNo) (known : p.0 < boxes_of P) (I : Inv P w) (S : State P w) where
  F : Forms P w
  F = I.forms

  old_sizes : SizesOf p (the w p)
  old_sizes =
      let B = F.box p known in
      record {
        own_is = B.own;
        table_is = B.table;
        sent_is = B.sent;
        list_is = B.list;
        count_is = B.count;
        ballots_are = B.kept_ballots;
        stamps_are = B.kept_stamps;
        marks_are = B.marks;
      }

  hand_sizes : (m : Move P w p) (y : BoxState) → SizesOf p y → Hand P w p m y → SizesOf p (box P w p m)
  hand_sizes m y B K = rw K.box_is (with_sent B (K.turned.size ∙ B.sent_is))

  commit_sizes : (a : Acking P w p) → SizesOf p (commits P w p a)
  unfolding committed
  commit_sizes a = with_row (with_marks old_sizes a.j _) a.j _

  lead_sizes : SizesOf p (leading (the w p))
  unfolding leading
  lead_sizes = old_sizes

  new_sizes : (m : Move P w p) → SizesOf p (box P w p m)
  unfolding kept accepted delivered joined merged followed fresh_volatile cut
  new_sizes (m_post j) = old_sizes
  new_sizes (m_retry j) = old_sizes
  new_sizes m_stand = old_sizes
  new_sizes m_cut = with_volatile old_sizes (length-replicate 256 no_ballot) (length-replicate 256 no_stamp) (length-replicate {A = ℕ} most_jobs 0)
  new_sizes (m_propose a n) = rw (proposed_is P w p known F a n) (with_row old_sizes a.j _)
  new_sizes (m_again a n) = old_sizes
  new_sizes (m_keep a) = with_kept old_sizes _ _ _ a.j _
  new_sizes (m_accept a f) = with_row (with_kept old_sizes _ _ _ a.j _) a.j _
  new_sizes (m_mark a) = with_marks old_sizes a.j _
  new_sizes (m_commit a e) = hand_sizes (m_commit a e) (commits P w p a) (commit_sizes a) (commit_hands P w p known F a e)
  new_sizes (m_deliver a) = with_listed (with_row old_sizes a.j _) (the w p).core.count _ (room P w p known (m_deliver a) I S a)
  new_sizes (m_join a) = old_sizes
  new_sizes (m_hold a) = old_sizes
  new_sizes (m_merge a q) =
      with_sent
      (with_table old_sizes (merged_length (votes_with (the w p).volatile.vote (vote_of a.from a.y)) P.jobs))
      (length-replicate most_jobs false)
  new_sizes (m_state a) = with_table old_sizes (F.news (record { from = a.from; to = p; there = a.there })).table
  new_sizes (m_lead a) = hand_sizes (m_lead a) (leading (the w p)) lead_sizes (lead_hands P w p known F a)

-- who hands out is the mover
hand_number : {P : Plan} {w : World} {p : BoxNo} (y : BoxState) → HandFrom P w p y → own_of y ≡ own_of (the w p)
unfolding committed leading
hand_number y (by_commit a t e) = ap (λ (x : BoxState). x.core.own) e
hand_number y (by_lead a e) = ap (λ (x : BoxState). x.core.own) e

-- ballots of a box: order and districts
record Homes (P : Plan) (p : BoxNo) (x : BoxState) : Type 0 where
  order : Upto x.core.cballot x.core.ballot
  bhome : 1 ≤ x.core.ballot.number → home_of P x.core.ballot.owner ≡ home_of P p
  chome : 1 ≤ x.core.cballot.number → home_of P x.core.cballot.owner ≡ home_of P p

module _ (P : Plan) (w : World) (p : BoxNo) (known : p.0 < boxes_of P) (m : Move P w p) (I : Inv P w) (S : State P w) where
  G : Forms P w
  G = I.forms

  new_homes : ModeStep P w p (box P w p m) → Homes P p (box P w p m)
  new_homes (mode_same b c s) = let B = G.box p known in record { order = rw (b, c) B.order; bhome = rw b B.bhome; chome = rw c B.chome }
  new_homes (mode_join a b c s t) =
      let B = G.box p known in
      record {
        order = rw (b, c) (le_le ballot_order B.order (lt_to_le ballot_order a.above));
        bhome = λ _. rw b (ap (home_of P) a.facts.mine ∙ a.facts.near.home);
        chome = rw c B.chome;
      }
  new_homes (mode_merge a b c s) =
      let B = G.box p known in record { order = rw (b, c) (le_refl ballot_order); bhome = rw b B.bhome; chome = rw c B.bhome }
  new_homes (mode_state a b c s t) =
      let B = G.box p known in record { order = rw (b, c, a.same) (le_refl ballot_order); bhome = rw b B.bhome; chome = rw (c, a.same) B.bhome }
  new_homes (mode_lead a b c s) = let B = G.box p known in record { order = rw (b, c) B.order; bhome = rw b B.bhome; chome = rw c B.chome }

  own_form : BoxForm P p (box P w p m)
  own_form =
      let A = new_sizes P w p known I S m in
      let H = new_homes (mode P w p known G m) in
      record {
        own = A.own_is;
        order = H.order;
        bhome = H.bhome;
        chome = H.chome;
        table = A.table_is;
        sent = A.sent_is;
        list = A.list_is;
        count = A.count_is;
        kept_ballots = A.ballots_are;
        kept_stamps = A.stamps_are;
        marks = A.marks_are;
      }

  -- ---- records

  acc_form : {j : ℕ} {b : Ballot} {s : Stamp} → AccNew P w p m j b s → AccForm P j b s
  acc_form {j} {b} {s} N =
      let A = N.asks in
      let o : b.owner ≡ own_of (the w p) = ap (λ (c : Ballot). c.owner) N.ballot ∙ leads_own A.sound A.lead in
      let h : home_of P b.owner ≡ home_in P (the w p) = ap (home_of P) o in
      record {
        real = rw N.ballot (leads_real A.sound A.lead);
        box = rw o (own_low A.sound);
        district = stamped A.stamped ∙ sym h;
        named = rw h A.named;
      }
    where
      stamped : Stamped P (the w p) j s → s.district ≡ home_in P (the w p)
      stamped (new_stamp z e) = ap (λ (t : Stamp). t.district) e
      stamped (old_stamp n e) = ap (λ (t : Stamp). t.district) e ∙ local_home N.asks.sound j (names_job P j (home_in P (the w p)) N.asks.named) n

  -- a kept ballot is of a box of its district
  kept_home : (a : Accepting P w p) (d : District) → names P a.j d ≡ true → 1 ≤ (kept_ballot (keeps P w p a) a.j d).number
      → home_of P (kept_ballot (keeps P w p a) a.j d).owner ≡ d
  unfolding kept_ballot
  kept_home a d n r = go (ℕ_discrete (kept_at a.j d) (kept_at a.j (home_of P a.from)))
    where
      ld : d.0 < most_districts
      ld = omega (arith, names_district P a.j d G.plan n, (plan_says P G.plan).districts_most)

      lh : (home_of P a.from).0 < most_districts
      lh = omega (arith, home_low P a.from a.facts.from_box, (plan_says P G.plan).districts_most)

      go : Dec (kept_at a.j d ≡ kept_at a.j (home_of P a.from)) → home_of P (kept_ballot (keeps P w p a) a.j d).owner ≡ d
      go (yes e) =
          ap (λ (b : Ballot). home_of P b.owner) (kept_here P w p known m I a a.j d e) ∙ ap (home_of P) a.facts.mine
          ∙ sym (ap district (kept_apart a.j a.j d (home_of P a.from) ld lh e).1)
      go (no e) =
          let q = kept_there P w p known m I a a.j d e in
          let r' = rw q at r in
          ap (λ (b : Ballot). home_of P b.owner) q
          ∙
          owner_home
          a.sound
          a.j
          d
          (omega (arith, names_job P a.j (home_in P (the w p)) a.named, (plan_says P G.plan).jobs_most))
          ld
          (real_some (kept_ballot (the w p) a.j d) r')

  ack_form : {q : BoxNo} {j : ℕ} {f : District → Ballot} → AckNew P w p m q j f → AckForm P q j f
  ack_form {q} {j} {f} N =
      record {
        box = rw N.by (own_low N.a.sound);
        named = rw (N.by, ← N.job) N.a.named;
        real = real;
        homes = λ d n. let e = new_entry P w p known m I S N d n in
            ap (λ (b : Ballot). home_of P b.owner) (sym e) ∙ kept_home N.a d (rw N.job n) (rw e (real d n));
      }
    where
      real : (d : District) → names P j d ≡ true → 1 ≤ (f d).number
      real d n = (G.acc (new_acc P w p known m I S N d n)).real

  del_form : {i j : ℕ} {from : BoxNo} {b : Ballot} {s t : Stamp} → DelNew P w p m i j from b s t → DelForm P from b
  del_form {from = from} {b = b} N =
      let c = del_ballot P w p known m I S N in
      let o : b.owner ≡ p = ap (λ (d : Ballot). d.owner) c ∙ sym (hand_head P w p known m I N.y N.hand_from) in
      record { real = rw c (hand_real P w p known m I S N.y N.hand_from); box = rw o known; by = N.by ∙ hand_own N.y N.hand_from ∙ sym o }
    where
      hand_own : (y : BoxState) → HandFrom P w p y → own_of y ≡ p
      hand_own y h = hand_number y h ∙ own_is P w p known G m

  vote_form : {q : BoxNo} {z : Ballotpaper} → VoteNew P w p m q z → VoteForm P q z
  vote_form {q} {z} N =
      let a = N.a in
      let e : q ≡ p = N.by ∙ own_is P w p known G m in
      let B = G.box p known in
      rw (N.is, e) (record {
        box = known;
        owner = rw a.facts.mine a.facts.near.from_box;
        home = ap (home_of P) a.facts.mine ∙ a.facts.near.home;
        lower = le_then_lt ballot_order (cballot_upto a.sound) a.above;
        chome = B.chome;
        table = B.table;
      })

  news_form : {y : NewState} → NewsNew P w p m y → NewsForm P y
  unfolding merged
  news_form {y} N =
      let a = N.a in
      rw N.is (record {
        real = rw (ap (λ (b : Ballot). b.number) a.same) at a.facts.real;
        box = rw (merger P w p known m I a) known;
        table = merged_length (votes_with (the w p).volatile.vote (vote_of a.from a.y)) P.jobs;
      })

  nsa_form : {q : BoxNo} {b : Ballot} → NsaNew P w p m q b → home_of P q ≡ home_of P b.owner
  nsa_form {q} {b} N =
      ap (home_of P) (N.by ∙ own_is P w p known G m)
      ∙ sym N.a.facts.apart.near.home
      ∙ sym (ap (home_of P) N.a.facts.mine)
      ∙ sym (ap (λ (c : Ballot). home_of P c.owner) N.ballot)

  pub forms_step : Forms P (next P w p m)
  forms_step =
      record {
        plan = G.plan;
        size = length-set w.boxes p.0 (box P w p m) ∙ G.size;
        box = boxes_next P w p known G m (λ q y. BoxForm P q y) own_form G.box;
        acc = λ h. ⊎_elim (λ o. G.acc o) (λ n. acc_form (acc_new P w p known G m n)) (acc_cases w.post (sent P w p m) h);
        ack = λ h. ⊎_elim (λ o. G.ack o) (λ n. ack_form (ack_new P w p known G m n)) (ack_cases w.post (sent P w p m) h);
        del = λ h. dels h (in_cases w.post (sent P w p m) h.there);
        vote = λ h. ⊎_elim (λ o. G.vote o) (λ n. vote_form (vote_new P w p known G m n)) (voted_cases w.post (sent P w p m) h);
        news = λ h. ⊎_elim (λ o. G.news o) (λ n. news_form (news_new P w p known G m n)) (news_cases w.post (sent P w p m) h);
        nsa = λ h. ⊎_elim (λ o. G.nsa o) (λ n. nsa_form (nsa_new P w p known G m n)) (nsa_cases w.post (sent P w p m) h);
      }
    where
      dels : {j : ℕ} {b : Ballot} {s t : Stamp} (h : Del (next P w p m).post j b s t)
          → In (deliver h.from h.to j (record { ballot = b; local = s; global = t })) w.post
          ⊎ In (deliver h.from h.to j (record { ballot = b; local = s; global = t })) (sent P w p m) → DelForm P h.from b
      dels h (inl o) = G.del (record { from = h.from; to = h.to; there = o })
      dels h (inr n) = del_form (del_new P w p known G m {i = n.place} (record { from = h.from; to = h.to; there = n.there }))
