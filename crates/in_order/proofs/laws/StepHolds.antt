-- What a box and a vote have in common: every move keeps B3 B9 L2 J3 J4 C1 I3.
-- A box changes by one row, or takes a new state's table; a vote copies its box.
use Prim.Native.Nat.{ℕ, ◌≤◌, ◌<◌}
use mathlib.Core.Bool.{true, not, ◌||◌}
use mathlib.Core.List.{List}
use mathlib.Core.Logic.{◌⊎◌, inl, inr, ◌≢◌}
use mathlib.Core.Path.{◌≡◌, refl, sym, ap, ◌∙◌, subst}
use native.Mathlib.Decide.{ℕ_discrete}
use native.Mathlib.Omega.{arith}
use lib.ListN.{length, set}
use lib.Seq.{get_or-set_same, get_or-set_other}
use borrow.Author.Tests.{not-true}
use Rattle.laws.proofs.laws.Choice.{and_left, and_right, or_other, not_of}
use Rattle.laws.proofs.laws.Fold.{all_says}
use Rattle.laws.proofs.laws.Place.{Begins, begins_refl}
use Rattle.house.specs.Limits.{most_jobs}
use Rattle.house.specs.Pairs.{district, no_row, is_no_ballot}
use Rattle.house.proofs.laws.Orders.{ballot_order}
use Rattle.house.specs.declared.Ballot.{Ballot}
use Rattle.house.specs.declared.BoxNo.{BoxNo}
use Rattle.house.specs.declared.District.{District}
use Rattle.house.specs.declared.Row.{Row}
use Rattle.house.specs.Plan.{boxes_of, home_of, names}
use Rattle.house.proofs.laws.Says.{plan_says, names_job, names_district}
use Rattle.house.specs.declared.Plan.{Plan}
use Rattle.records.specs.Rec.{Rec}
use Rattle.records.specs.declared.Ballotpaper.{Ballotpaper}
use Rattle.records.specs.declared.NewState.{NewState}
use Rattle.boxes.specs.Box.{home_in, kept_ballot, kept_stamp, raised}
use Rattle.boxes.specs.Accept.{kept, kept_below, all_kept, latest_kept}
use Rattle.boxes.specs.AcceptAck.{committed}
use Rattle.boxes.specs.Newleader.{joined, clock_stamp}
use Rattle.boxes.specs.Merge.{merged}
use Rattle.boxes.specs.NewstateAck.{leading}
use Rattle.boxes.specs.declared.BoxState.{BoxState}
use Rattle.world.specs.World.{World}
use Rattle.in_order.proofs.laws.Compare.{le_le, lt_to_le}
use Rattle.in_order.proofs.laws.Laws.{raised_right, latest_most, until_time}
use Rattle.in_order.proofs.laws.Notions.{the, row_in, Acc, Del, Voted, News, Lam, stated, asked, Final, Merge}
use Rattle.in_order.proofs.laws.Inv.{Forms, Held, Holds, Inv, State}
use Rattle.in_order.proofs.laws.Grow.{acc_up, news_up, news_of_up, lam_up, final_up, voted_cases, news_cases}
use Rattle.in_order.proofs.laws.Moves.{Accepting, Acking, Voting, Move, keeps, marks, merges, commits, box, sent, next}
use Rattle.in_order.proofs.laws.Steps.{TableStep, still, wrote, took, merged_it, Why, proposes, accepts, commits_it, delivers_it, commit_row, table_step}
use Rattle.in_order.proofs.laws.Origins.{HandFrom, by_commit, by_lead, news_new, vote_new}
use Rattle.in_order.proofs.laws.Next.{grows, boxes_next, own_is}
use Rattle.in_order.proofs.laws.CoreTables.{merge_c1, merge_i3}
use Rattle.in_order.proofs.laws.StepVolatile.{keep_v1, merge_new}
use Rattle.in_order.proofs.laws.StepBallots.{fresh_news, i1b'}
use Rattle.in_order.proofs.laws.Commit.{commit_final, commit_clock, kept_own, kept_acc}
use Rattle.in_order.proofs.laws.Facts.{leads_real}

-- a row that is written, and the others
pub at_row : (t : List Row) (j : ℕ) (r : Row) (k : ℕ) (Q : Row → Type 0) → j < length t → (k ≡ j → Q r) → (k ≢ j → Q (row_in t k)) → Q (row_in (set t j r) k)
at_row t j r k Q h f g = go (ℕ_discrete k j)
  where
    go : Dec (k ≡ j) → Q (row_in (set t j r) k)
    go (yes e) = rw (e, get_or-set_same t j r no_row h) (f e)
    go (no n) = rw (get_or-set_other t j k r no_row n) (g n)

-- a new state that was merged, as something held
module _ {P : Plan} {w : World} (I : Inv P w) where
  -- a certificate of a lower ballot is one of this
  merged_i3 : {y : NewState} → Merge P w.post y → (m : ℕ) → m < P.jobs → (row_in y.table m).phase ≡ 3
      → Final P w.post m (home_of P y.ballot.owner) y.ballot (row_in y.table m).local (row_in y.table m).global
  merged_i3 M m low e =
      let K = merge_i3 I M m low e in
      let G = K.final in
      record {
        vector = G.vector;
        cert = G.cert;
        named = G.named;
        below = le_le ballot_order G.below (lt_to_le ballot_order K.lower);
        local = G.local;
        own = G.own;
      }

  -- what is held of a new state y that stands in a longer post
  pub merge_held : {y : NewState} {l : List Rec} → Begins w.post l → Merge P w.post y → News l y → 1 ≤ y.ballot.number
      → ((z : NewState) → News l z → z.ballot ≡ y.ballot → z ≡ y) → Held P l (home_of P y.ballot.owner) y.ballot y.clock.time y.table
  merge_held {y} {l} B M h real once =
      record {
        b3 = λ _. record { state = y; ballot = refl; news = h };
        b9 = λ e. absurd (omega arith);
        l2 = λ m low n. stated y h refl low n refl;
        j3 = λ z i e m low n. rw (once z i e) at n;
        j4 = λ z i e. rw (once z i e) (omega arith);
        c1 = merge_c1 I M;
        i3 = λ m low e. final_up B (merged_i3 M m low e);
      }

module _ (P : Plan) (w : World) (p : BoxNo) (known : p.0 < boxes_of P) (m : Move P w p) (I : Inv P w) (S : State P w) where
  F : Forms P w
  F = I.forms

  pub home_is : home_in P (the w p) ≡ home_of P p
  home_is = ap (λ (q : BoxNo). home_of P q) (F.box p known).own

  few : P.jobs ≤ most_jobs
  few = (plan_says P F.plan).jobs_most

  -- ---- an accepting box: every named district is kept, the own one with cballot

  module _ (a : Accepting P w p) (all : all_kept P (keeps P w p a) a.j ≡ true) where
    pub accept_own : kept_ballot (keeps P w p a) a.j (home_in P (the w p)) ≡ (the w p).core.cballot
    unfolding all_kept kept
    accept_own = ballot_order.eq_says _ _ (and_right (kept_below P (keeps P w p a) a.j P.districts) _ all)

    pub accept_acc : (d : District) → names P a.j d ≡ true → Acc w.post a.j (kept_ballot (keeps P w p a) a.j d) (kept_stamp (keeps P w p a) a.j d)
    unfolding all_kept kept_below kept_ballot kept_stamp
    accept_acc d n =
        let l = names_district P a.j d F.plan n in
        let t = and_left (kept_below P (keeps P w p a) a.j P.districts) _ all in
        let some = not-true _ (or_other (not (names P a.j d)) _
        (all_says (λ e. not (names P a.j (district e)) || not (is_no_ballot (kept_ballot (keeps P w p a) a.j (district e)))) P.districts t d.0 l)
        (not_of n)) in
        keep_v1 P w p known m I a a.j d (omega (arith, (plan_says P F.plan).districts_most)) some

    pub accept_time : (d : District) → names P a.j d ≡ true
        → (kept_stamp (keeps P w p a) a.j d).time ≤ raised (the w p).core.clock (latest_kept P (keeps P w p a) a.j P.districts).time
    accept_time d n =
        let l = names_district P a.j d F.plan n in
        let u = until_time (latest_most P (keeps P w p a) a.j P.districts d.0 l n) in
        let r = raised_right (the w p).core.clock (latest_kept P (keeps P w p a) a.j P.districts).time in
        omega arith

  -- ---- one row written

  module _ (y : BoxState) (l : List Rec) (B : Begins w.post l) (old : (z : NewState) → News l z → z.ballot ≡ (the w p).core.cballot → News w.post z)
      (j : ℕ) (r : Row) (named : names P j (home_in P (the w p)) ≡ true) (up : (the w p).core.clock ≤ y.core.clock) (why : Why P w p y l j r) where
    H : Held P w.post (home_of P p) (the w p).core.cballot (the w p).core.clock (the w p).core.table
    H = I.holds.of_box p known

    inside : j < length (the w p).core.table
    inside = omega (arith, names_job P j (home_in P (the w p)) named, few, (F.box p known).table)

    real : Why P w p y l j r → 1 ≤ (the w p).core.cballot.number
    real (proposes a ej n c k e) = leads_real a.sound a.lead
    real (accepts a ej t n c e) =
        let A = accept_acc a (rw (← ej) at t) (home_in P (the w p)) a.named in
        let f = (F.acc A).real in
        rw (accept_own a (rw (← ej) at t)) at f
    real (commits_it a ej t c e) = leads_real a.sound a.lead
    real (delivers_it a ej c e) = rw a.same at a.facts.real

    pub row_lam : Why P w p y l j r → Lam P l (the w p).core.cballot j r.local
    row_lam (proposes a ej n c k e) = rw e (asked k)
    row_lam (accepts a ej t n c e) =
        let t' = rw (← ej) at t in
        let A = acc_up B (accept_acc a t' (home_in P (the w p)) a.named) in
        rw (e, ← ej) (asked (rw (accept_own a t') at A))
    row_lam (commits_it a ej t c e) =
        let t' = rw (← ej) at t in
        let A = acc_up B (kept_acc P w p known m I a t' (home_in P (the w p)) a.named) in
        rw (e, ← ej) (asked (rw (kept_own P w p known m I a t') at A))
    row_lam (delivers_it a ej c e) =
        let D : Del w.post a.j a.y.ballot a.y.local a.y.global = record { from = a.from; to = p; there = a.there } in
        let L = lam_up B (S.g1 D) in
        rw (e, ← ej) (rw a.same at L)

    pub row_j3 : Why P w p y l j r → (row_in (the w p).core.table j).phase ≢ 0 → 2 ≤ r.phase
    row_j3 (proposes a ej n c k e) h = absurd (h n)
    row_j3 (accepts a ej t n c e) h = rw e (omega arith)
    row_j3 (commits_it a ej t c e) h = rw e (omega arith)
    row_j3 (delivers_it a ej c e) h = rw e (omega arith)

    row_c1 : Why P w p y l j r → r.local.time ≤ y.core.clock
    row_c1 (proposes a ej n c k e) = rw (e, c) (omega arith)
    row_c1 (accepts a ej t n c e) = rw (e, c, ← ej) (accept_time a (rw (← ej) at t) (home_in P (the w p)) a.named)
    row_c1 (commits_it a ej t c e) = rw (e, c, ← ej) (commit_clock P w p known m I a (rw (← ej) at t))
    row_c1 (delivers_it a ej c e) =
        let u = until_time a.facts.until in
        let q = raised_right (the w p).core.clock a.y.global.time in
        rw (e, c) (omega arith)

    row_i3 : Why P w p y l j r → r.phase ≡ 3 → Final P l j (home_of P p) (the w p).core.cballot r.local r.global
    row_i3 (proposes a ej n c k e) h = absurd (omega (arith, ap (λ (q : Row). q.phase) e))
    row_i3 (accepts a ej t n c e) h = absurd (omega (arith, ap (λ (q : Row). q.phase) e))
    row_i3 (commits_it a ej t c e) h =
        let own_stamp = kept_stamp (the w p) a.j (home_in P (the w p)) in
        let last_stamp = latest_kept P (the w p) a.j P.districts in
        let G = subst (λ (g : District). Final P w.post a.j g (the w p).core.cballot own_stamp last_stamp) home_is
        (commit_final P w p known m I a (rw (← ej) at t)) in
        rw (e, ← ej) (final_up B G)
    row_i3 (delivers_it a ej c e) h =
        let D : Del w.post a.j a.y.ballot a.y.local a.y.global = record { from = a.from; to = p; there = a.there } in
        let G = final_up B (I.acks.i3d D) in
        let g : home_of P a.y.ballot.owner ≡ home_of P p = ap (λ (q : BoxNo). home_of P q) a.facts.mine ∙ a.facts.near.home in
        rw (e, ← ej, ← a.same) (rw g at G)

    j3_some : {k : ℕ} → k ≡ j → 2 ≤ (row_in (the w p).core.table k).phase → (row_in (the w p).core.table j).phase ≢ 0
    j3_some e h = let h' = rw e at h in omega arith

    pub held_wrote : Held P l (home_of P p) (the w p).core.cballot y.core.clock (set (the w p).core.table j r)
    held_wrote =
        record {
          b3 = λ n. news_of_up B (H.b3 n);
          b9 = λ e. absurd (omega (arith, real why));
          l2 = λ k low. at_row (the w p).core.table j r k (λ q. q.phase ≢ 0 → Lam P l (the w p).core.cballot k q.local) inside
              (λ e n. rw e (row_lam why)) (λ e n. lam_up B (H.l2 k low n));
          j3 = λ z i e k low n. at_row (the w p).core.table j r k (λ q. 2 ≤ q.phase) inside
              (λ ek. row_j3 why (j3_some ek (H.j3 z (old z i e) e k low n))) (λ ek. H.j3 z (old z i e) e k low n);
          j4 = λ z i e. let h = H.j4 z (old z i e) e in omega arith;
          c1 = λ k low. at_row (the w p).core.table j r k (λ q. q.phase ≢ 0 → q.local.time ≤ y.core.clock) inside
              (λ e n. row_c1 why) (λ e n. let h = H.c1 k low n in omega arith);
          i3 =
              λ k low. at_row (the w p).core.table j r k (λ q. q.phase ≡ 3 → Final P l k (home_of P p) (the w p).core.cballot q.local q.global) inside
              (λ e n. rw e (row_i3 why n)) (λ e n. final_up B (H.i3 k low n));
        }

  -- ---- nothing written, or a later clock

  held_still : {g : District} {c : Ballot} {k k' : ℕ} {t : List Row} → Held P w.post g c k t → k ≤ k' → Held P w.post g c k' t
  held_still h u =
      record {
        b3 = h.b3;
        b9 = h.b9;
        l2 = h.l2;
        j3 = h.j3;
        i3 = h.i3;
        j4 = λ z i e. let q = h.j4 z i e in omega arith;
        c1 = λ n low e. let q = h.c1 n low e in omega arith;
      }

  -- a NEW_STATE of a ballot that something holds is not new
  pub old_news : {g : District} {c : Ballot} {k : ℕ} {t : List Row} → Held P w.post g c k t → (z : NewState) → News (next P w p m).post z → z.ballot ≡ c
      → News w.post z
  old_news {c = c} h z i e = go (news_cases w.post (sent P w p m) i)
    where
      go : News w.post z ⊎ News (sent P w p m) z → News w.post z
      go (inl o) = o
      go (inr n) =
          let N = news_new P w p known F m n in
          let eb : z.ballot ≡ N.a.y.ballot = ap (λ (s : NewState). s.ballot) N.is ∙ sym N.a.same in
          let real : 1 ≤ c.number = rw (sym (ap (λ (b : Ballot). b.number) (sym e ∙ eb))) at N.a.facts.real in
          fresh_news P w p known m I n (rw e (h.b3 real))

  held_up : {g : District} {c : Ballot} {k : ℕ} {t : List Row} → Held P w.post g c k t → Held P (next P w p m).post g c k t
  held_up h =
      let B = grows P w p known F m in
      record {
        b3 = λ n. news_of_up B (h.b3 n);
        b9 = h.b9;
        l2 = λ k low n. lam_up B (h.l2 k low n);
        j3 = λ z i e. h.j3 z (old_news h z i e) e;
        j4 = λ z i e. h.j4 z (old_news h z i e) e;
        c1 = h.c1;
        i3 = λ k low n. final_up B (h.i3 k low n);
      }

  -- ---- the box that hands out, before it does, in the old post

  pub held_mid : (y : BoxState) → HandFrom P w p y → Held P w.post (home_of P p) y.core.cballot y.core.clock y.core.table
  unfolding committed leading
  held_mid y (by_commit a t e) =
      rw e (held_wrote (commits P w p a) w.post (begins_refl w.post) (λ z i q. i) a.j _ a.named (omega arith) (commits_it a refl t refl (row_is a)))
    where
      row_is : (a : Acking P w p) → ◌≡◌ {A = Row}
          (record { phase = 3; local = kept_stamp (marks P w p a) a.j (home_in P (the w p)); global = latest_kept P (marks P w p a) a.j P.districts })
          (record { phase = 3; local = kept_stamp (the w p) a.j (home_in P (the w p)); global = latest_kept P (the w p) a.j P.districts })
      row_is a = commit_row P w p known F a
  held_mid y (by_lead a e) = rw e (I.holds.of_box p known)

  -- ---- all boxes and votes

  merged_held : (a : Voting P w p)
      → Held P (next P w p m).post (home_of P p) (the w p).core.ballot (clock_stamp P (merges P w p a)).time (merges P w p a).core.table
      → Held P (next P w p m).post (home_of P p) (merges P w p a).core.cballot (merges P w p a).core.clock (merges P w p a).core.table
  unfolding clock_stamp merged
  merged_held a h = h

  own_held : TableStep P w p (box P w p m) (next P w p m).post
      → Held P (next P w p m).post (home_of P p) (box P w p m).core.cballot (box P w p m).core.clock (box P w p m).core.table
  own_held (still c u t) = rw (c, t) (held_up (held_still (I.holds.of_box p known) u))
  own_held (wrote c u j r n t y) =
      rw (c, t) (held_wrote (box P w p m) (next P w p m).post (grows P w p known F m) (old_news (I.holds.of_box p known)) j r n u y)
  own_held (took a c k t) =
      let N : News w.post a.y = record { from = a.from; to = p; there = a.there } in
      let B = grows P w p known F m in
      let h : home_of P a.y.ballot.owner ≡ home_of P p = ap (λ (q : BoxNo). home_of P q) a.facts.mine ∙ a.facts.apart.near.home in
      rw (c, k, t, ← h) (merge_held I B (I.volatiles.n1 N) (news_up B N) a.facts.real (λ z i e. i1b' P w p known m I i (news_up B N) e))
  own_held (merged_it a q e N) =
      let b = (the w p).core.ballot in
      let o : b.owner ≡ p = ap (λ (c : Ballot). c.owner) (sym a.same) ∙ a.facts.theirs in
      rw
      e
      (merged_held a (subst (λ (r : BoxNo). Held P (next P w p m).post (home_of P r) b (clock_stamp P (merges P w p a)).time (merges P w p a).core.table) o
      (merge_held
      I
      (grows P w p known F m)
      (merge_new P w p known m I a q)
      N
      (rw (ap (λ (c : Ballot). c.number) a.same) at a.facts.real)
      (λ z i e. i1b' P w p known m I i N e))))

  pub holds_step : Holds P (next P w p m)
  unfolding joined clock_stamp
  holds_step =
      record {
        of_box = boxes_next P w p known F m (λ q y. Held P (next P w p m).post (home_of P q) y.core.cballot y.core.clock y.core.table)
            (own_held (table_step P w p known F m)) (λ q l. held_up (I.holds.of_box q l));
        of_vote = λ h. go (voted_cases w.post (sent P w p m) h);
      }
    where
      go : {q : BoxNo} {z : Ballotpaper} → Voted w.post q z ⊎ Voted (sent P w p m) q z
          → Held P (next P w p m).post (home_of P q) z.cballot z.clock.time z.table
      go (inl o) = held_up (I.holds.of_vote o)
      go (inr n) = let N = vote_new P w p known F m n in rw (N.is, N.by ∙ own_is P w p known F m) (held_up (I.holds.of_box p known))
