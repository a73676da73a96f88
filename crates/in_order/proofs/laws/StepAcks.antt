-- Acknowledgements and certificates: every move keeps A0 A1b A1v I3d.
-- Work is in kinds 2 and 5, and where DELIVERs are written.
use Prim.Native.Nat.{ℕ, ◌≤◌, ◌<◌}
use mathlib.Core.Bool.{true, false}
use mathlib.Core.List.{List}
use mathlib.Core.Logic.{◌⊎◌, inl, inr, ◌≢◌}
use mathlib.Core.Path.{◌≡◌, sym, ap, ◌∙◌, subst}
use native.Mathlib.Omega.{arith}
use lib.Dec.{eqb}
use lib.ListN.{length, set}
use lib.Seq.{get_or-set_same}
use borrow.Author.Tests.{eqb-true}
use Rattle.laws.proofs.laws.Choice.{look, pick_true, pick_false}
use Rattle.house.specs.Pairs.{no_row, no_stamp}
use Rattle.house.proofs.laws.Orders.{ballot_order}
use Rattle.house.specs.declared.Stamp.{Stamp}
use Rattle.house.specs.declared.Ballot.{Ballot}
use Rattle.house.specs.declared.BoxNo.{BoxNo}
use Rattle.house.specs.declared.District.{District}
use Rattle.house.specs.declared.Row.{Row}
use Rattle.house.specs.Plan.{boxes_of, home_of, names}
use Rattle.house.proofs.laws.Says.{plan_says, names_job, names_district}
use Rattle.house.specs.declared.Plan.{Plan}
use Rattle.records.specs.Rec.{Rec}
use Rattle.records.specs.declared.Handout.{Handout}
use Rattle.records.specs.declared.Ballotpaper.{Ballotpaper}
use Rattle.records.specs.declared.NewState.{NewState}
use Rattle.boxes.specs.Box.{home_in, row_at, kept_ballot, kept_stamp, raised}
use Rattle.boxes.specs.Accept.{kept, latest_kept, accepted_row, accepted}
use Rattle.boxes.specs.Newleader.{joined, clock_stamp}
use Rattle.boxes.specs.Merge.{merged}
use Rattle.boxes.specs.declared.BoxState.{BoxState}
use Rattle.world.specs.World.{World}
use Rattle.in_order.proofs.laws.Compare.{Upto, Lower, eq_le, lt_to_le, le_ne, lt_not, lt_self, le_then_lt}
use Rattle.in_order.proofs.laws.Laws.{vector_at}
use Rattle.in_order.proofs.laws.Notions.{the, row_in, Acc, Ack, Del, Voted, News, Lam, stated, asked, Timed, Stay, Acked, Final}
use Rattle.in_order.proofs.laws.Inv.{Forms, Asked, Acks, Inv, State}
use Rattle.in_order.proofs.laws.Grow.{acc_up, ack_cases, voted_cases, del_cases, asked_up, stay_up, acked_up, final_up}
use Rattle.in_order.proofs.laws.HandOut.{ready_says}
use Rattle.in_order.proofs.laws.Moves.{Accepting, Stating, Move, keeps, box, sent, next}
use Rattle.in_order.proofs.laws.Steps.{TableStep, still, wrote, took, merged_it, table_step}
use Rattle.in_order.proofs.laws.Origins.{AckNew, ack_new, DelNew, del_new, vote_new}
use Rattle.in_order.proofs.laws.Next.{grows, mover, any_next, own_is}
use Rattle.in_order.proofs.laws.StepHolds.{at_row, accept_own, accept_acc, accept_time, row_lam, row_j3, held_mid, home_is, old_news}
use Rattle.in_order.proofs.laws.StepLocals.{l0', hand_ballot, hand_head, at_place}
use Rattle.in_order.proofs.laws.CoreBase.{lam_one}
use Rattle.in_order.proofs.laws.Facts.{cballot_upto}

-- a later clock
stay_clock : {P : Plan} {l : List Rec} {j : ℕ} {f : District → Ballot} {g : District} {k k' : ℕ} {t : List Row} → k ≤ k' → Stay P l j f g k t
    → Stay P l j f g k' t
stay_clock u h =
    record {
      phase = h.phase;
      local = h.local;
      times = λ d n. let T = h.times d n in record { stamp = T.stamp; acc = T.acc; upto = (let q = T.upto in omega arith) };
    }

module _ (P : Plan) (w : World) (p : BoxNo) (known : p.0 < boxes_of P) (m : Move P w p) (I : Inv P w) (S : State P w) where
  F : Forms P w
  F = I.forms

  l : List Rec
  l = w.post

  -- ---- a new acknowledgement

  module _ {q : BoxNo} {j : ℕ} {f : District → Ballot} (N : AckNew P w p m q j f) where
    a : Accepting P w p
    a = N.a

    named' : (d : District) → names P j d ≡ true → names P N.a.j d ≡ true
    named' d n = rw N.job n

    pub new_entry : (d : District) → names P j d ≡ true → kept_ballot (keeps P w p N.a) N.a.j d ≡ f d
    new_entry d n =
        sym (vector_at P (keeps P w p N.a) N.a.j d (omega (arith, names_district P j d F.plan n, (plan_says P F.plan).districts_most)) (named' d n))
        ∙ N.entries d n

    pub new_acc : (d : District) → names P j d ≡ true → Acc w.post j (f d) (kept_stamp (keeps P w p N.a) N.a.j d)
    new_acc d n =
        let A = accept_acc P w p known m I S N.a N.all d (named' d n) in
        rw (← N.job) (rw (new_entry d n) at A)

    pub new_by : q ≡ p
    new_by = N.by ∙ own_is P w p known F m

    new_home : home_in P (the w p) ≡ home_of P p
    new_home = home_is P w p known m I S

    pub home_named : names P j (home_of P p) ≡ true
    home_named = rw (← N.job, ← new_home) N.a.named

    new_ballot : f (home_of P p) ≡ (the w p).core.cballot
    new_ballot =
        sym (new_entry (home_of P p) home_named)
        ∙ subst (λ (d : District). kept_ballot (keeps P w p N.a) N.a.j d ≡ (the w p).core.cballot) new_home (accept_own P w p known m I S N.a N.all)

    new_cballot : (box P w p m).core.cballot ≡ (the w p).core.cballot
    unfolding accepted kept
    new_cballot = ap (λ (x : BoxState). x.core.cballot) N.box_is

    -- the row after the step
    new_row : row_in (box P w p m).core.table j ≡ accepted_row (row_in (the w p).core.table j) (kept_stamp (keeps P w p N.a) N.a.j (home_in P (the w p)))
    unfolding accepted kept row_at
    new_row =
        rw (← N.job) (ap (λ (x : BoxState). row_in x.core.table N.a.j) N.box_is
        ∙
        get_or-set_same
        (the w p).core.table
        N.a.j
        _
        no_row
        (omega (arith, names_job P N.a.j (home_in P (the w p)) N.a.named, (plan_says P F.plan).jobs_most, (F.box p known).table)))

    new_clock : (box P w p m).core.clock ≡ raised (the w p).core.clock (latest_kept P (keeps P w p N.a) N.a.j P.districts).time
    unfolding accepted kept
    new_clock = ap (λ (x : BoxState). x.core.clock) N.box_is

    low_job : j < P.jobs
    low_job = names_job P j (home_of P p) home_named

    new_stay : (eqb (row_in (the w p).core.table j).phase 3 ≡ true) ⊎ (eqb (row_in (the w p).core.table j).phase 3 ≡ false)
        → Stay P w.post j f (home_of P p) (box P w p m).core.clock (box P w p m).core.table
    unfolding accepted_row
    new_stay t = go t
      where
        times : (d : District) → names P j d ≡ true → Timed w.post j (f d) (box P w p m).core.clock
        times d n =
            record {
              stamp = kept_stamp (keeps P w p N.a) N.a.j d;
              acc = new_acc d n;
              upto = rw new_clock (accept_time P w p known m I S N.a N.all d (named' d n));
            }

        own_acc : Acc w.post j (the w p).core.cballot (kept_stamp (keeps P w p N.a) N.a.j (home_in P (the w p)))
        own_acc = rw (new_home, ← new_ballot) (new_acc (home_of P p) home_named)

        go : (eqb (row_in (the w p).core.table j).phase 3 ≡ true) ⊎ (eqb (row_in (the w p).core.table j).phase 3 ≡ false)
            → Stay P w.post j f (home_of P p) (box P w p m).core.clock (box P w p m).core.table
        go (inl t) =
            let e : row_in (box P w p m).core.table j ≡ row_in (the w p).core.table j = new_row ∙ pick_true _ _ t in
            let z = eqb-true (row_in (the w p).core.table j).phase 3 t in
            let L = (I.holds.of_box p known).l2 j low_job (omega arith) in
            let q : kept_stamp (keeps P w p N.a) N.a.j (home_in P (the w p)) ≡ (row_in (the w p).core.table j).local = lam_one I (asked own_acc) L in
            record { phase = rw e (omega arith); local = rw (e, new_ballot, ← q) own_acc; times = times }
        go (inr t) =
            let e : row_in (box P w p m).core.table j ≡ record {
              phase =
                  2;
              local = kept_stamp (keeps P w p N.a) N.a.j (home_in P (the w p));
              global = no_stamp;
            } = new_row ∙ pick_false _ _ t in
            record { phase = rw e (omega arith); local = rw (e, new_ballot) own_acc; times = times }

    new_acked : Acked P (next P w p m).post j f (home_of P p) (box P w p m).core.cballot (box P w p m).core.clock (box P w p m).core.table
    new_acked =
        acked_up (grows P w p known F m)
        (record { below = eq_le ballot_order (new_ballot ∙ sym new_cballot); stay = λ _. new_stay (look (eqb (row_in (the w p).core.table j).phase 3)) })

  a0' : {q : BoxNo} {j : ℕ} {f : District → Ballot} → Ack P (next P w p m).post q j f → (d : District) → names P j d ≡ true
      → Asked (next P w p m).post j (f d)
  a0' {q} {j} {f} h d n = go (ack_cases w.post (sent P w p m) h)
    where
      go : Ack P w.post q j f ⊎ Ack P (sent P w p m) q j f → Asked (next P w p m).post j (f d)
      go (inl o) = asked_up (grows P w p known F m) (I.acks.a0 o d n)
      go (inr i) = let N = ack_new P w p known F m i in record { stamp = _; acc = acc_up (grows P w p known F m) (new_acc N d n) }

  -- ---- an old acknowledgement of the mover

  -- a box that takes a new state had a lower cballot
  pub took_up : (a : Stating P w p) → Lower (the w p).core.cballot a.y.ballot
  took_up a =
      rw a.same (le_ne ballot_order (cballot_upto a.sound)
      (λ e. a.facts.apart.other (sym a.facts.mine ∙ ap (λ (b : Ballot). b.owner) a.same ∙ sym (I.ballots.b7 p known a.waits e))))

  own_acked : {j : ℕ} {f : District → Ballot} → Ack P w.post p j f → TableStep P w p (box P w p m) (next P w p m).post
      → Acked P (next P w p m).post j f (home_of P p) (box P w p m).core.cballot (box P w p m).core.clock (box P w p m).core.table
  unfolding merged
  own_acked {j} {f} h (still c u t) =
      let A = I.acks.a1b h in
      rw (c, t) (record { below = A.below; stay = λ e. stay_clock u (stay_up (grows P w p known F m) (A.stay e)) })
  own_acked {j} {f} h (wrote c u k r n t y) =
      let A = I.acks.a1b h in
      rw (c, t) (record { below = A.below; stay = λ e. row_stay e (A.stay e) })
    where
      B : Rattle.laws.proofs.laws.Place.Begins w.post (next P w p m).post
      B = grows P w p known F m

      inside : k < length (the w p).core.table
      inside = omega (arith, names_job P k (home_in P (the w p)) n, (plan_says P F.plan).jobs_most, (F.box p known).table)

      local : f (home_of P p) ≡ (the w p).core.cballot → Acc w.post j (f (home_of P p)) (row_in (the w p).core.table j).local → (s : Stamp)
          → Lam P (next P w p m).post (the w p).core.cballot j s
          → Acc (next P w p m).post j (f (home_of P p)) s
      local e o s (asked i) = rw e i
      local e o s (stated z i ez lo nz q) =
          let x = l0' P w p known m I (acc_up B (rw e at o)) i ez nz in
          rw (sym q ∙ x) (acc_up B o)

      row_stay : f (home_of P p) ≡ (the w p).core.cballot → Stay P w.post j f (home_of P p) (the w p).core.clock (the w p).core.table
          → Stay P (next P w p m).post j f (home_of P p) (box P w p m).core.clock (set (the w p).core.table k r)
      row_stay e s =
          record {
            phase = at_row (the w p).core.table k r j (λ q. 2 ≤ q.phase) inside
                (λ ej. row_j3 P w p known m I S (box P w p m) (next P w p m).post B old k r n u y y (some ej s.phase)) (λ _. s.phase);
            local = at_row (the w p).core.table k r j (λ q. Acc (next P w p m).post j (f (home_of P p)) q.local) inside
                (λ ej. local e s.local r.local (rw ej (row_lam P w p known m I S (box P w p m) (next P w p m).post B old k r n u y y)))
                (λ _. acc_up B s.local);
            times = λ d nd. let T = s.times d nd in record { stamp = T.stamp; acc = acc_up B T.acc; upto = (let x = T.upto in omega arith) };
          }
        where
          old : (z : NewState) → News (next P w p m).post z → z.ballot ≡ (the w p).core.cballot → News w.post z
          old = old_news P w p known m I S (I.holds.of_box p known)

          some : j ≡ k → 2 ≤ (row_in (the w p).core.table j).phase → (row_in (the w p).core.table k).phase ≢ 0
          some e h = let h' = rw e at h in omega arith
  own_acked {j} {f} h (took a c k t) =
      let A = I.acks.a1b h in
      let up : Lower (f (home_of P p)) (box P w p m).core.cballot = rw c (le_then_lt ballot_order A.below (took_up a)) in
      record { below = lt_to_le ballot_order up; stay = λ e. lt_self ballot_order up e }
  own_acked {j} {f} h (merged_it a q e N) =
      let A = I.acks.a1b h in
      let c : (box P w p m).core.cballot ≡ (the w p).core.ballot = ap (λ (x : BoxState). x.core.cballot) e in
      let up : Lower (f (home_of P p)) (box P w p m).core.cballot =
      rw c (le_then_lt ballot_order A.below (le_ne ballot_order (cballot_upto a.sound) a.pending)) in
      record { below = lt_to_le ballot_order up; stay = λ e. lt_self ballot_order up e }

  a1b' : {q : BoxNo} {j : ℕ} {f : District → Ballot} → Ack P (next P w p m).post q j f
      →
      Acked
      P
      (next P w p m).post
      j
      f
      (home_of P q)
      (the (next P w p m) q).core.cballot
      (the (next P w p m) q).core.clock
      (the (next P w p m) q).core.table
  a1b' {q} {j} {f} h = go (ack_cases w.post (sent P w p m) h)
    where
      Says : BoxNo → BoxState → Type 0
      Says r y = Acked P (next P w p m).post j f (home_of P r) y.core.cballot y.core.clock y.core.table

      go : Ack P w.post q j f ⊎ Ack P (sent P w p m) q j f → Says q (the (next P w p m) q)
      go (inl o) =
          any_next P w p known F m (λ r y. Ack P w.post r j f → Says r y) (λ o'. own_acked o' (table_step P w p known F m))
          (λ r o'. acked_up (grows P w p known F m) (I.acks.a1b o')) q o
      go (inr n) = let N = ack_new P w p known F m n in rw (new_by N, mover P w p known F m) (new_acked N)

  a1v' : {q : BoxNo} {j : ℕ} {f : District → Ballot} {z : Ballotpaper} → Ack P (next P w p m).post q j f → Voted (next P w p m).post q z
      → Lower (f (home_of P q)) z.ballot
      → Acked P (next P w p m).post j f (home_of P q) z.cballot z.clock.time z.table
  unfolding joined clock_stamp
  a1v' {q} {j} {f} {z} h v lo = go (voted_cases w.post (sent P w p m) v) (ack_cases w.post (sent P w p m) h)
    where
      go : Voted w.post q z ⊎ Voted (sent P w p m) q z → Ack P w.post q j f ⊎ Ack P (sent P w p m) q j f
          → Acked P (next P w p m).post j f (home_of P q) z.cballot z.clock.time z.table
      go (inl o) (inl i) = acked_up (grows P w p known F m) (I.acks.a1v i o lo)
      go (inl o) (inr i) =
          -- who acknowledges has its cballot as ballot, so no old vote is for a higher one
          let N = ack_new P w p known F m i in
          let e = new_by N in
          let u : Upto z.ballot (the w p).core.ballot = subst (λ (r : BoxNo). Upto z.ballot (the w r).core.ballot) e (I.ballots.b1 o) in
          let b : f (home_of P q) ≡ (the w p).core.ballot = ap (λ (r : BoxNo). f (home_of P r)) e ∙ new_ballot N ∙ N.a.sound.ballots.equal N.a.active in
          lt_not ballot_order lo (rw b u)
      go (inr n) _ =
          let N = vote_new P w p known F m n in
          let e : q ≡ p = N.by ∙ own_is P w p known F m in
          let A = a1b' h in
          let A' : Acked P (next P w p m).post j f (home_of P q) (box P w p m).core.cballot (box P w p m).core.clock (box P w p m).core.table
          =
          subst
          (λ (y : BoxState). Acked P (next P w p m).post j f (home_of P q) y.core.cballot y.core.clock y.core.table)
          (ap (the (next P w p m)) e ∙ mover P w p known F m)
          A
          in
          rw
          N.is
          (subst (λ (y : BoxState). Acked P (next P w p m).post j f (home_of P q) y.core.cballot y.core.clock y.core.table) N.box_is A')

  -- ---- I3d

  pub final_new : {i j : ℕ} {from : BoxNo} {b : Ballot} {s t : Stamp} → DelNew P w p m i j from b s t → Final P w.post j (home_of P b.owner) b s t
  unfolding row_at
  final_new {j = j} {b = b} N =
      let H = held_mid P w p known m I S N.y N.hand_from in
      let G = H.i3 j N.low (ready_says P N.y j N.ready_it).phase in
      let e : b ≡ N.y.core.cballot = ap (λ (o : Handout). o.ballot) N.is in
      let o : home_of P b.owner ≡ home_of P p =
      ap (λ (c : Ballot). home_of P c.owner) (e ∙ hand_ballot P w p known m I N.y N.hand_from)
      ∙ sym (ap (home_of P) (hand_head P w p known m I N.y N.hand_from)) in
      rw (o, ap (λ (o : Handout). o.local) N.is, ap (λ (o : Handout). o.global) N.is, e) G

  i3d' : {j : ℕ} {b : Ballot} {s t : Stamp} → Del (next P w p m).post j b s t → Final P (next P w p m).post j (home_of P b.owner) b s t
  i3d' {j} {b} {s} {t} h = go (del_cases w.post (sent P w p m) h)
    where
      go : Del w.post j b s t ⊎ Del (sent P w p m) j b s t → Final P (next P w p m).post j (home_of P b.owner) b s t
      go (inl o) = final_up (grows P w p known F m) (I.acks.i3d o)
      go (inr n) = final_up (grows P w p known F m) (final_new (del_new P w p known F m (at_place P w p known m I n)))

  pub acks_step : Acks P (next P w p m)
  acks_step = record { a0 = a0'; a1b = a1b'; a1v = a1v'; i3d = i3d' }
