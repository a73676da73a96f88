-- A step as a move: each guard turned into a fact, once. A constructor takes one record of facts.
-- A refusal leaves the world as it is; a move changes one box and appends its records.
use Rattle.records.specs.declared.answers.Refusal.{Refusal}
use Rattle.std.specs.Prelude.{Option, None}
use Rattle.records.specs.declared.answers.Refusal.TheVariants.{NotSound, NoSuch}
use Prim.Native.Nat.{ℕ, ◌<◌}
use mathlib.Core.Bool.{true, false, not, ◌||◌}
use mathlib.Core.List.{List, ◌++◌}
use mathlib.Core.Logic.{◌⊎◌, inl, inr}
use mathlib.Core.Path.{◌≡◌, refl, sym, ap, ◌∙◌}
use lib.Dec.{ltb, eqb}
use lib.ListN.{get_or, set}
use borrow.Author.Tests.{ltb-true, eqb-true, eqb-false, eq-eqb, not-true}
use Rattle.laws.proofs.laws.Choice.{look, never, pick_cases, and_fails, or_other, not_of, pick_true, and_left, and_right}
use Rattle.laws.proofs.laws.Fold.{all_says}
use Rattle.laws.specs.Place.{In}
use Rattle.laws.proofs.laws.Place.{at_get_d_lem}
use Rattle.laws.proofs.laws.Lex.{eq_decides}
use Rattle.house.specs.Limits.{least_tray}
use Rattle.house.specs.Pairs.{district, box_no, no_ballot, stamp_lt, same_ballot}
use Rattle.house.proofs.laws.Orders.{ballot_order}
use Rattle.house.specs.declared.Ballot.{Ballot}
use Rattle.house.specs.declared.BoxNo.{BoxNo}
use Rattle.house.specs.declared.District.{District}
use Rattle.house.specs.Plan.{boxes_of, home_of, names, plan_sound}
use Rattle.house.proofs.laws.Says.{some_box, names_district}
use Rattle.house.specs.declared.Plan.{Plan}
use Rattle.records.specs.Rec.{Rec, multicast, accept, accept_ack, deliver, newleader, newleader_ack, new_state}
use Rattle.records.specs.declared.Proposal.{Proposal}
use Rattle.records.specs.declared.Handout.{Handout}
use Rattle.records.specs.declared.Ballotpaper.{Ballotpaper}
use Rattle.records.specs.declared.NewState.{NewState}
use Rattle.house.specs.declared.Order.{Order}
use Rattle.house.specs.declared.Order.TheVariants.{Post, Stand, Retry, Cut, Carry}
use Rattle.records.specs.Rec.{newstate_ack, unknown, carried, addressee_of}
use Rattle.records.proofs.laws.Rec.{meaning_carried}
use Rattle.records.specs.Rules.{rules}
use Rattle.boxes.specs.Box.{home_in, row_at, kept_ballot, last_stamp}
use Rattle.boxes.specs.Out.{Out, refused, does, guard}
use Rattle.boxes.specs.Multicast.{proposed, accepts, on_multicast}
use Rattle.boxes.specs.Accept.{ballot_fits, when_kept, on_accept}
use Rattle.boxes.specs.AcceptAck.{agree_below, agree, when_marked, on_accept_ack}
use Rattle.boxes.specs.Deliver.{on_deliver}
use Rattle.boxes.specs.Newleader.{on_newleader}
use Rattle.boxes.specs.NewleaderAck.{when_voted, voted_by, on_newleader_ack}
use Rattle.boxes.specs.NewState.{on_new_state}
use Rattle.boxes.specs.NewstateAck.{on_newstate_ack}
use Rattle.boxes.specs.Step.{react, takes, retried, stood, cut_off}
use Rattle.boxes.proofs.laws.Answers.{under_or, guard_does}
use Rattle.boxes.specs.Retry.{retry}
use Rattle.boxes.specs.Stand.{stand}
use Rattle.boxes.specs.declared.BoxState.{BoxState}
use Rattle.world.specs.World.{World, record_at, whose, exists, acts, given, finish, step}
use Rattle.in_order.proofs.laws.Notions.{the, ballot_at}
use Rattle.records.proofs.laws.Obeys.{valid_rules}
use Rattle.boxes.proofs.laws.Sound.{SoundBox, sound_says}
use Rattle.in_order.proofs.laws.Facts.{multicast_says, AcceptFacts, accept_says, AckFacts, ack_says, DeliverFacts, deliver_says, LeaderFacts}
use Rattle.in_order.proofs.laws.Facts.{newleader_says, VoteFacts, vote_says, StateFacts, state_says, NsaFacts, nsa_says}
use Rattle.in_order.proofs.laws.Sends.{clash, does_box, does_sent}
use Rattle.in_order.proofs.laws.Moves.{Multicasting, Accepting, Acking, Delivering, Joining, Voting, Stating, Leading, Move, m_post, m_retry, m_stand}
use Rattle.in_order.proofs.laws.Moves.{m_cut, m_propose, m_again, m_keep, m_accept, m_mark, m_commit, m_deliver, m_join, m_hold, m_merge, m_state}
use Rattle.in_order.proofs.laws.Moves.{m_lead, Does, next}

no_does : {A : Type 0} {why : Refusal} {x : BoxState} {l : List Rec} {d : Option ℕ} → refused why ≡ does x l d → A
no_does e = clash (cc)

-- ---- each kind inverted

module _ (P : Plan) (w : World) (from p : BoxNo) (S : SoundBox P (the w p)) {x : BoxState} {l : List Rec} {d : Option ℕ} where
  multicast_does : (j : ℕ) → p.0 < boxes_of P → on_multicast P (the w p) j ≡ does x l d → Does P w p x l
  unfolding on_multicast proposed
  multicast_does j known e =
      let g₁ = guard_does _ _ _ (simp under_or at e) in
      let g₂ = guard_does _ _ _ g₁.1 in
      let g₃ = guard_does _ _ _ g₂.1 in
      go (record { j = j; sound = S; named = g₁.0; lead = g₂.0 }) refl (look (eqb (row_at (the w p) j).phase 0)) g₃.1
    where
      go : (a : Multicasting P w p) → a.j ≡ j → (eqb (row_at (the w p) j).phase 0 ≡ true) ⊎ (eqb (row_at (the w p) j).phase 0 ≡ false)
          → does (proposed P (the w p) j) (accepts P (proposed P (the w p) j) j) None ≡ does x l d
          → Does P w p x l
      go a ej (inl t) k =
          record
          { known = known; move = m_propose a (rw ej (eqb-true (row_at (the w p) j).phase 0 t)); box_is = does_box k ∙ rw ej; sent_is = does_sent k ∙ rw ej }
      go a ej (inr t) k =
          let same : proposed P (the w p) j ≡ the w p = Rattle.laws.proofs.laws.Choice.pick_false _ _ t in
          record {
            known = known;
            move = m_again a (rw ej (eqb-false (row_at (the w p) j).phase 0 t));
            box_is = does_box k ∙ same;
            sent_is = does_sent k ∙ rw (same, ej);
          }

  accept_does : (j : ℕ) (y : Proposal) → In (accept from p j y) w.post → AcceptFacts P from p j y → on_accept P (the w p) from j y ≡ does x l d
      → Does P w p x l
  unfolding on_accept when_kept ballot_fits
  accept_does j y i F e =
      let g₁ = guard_does _ _ _ (simp under_or at e) in
      let g₂ = guard_does _ _ _ g₁.1 in
      let g₃ = guard_does _ _ _ g₂.1 in
      let fits = and_left (ballot_fits P (the w p) j (home_of P from) y) _ g₃.0 in
      let a : Accepting P w p = record {
        from = from;
        j = j;
        y = y;
        there = i;
        sound = S;
        facts = F;
        named = g₁.0;
        active = not-true _ g₂.0;
        own = λ q. ballot_order.eq_says y.ballot (the w p).core.cballot
            (sym (pick_true _ _ (eq-eqb (home_of P from).0 (home_in P (the w p)).0 (ap (λ (h : District). h.0) q))) ∙ fits);
      } in
      pick_cases _ _ _ g₃.1
      (λ t k. record { known = F.to_box_lem; move = m_accept a t; box_is = does_box k; sent_is = does_sent k })
      (λ t k. record { known = F.to_box_lem; move = m_keep a; box_is = does_box k; sent_is = does_sent k })

  ack_does : (j : ℕ) (bs : List Ballot) → In (accept_ack from p j bs) w.post → AckFacts P from p j → on_accept_ack P (the w p) from j bs ≡ does x l d
      → Does P w p x l
  unfolding on_accept_ack when_marked agree agree_below
  ack_does j bs i F e =
      let g₁ = guard_does _ _ _ (simp under_or at e) in
      let g₂ = guard_does _ _ _ g₁.1 in
      let g₃ = guard_does _ _ _ g₂.1 in
      let g₄ = guard_does _ _ _ g₃.1 in
      let all = and_left (agree_below P (the w p) j bs P.districts) _ g₃.0 in
      let a : Acking P w p = record {
        from = from;
        j = j;
        bs = bs;
        there = i;
        sound = S;
        facts = F;
        named = g₁.0;
        lead = g₂.0;
        agree = λ h n. ballot_order.eq_says (ballot_at bs h) (kept_ballot (the w p) j h)
            (or_other (not (names P j h)) _
            (all_says
            (λ d. not (names P j (district d)) || same_ballot (get_or bs d no_ballot) (kept_ballot (the w p) j (district d)))
            P.districts
            all
            h.0
            (names_district P j h S.plan n))
            (not_of n));
        own =
            ballot_order.eq_says (ballot_at bs (home_in P (the w p))) (the w p).core.cballot (and_right (agree_below P (the w p) j bs P.districts) _ g₃.0);
        pending = eqb-false _ _ (not-true _ (and_left (not (eqb (row_at (the w p) j).phase 3)) _ g₄.0));
      } in
      pick_cases _ _ _ g₄.1
      (λ t k. record { known = F.to_box_lem; move = m_commit a t; box_is = does_box k; sent_is = does_sent k })
      (λ t k. record { known = F.to_box_lem; move = m_mark a; box_is = does_box k; sent_is = does_sent k })

  deliver_does : (j : ℕ) (y : Handout) → In (deliver from p j y) w.post → DeliverFacts P from p y → on_deliver P (the w p) j y ≡ does x l d → Does P w p x l
  unfolding on_deliver
  deliver_does j y i F e =
      let g₁ = guard_does _ _ _ (simp under_or at e) in
      let g₂ = guard_does _ _ _ g₁.1 in
      let g₃ = guard_does _ _ _ g₂.1 in
      let g₄ = guard_does _ _ _ g₃.1 in
      let a : Delivering P w p = record {
        from = from;
        j = j;
        y = y;
        there = i;
        sound = S;
        facts = F;
        named = g₁.0;
        active = not-true _ g₂.0;
        same = ballot_order.eq_says _ _ g₃.0;
        above = record { says = and_left (stamp_lt (last_stamp (the w p)) y.global) _ g₄.0 };
        new = not-true _ (and_right (stamp_lt (last_stamp (the w p)) y.global) _ g₄.0);
      } in
      record { known = F.near.to_box_lem; move = m_deliver a; box_is = does_box g₄.1; sent_is = does_sent g₄.1 }

  newleader_does : (b : Ballot) → In (newleader from p b) w.post → LeaderFacts P from p b → on_newleader P (the w p) from b ≡ does x l d → Does P w p x l
  unfolding on_newleader
  newleader_does b i F e =
      let g = guard_does _ _ _ (simp under_or at e) in
      let a : Joining P w p = record { from = from; b = b; there = i; sound = S; facts = F; above = record { says = g.0 } } in
      record { known = F.near.to_box_lem; move = m_join a; box_is = does_box g.1; sent_is = does_sent g.1 }

  vote_does : (y : Ballotpaper) → In (newleader_ack from p y) w.post → VoteFacts P from p y → on_newleader_ack P (the w p) from y ≡ does x l d → Does P w p x l
  unfolding on_newleader_ack when_voted voted_by
  vote_does y i F e =
      let g₁ = guard_does _ _ _ (simp under_or at e) in
      let g₂ = guard_does _ _ _ g₁.1 in
      let g₃ = guard_does _ _ _ g₂.1 in
      let c = not (same_ballot (the w p).core.cballot (the w p).core.ballot) in
      let v = not-true (voted_by (the w p) from) (and_right c _ g₃.0) in
      let a : Voting P w p = record {
        from = from;
        y = y;
        there = i;
        sound = S;
        facts = F;
        waits = g₁.0;
        same = ballot_order.eq_says _ _ g₂.0;
        pending = eq_decides ballot_order _ _ (not-true _ (and_left c _ g₃.0));
        another = λ h q. other h q (and_fails (the w p).volatile.vote.held _ v);
      } in
      pick_cases _ _ _ g₃.1
      (λ t k. record { known = F.near.to_box_lem; move = m_merge a t; box_is = does_box k; sent_is = does_sent k })
      (λ t k. record { known = F.near.to_box_lem; move = m_hold a; box_is = does_box k; sent_is = does_sent k })
    where
      other : (the w p).volatile.vote.held ≡ true → (the w p).volatile.vote.voter ≡ from
          → ((the w p).volatile.vote.held ≡ false) ⊎ (eqb (the w p).volatile.vote.voter.0 from.0 ≡ false) → ⊥
      other h q (inl n) = never h n
      other h q (inr n) = eqb-false _ _ n (ap (λ (b : BoxNo). b.0) q)

  state_does : (y : NewState) → In (new_state from p y) w.post → StateFacts P from p y → on_new_state (the w p) from y ≡ does x l d → Does P w p x l
  unfolding on_new_state
  state_does y i F e =
      let g₁ = guard_does _ _ _ (simp under_or at e) in
      let g₂ = guard_does _ _ _ g₁.1 in
      let a : Stating P w p = record { from = from; y = y; there = i; sound = S; facts = F; waits = g₁.0; same = ballot_order.eq_says _ _ g₂.0 } in
      record { known = F.apart.near.to_box_lem; move = m_state a; box_is = does_box g₂.1; sent_is = does_sent g₂.1 }

  nsa_does : (b : Ballot) → In (newstate_ack from p b) w.post → NsaFacts P from p b → on_newstate_ack P (the w p) b ≡ does x l d → Does P w p x l
  unfolding on_newstate_ack
  nsa_does b i F e =
      let g₁ = guard_does _ _ _ (simp under_or at e) in
      let g₂ = guard_does _ _ _ g₁.1 in
      let s = same_ballot b (the w p).core.ballot in
      let a : Leading P w p = record {
        from = from;
        b = b;
        there = i;
        sound = S;
        facts = F;
        waits = g₁.0;
        same = ballot_order.eq_says b (the w p).core.ballot (and_left s _ g₂.0);
        current = ballot_order.eq_says b (the w p).core.cballot (and_right s _ g₂.0);
      } in
      record { known = F.apart.near.to_box_lem; move = m_lead a; box_is = does_box g₂.1; sent_is = does_sent g₂.1 }

react_does : (P : Plan) (w : World) (r : Rec) → In r w.post → rules P r ≡ true → SoundBox P (the w (addressee_of r))
    → (x : BoxState) (l : List Rec) (d : Option ℕ)
    → react P (the w (addressee_of r)) r ≡ does x l d → Does P w (addressee_of r) x l
unfolding react addressee_of carried
react_does P w (multicast from to j) i v S x l d e = multicast_does P w from to S j (multicast_says P from to j v) e
react_does P w (accept from to j y) i v S x l d e = accept_does P w from to S j y i (accept_says P from to j y v) e
react_does P w (accept_ack from to j bs) i v S x l d e = ack_does P w from to S j bs i (ack_says P from to j bs v) e
react_does P w (deliver from to j y) i v S x l d e = deliver_does P w from to S j y i (deliver_says P from to j y v) e
react_does P w (newleader from to b) i v S x l d e = newleader_does P w from to S b i (newleader_says P from to b v) e
react_does P w (newleader_ack from to y) i v S x l d e = vote_does P w from to S y i (vote_says P from to y v) e
react_does P w (new_state from to y) i v S x l d e = state_does P w from to S y i (state_says P from to y v) e
react_does P w (newstate_ack from to b) i v S x l d e = nsa_does P w from to S b i (nsa_says P from to b v) e
react_does P w unknown i v S x l d e = no_does e

-- ---- each order inverted

takes_does : (P : Plan) (w : World) (r : Rec) → In r w.post → (x : BoxState) (l : List Rec) (d : Option ℕ)
    → takes P (the w (addressee_of r)) least_tray (carried r) ≡ does x l d → Does P w (addressee_of r) x l
unfolding takes
takes_does P w r i x l d e =
    let g₁ = guard_does _ _ _ e in
    let g₂ = guard_does _ _ _ g₁.1 in
    let g₃ = guard_does _ _ _ g₂.1 in
    let g₄ = guard_does _ _ _ g₃.1 in
    react_does P w r i (valid_rules P r g₃.0) (sound_says P (the w (addressee_of r)) g₁.0) x l d (rw (meaning_carried r) at g₄.1)

acts_does : (P : Plan) (w : World) (o : Order) → plan_sound P ≡ true → exists P w o ≡ true → (x : BoxState) (l : List Rec) (d : Option ℕ)
    → acts P w o ≡ does x l d
    → Does P w (box_no (whose w o)) x l
unfolding acts whose exists retried stood cut_off retry stand
acts_does P w (Post j) s v x l d e = record { known = some_box P s; move = m_post j; box_is = does_box e; sent_is = does_sent e }
acts_does P w (Stand p) s v x l d e =
    let g₁ = guard_does _ _ _ (simp under_or at e) in
    let g₂ = guard_does _ _ _ g₁.1 in
    let g₃ = guard_does _ _ _ g₂.1 in
    record { known = ltb-true _ _ v; move = m_stand; box_is = does_box g₃.1; sent_is = does_sent g₃.1 }
acts_does P w (Retry p j) s v x l d e =
    let g₁ = guard_does _ _ _ (simp under_or at e) in
    let g₂ = guard_does _ _ _ g₁.1 in
    let g₃ = guard_does _ _ _ g₂.1 in
    let g₄ = guard_does _ _ _ g₃.1 in
    record { known = ltb-true _ _ (and_left (ltb p (boxes_of P)) _ v); move = m_retry j; box_is = does_box g₄.1; sent_is = does_sent g₄.1 }
acts_does P w (Cut p) s v x l d e =
    let g₁ = guard_does _ _ _ e in record { known = ltb-true _ _ v; move = m_cut; box_is = does_box g₁.1; sent_is = does_sent g₁.1 }
acts_does P w (Carry k) s v x l d e = takes_does P w (record_at w k) (record { place = k; there = at_get_d_lem w.post k unknown (ltb-true _ _ v) }) x l d e

-- ---- the view

pub data View (P : Plan) (w : World) (w' : World) : Type 0 where
  same : w' ≡ w → View P w w'
  moved : (p : BoxNo) → p.0 < boxes_of P → (m : Move P w p) → w' ≡ next P w p m → View P w w'

pub view : (P : Plan) (w : World) (o : Order) → View P w (step P w o)
unfolding step given
view P w o = go _ refl
  where
    go : (a : Out) → guard (plan_sound P) NotSound (guard (exists P w o) NoSuch (acts P w o)) ≡ a → View P w (finish w (whose w o) a)
    go (refused why) e = same refl
    go (does x l d) e =
        let g₁ = guard_does _ _ _ e in
        let g₂ = guard_does _ _ _ g₁.1 in
        let D = acts_does P w o g₁.0 g₂.0 x l d g₂.1 in
        moved (box_no (whose w o)) D.known D.move (λ i. record { boxes = set w.boxes (whose w o) (D.box_is i); post = w.post ++ D.sent_is i })
