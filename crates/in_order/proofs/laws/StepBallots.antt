-- Ballots: every move keeps B1 I1c B2 I1b B4 B5 B6l B6a B7.
-- Work is in kinds 5 to 8.
use Prim.Native.Nat.{ℕ, ◌<◌}
use mathlib.Core.Bool.{true}
use mathlib.Core.Logic.{◌⊎◌, inl, inr, ◌≢◌}
use mathlib.Core.Path.{◌≡◌, sym, ap, ◌∙◌, subst}
use Rattle.laws.proofs.laws.Choice.{never}
use Rattle.house.proofs.laws.Orders.{ballot_order}
use Rattle.house.specs.declared.Stamp.{Stamp}
use Rattle.house.specs.declared.Ballot.{Ballot}
use Rattle.house.specs.declared.BoxNo.{BoxNo}
use Rattle.house.specs.Plan.{boxes_of, home_of}
use Rattle.house.specs.declared.Plan.{Plan}
use Rattle.records.specs.declared.Ballotpaper.{Ballotpaper}
use Rattle.records.specs.declared.NewState.{NewState}
use Rattle.boxes.specs.Box.{is_leader, is_recovering, own_of}
use Rattle.boxes.specs.Newleader.{joined, clock_stamp}
use Rattle.boxes.specs.Merge.{merged}
use Rattle.boxes.specs.NewState.{followed}
use Rattle.boxes.specs.NewstateAck.{leading}
use Rattle.boxes.specs.AcceptAck.{committed}
use Rattle.boxes.specs.declared.BoxState.{BoxState}
use Rattle.world.specs.World.{World}
use Rattle.in_order.proofs.laws.Compare.{Lower, Upto, eq_le, le_le, le_ne, lt_not}
use Rattle.in_order.proofs.laws.Quorate.{Quorate}
use Rattle.in_order.proofs.laws.Counting.{pair}
use Rattle.in_order.proofs.laws.Notions.{the, Acc, Del, Voted, News, NewsOf, Nsa, Joined, follows, heads}
use Rattle.in_order.proofs.laws.Inv.{Forms, Ballots, Inv}
use Rattle.in_order.proofs.laws.Grow.{acc_cases, del_cases, voted_cases, news_cases, nsa_cases, news_up, news_of_up, joined_all}
use Rattle.in_order.proofs.laws.Moves.{Voting, Leading, Move, box, sent, next, merges}
use Rattle.in_order.proofs.laws.Steps.{ModeStep, mode_same, mode_join, mode_merge, mode_state, mode_lead, mode}
use Rattle.in_order.proofs.laws.Origins.{HandFrom, by_commit, by_lead, acc_new, del_new, vote_new, news_new, nsa_new}
use Rattle.in_order.proofs.laws.Next.{grows, mover, boxes_next, own_is, ballot_up, cballot_up}
use Rattle.in_order.proofs.laws.Facts.{cballot_upto}

module _ (P : Plan) (w : World) (p : BoxNo) (known : p.0 < boxes_of P) (m : Move P w p) (I : Inv P w) where
  F : Forms P w
  F = I.forms

  x : BoxState
  x = the w p

  own : own_of (the w p) ≡ p
  own = own_is P w p known F m

  -- a property of the mover in the next world is one of its new box
  at_mover : (Q : BoxState → Type 0) → Q (box P w p m) → Q (the (next P w p m) p)
  at_mover Q h = rw (mover P w p known F m) h

  -- ---- votes

  b1' : {q : BoxNo} {z : Ballotpaper} → Voted (next P w p m).post q z → Upto z.ballot (the (next P w p m) q).core.ballot
  unfolding joined
  b1' {q} {z} h = go (voted_cases w.post (sent P w p m) h)
    where
      go : Voted w.post q z ⊎ Voted (sent P w p m) q z → Upto z.ballot (the (next P w p m) q).core.ballot
      go (inl o) = le_le ballot_order (I.ballots.b1 o) (ballot_up P w p known F m q)
      go (inr n) =
          let N = vote_new P w p known F m n in
          rw (N.by ∙ own) (at_mover (λ y. Upto z.ballot y.core.ballot)
          (eq_le ballot_order (ap (λ (c : Ballotpaper). c.ballot) N.is ∙ sym (ap (λ (y : BoxState). y.core.ballot) N.box_is))))

  -- a new vote is for a ballot above the own, so no old one is for it
  new_old : {q : BoxNo} {z z' : Ballotpaper} {A : Type 0} → Voted (sent P w p m) q z → Voted w.post q z' → z.ballot ≡ z'.ballot → A
  new_old {q} {z} {z'} n o e =
      let N = vote_new P w p known F m n in
      let u : Upto z'.ballot (the w p).core.ballot = subst (λ (r : BoxNo). Upto z'.ballot (the w r).core.ballot) (N.by ∙ own) (I.ballots.b1 o) in
      lt_not ballot_order N.a.above (rw (sym (ap (λ (c : Ballotpaper). c.ballot) N.is) ∙ e) u)

  i1c' : {q : BoxNo} {z z' : Ballotpaper} → Voted (next P w p m).post q z → Voted (next P w p m).post q z' → z.ballot ≡ z'.ballot → z ≡ z'
  i1c' {q} {z} {z'} h h' e = go (voted_cases w.post (sent P w p m) h) (voted_cases w.post (sent P w p m) h')
    where
      go : Voted w.post q z ⊎ Voted (sent P w p m) q z → Voted w.post q z' ⊎ Voted (sent P w p m) q z' → z ≡ z'
      go (inl o) (inl o') = I.ballots.i1c o o' e
      go (inl o) (inr n) = new_old n o (sym e)
      go (inr n) (inl o) = new_old n o e
      go (inr n) (inr n') =
          let N = vote_new P w p known F m n in
          let N' = vote_new P w p known F m n' in
          let b : N.a.b ≡ N'.a.b = sym (ap (λ (c : Ballotpaper). c.ballot) N.is) ∙ e ∙ ap (λ (c : Ballotpaper). c.ballot) N'.is in
          N.is ∙ (λ i. record { ballot = b i; cballot = (the w p).core.cballot; clock = clock_stamp P (the w p); table = (the w p).core.table }) ∙ sym N'.is

  -- ---- new states

  -- the merging box heads its ballot, and had a lower cballot
  pub merger : (a : Voting P w p) → (the w p).core.ballot.owner ≡ p
  merger a = sym (ap (λ (b : Ballot). b.owner) a.same) ∙ a.facts.theirs

  merger_low : (a : Voting P w p) → Lower (the w p).core.cballot (the w p).core.ballot
  merger_low a = le_ne ballot_order (cballot_upto a.sound) a.pending

  b2' : {y : NewState} → News (next P w p m).post y → Upto y.ballot (the (next P w p m) y.ballot.owner).core.cballot
  unfolding merged
  b2' {y} h = go (news_cases w.post (sent P w p m) h)
    where
      go : News w.post y ⊎ News (sent P w p m) y → Upto y.ballot (the (next P w p m) y.ballot.owner).core.cballot
      go (inl o) = le_le ballot_order (I.ballots.b2 o) (cballot_up P w p known F m y.ballot.owner)
      go (inr n) =
          let N = news_new P w p known F m n in
          let e : y.ballot ≡ (the w p).core.ballot = ap (λ (s : NewState). s.ballot) N.is in
          let o : y.ballot.owner ≡ p = ap (λ (b : Ballot). b.owner) e ∙ merger N.a in
          subst (λ (q : BoxNo). Upto y.ballot (the (next P w p m) q).core.cballot) (sym o)
          (at_mover (λ z. Upto y.ballot z.core.cballot) (eq_le ballot_order (e ∙ sym (ap (λ (z : BoxState). z.core.cballot) N.box_is))))

  -- a merging box's ballot has no NEW_STATE yet
  pub no_news_yet : (a : Voting P w p) {A : Type 0} → NewsOf w.post (the w p).core.ballot → A
  no_news_yet a o =
      let q : o.state.ballot.owner ≡ p = ap (λ (b : Ballot). b.owner) o.ballot ∙ merger a in
      let u : Upto o.state.ballot (the w p).core.cballot =
      subst (λ (r : BoxNo). Upto o.state.ballot (the w r).core.cballot) q (I.ballots.b2 o.news) in
      lt_not ballot_order (merger_low a) (rw o.ballot at u)

  -- so a new NEW_STATE is of a ballot that had none
  pub fresh_news : {y : NewState} {A : Type 0} → News (sent P w p m) y → NewsOf w.post y.ballot → A
  fresh_news n o = let N = news_new P w p known F m n in no_news_yet N.a (rw (ap (λ (s : NewState). s.ballot) N.is) at o)

  pub i1b' : {y y' : NewState} → News (next P w p m).post y → News (next P w p m).post y' → y.ballot ≡ y'.ballot → y ≡ y'
  i1b' {y} {y'} h h' e = go (news_cases w.post (sent P w p m) h) (news_cases w.post (sent P w p m) h')
    where
      go : News w.post y ⊎ News (sent P w p m) y → News w.post y' ⊎ News (sent P w p m) y' → y ≡ y'
      go (inl o) (inl o') = I.ballots.i1b o o' e
      go (inl o) (inr n) = fresh_news n (record { state = y; ballot = e; news = o })
      go (inr n) (inl o) = fresh_news n (record { state = y'; ballot = sym e; news = o })
      go (inr n) (inr n') =
          let N = news_new P w p known F m n in
          let N' = news_new P w p known F m n' in
          let b : merges P w p N.a ≡ merges P w p N'.a = sym N.box_is ∙ N'.box_is in
          N.is ∙ (λ i. record { ballot = (the w p).core.ballot; clock = clock_stamp P (b i); table = (b i).core.table }) ∙ sym N'.is

  -- ---- acknowledged new states

  b4_other' : {q : BoxNo} {b : Ballot} → Nsa (next P w p m).post q b → q ≢ b.owner
  b4_other' {q} {b} h = go (nsa_cases w.post (sent P w p m) h)
    where
      go : Nsa w.post q b ⊎ Nsa (sent P w p m) q b → q ≢ b.owner
      go (inl o) = I.ballots.b4_other o
      go (inr n) =
          let N = nsa_new P w p known F m n in
          λ e. N.a.facts.apart.other (sym N.a.facts.mine ∙ sym (ap (λ (c : Ballot). c.owner) N.ballot) ∙ sym e ∙ N.by ∙ own)

  b4_news' : {q : BoxNo} {b : Ballot} → Nsa (next P w p m).post q b → NewsOf (next P w p m).post b
  b4_news' {q} {b} h = go (nsa_cases w.post (sent P w p m) h)
    where
      go : Nsa w.post q b ⊎ Nsa (sent P w p m) q b → NewsOf (next P w p m).post b
      go (inl o) = news_of_up (grows P w p known F m) (I.ballots.b4_news o)
      go (inr n) =
          let N = nsa_new P w p known F m n in
          record
          { state = N.a.y; ballot = sym N.ballot; news = news_up (grows P w p known F m) (record { from = N.a.from; to = p; there = N.a.there }) }

  b4_upto' : {q : BoxNo} {b : Ballot} → Nsa (next P w p m).post q b → Upto b (the (next P w p m) q).core.cballot
  unfolding followed
  b4_upto' {q} {b} h = go (nsa_cases w.post (sent P w p m) h)
    where
      go : Nsa w.post q b ⊎ Nsa (sent P w p m) q b → Upto b (the (next P w p m) q).core.cballot
      go (inl o) = le_le ballot_order (I.ballots.b4_upto o) (cballot_up P w p known F m q)
      go (inr n) =
          let N = nsa_new P w p known F m n in
          rw
          (N.by ∙ own)
          (at_mover (λ y. Upto b y.core.cballot) (eq_le ballot_order (N.ballot ∙ sym (ap (λ (y : BoxState). y.core.cballot) N.box_is))))

  -- ---- B5

  joined_upto : {q : BoxNo} {b : Ballot} → Joined (next P w p m).post q b → Upto b (the (next P w p m) q).core.cballot
  joined_upto (follows h) = b4_upto' h
  joined_upto {q} {b} (heads e h) =
      let u = b2' h.news in
      let o : h.state.ballot.owner ≡ q = ap (λ (c : Ballot). c.owner) h.ballot ∙ sym e in
      subst
      (λ (c : Ballot). Upto c (the (next P w p m) q).core.cballot)
      h.ballot
      (subst (λ (r : BoxNo). Upto h.state.ballot (the (next P w p m) r).core.cballot) o u)

  -- an old joining, or one by the mover of its own ballot
  data Join (q : BoxNo) (b : Ballot) : Type 0 where
    join_old : Joined w.post q b → Join q b
    join_new : q ≡ p → b ≡ (the w p).core.ballot → Join q b

  join : {q : BoxNo} {b : Ballot} → Joined (next P w p m).post q b → Join q b
  join {q} {b} (follows h) = go (nsa_cases w.post (sent P w p m) h)
    where
      go : Nsa w.post q b ⊎ Nsa (sent P w p m) q b → Join q b
      go (inl o) = join_old (follows o)
      go (inr n) = let N = nsa_new P w p known F m n in join_new (N.by ∙ own) (N.ballot ∙ N.a.same)
  join {q} {b} (heads e h) = go (news_cases w.post (sent P w p m) h.news)
    where
      go : News w.post h.state ⊎ News (sent P w p m) h.state → Join q b
      go (inl o) = join_old (heads e (record { state = h.state; ballot = h.ballot; news = o }))
      go (inr n) =
          let N = news_new P w p known F m n in
          let eb : b ≡ (the w p).core.ballot = sym h.ballot ∙ ap (λ (s : NewState). s.ballot) N.is in
          join_new (e ∙ ap (λ (c : Ballot). c.owner) eb ∙ merger N.a) eb

  b5' : {q : BoxNo} {b : Ballot} {z : Ballotpaper} → Joined (next P w p m).post q b → Voted (next P w p m).post q z → Lower b z.ballot
      → Upto b z.cballot
  unfolding joined
  b5' {q} {b} {z} j h l = go (voted_cases w.post (sent P w p m) h)
    where
      old : Voted w.post q z → Join q b → Upto b z.cballot
      old o (join_old k) = I.ballots.b5 k o l
      old o (join_new e eb) =
          let u : Upto z.ballot (the w p).core.ballot = subst (λ (r : BoxNo). Upto z.ballot (the w r).core.ballot) e (I.ballots.b1 o) in
          lt_not ballot_order l (rw eb u)

      go : Voted w.post q z ⊎ Voted (sent P w p m) q z → Upto b z.cballot
      go (inl o) = old o (join j)
      go (inr n) =
          let N = vote_new P w p known F m n in
          let c : (the (next P w p m) q).core.cballot ≡ z.cballot =
          rw
          (N.by ∙ own)
          (at_mover
          (λ y. y.core.cballot ≡ z.cballot)
          (ap (λ (y : BoxState). y.core.cballot) N.box_is ∙ sym (ap (λ (c : Ballotpaper). c.cballot) N.is))) in
          rw c at (joined_upto j)

  -- ---- B6: quorums that joined

  -- a new leader and the sender of the NEWSTATE_ACK
  leads : (a : Leading P w p) → Quorate P (home_of P (the w p).core.cballot.owner) (λ q. Joined w.post q (the w p).core.cballot)
  leads a =
      let h : Nsa w.post a.from (the w p).core.cballot = record { to = p; there = rw a.current at a.there } in
      let o : (the w p).core.cballot.owner ≡ p = sym (ap (λ (b : Ballot). b.owner) a.current) ∙ a.facts.theirs in
      let N = a.facts.apart.near in
      pair
      F.plan
      a.from
      p
      N.from_box
      N.to_box_lem
      (N.home ∙ sym (ap (λ (q : BoxNo). home_of P q) o))
      (sym (ap (λ (q : BoxNo). home_of P q) o))
      a.facts.apart.other
      (follows h) (heads (sym o) (I.ballots.b4_news h))

  b6l' : (q : BoxNo) → q.0 < boxes_of P → is_leader (the (next P w p m) q).core.status ≡ true
      → Quorate P (home_of P (the (next P w p m) q).core.cballot.owner) (λ r. Joined (next P w p m).post r (the (next P w p m) q).core.cballot)
  b6l' =
      boxes_next P w p known F m
      (λ q y. is_leader y.core.status ≡ true → Quorate P (home_of P y.core.cballot.owner) (λ r. Joined (next P w p m).post r y.core.cballot))
      (go (mode P w p known F m)) (λ q l t. joined_all (grows P w p known F m) (I.ballots.b6l q l t))
    where
      go : ModeStep P w p (box P w p m) → is_leader (box P w p m).core.status ≡ true
          → Quorate P (home_of P (box P w p m).core.cballot.owner) (λ r. Joined (next P w p m).post r (box P w p m).core.cballot)
      go (mode_same b c s) t = rw c (joined_all (grows P w p known F m) (I.ballots.b6l p known (rw s at t)))
      go (mode_join a b c s n) t = never t n
      go (mode_merge a b c n) t = never t n
      go (mode_state a b c s n) t = never t n
      go (mode_lead a b c s) t = rw c (joined_all (grows P w p known F m) (leads a))

  b6a' : {j : ℕ} {b : Ballot} {s : Stamp} → Acc (next P w p m).post j b s → Quorate P (home_of P b.owner) (λ q. Joined (next P w p m).post q b)
  b6a' {j} {b} {s} h = go (acc_cases w.post (sent P w p m) h)
    where
      go : Acc w.post j b s ⊎ Acc (sent P w p m) j b s → Quorate P (home_of P b.owner) (λ q. Joined (next P w p m).post q b)
      go (inl o) = joined_all (grows P w p known F m) (I.ballots.b6a o)
      go (inr n) = let N = acc_new P w p known F m n in rw N.ballot (joined_all (grows P w p known F m) (I.ballots.b6l p known N.asks.lead))

  hands : (y : BoxState) → HandFrom P w p y → Quorate P (home_of P y.core.cballot.owner) (λ q. Joined w.post q y.core.cballot)
  unfolding committed leading
  hands y (by_commit a t e) = rw (ap (λ (z : BoxState). z.core.cballot) e) (I.ballots.b6l p known a.lead)
  hands y (by_lead a e) = rw (ap (λ (z : BoxState). z.core.cballot) e) (leads a)

  b6d' : {j : ℕ} {b : Ballot} {s t : Stamp} → Del (next P w p m).post j b s t → Quorate P (home_of P b.owner) (λ q. Joined (next P w p m).post q b)
  b6d' {j} {b} {s} {t} h = go (del_cases w.post (sent P w p m) h)
    where
      go : Del w.post j b s t ⊎ Del (sent P w p m) j b s t → Quorate P (home_of P b.owner) (λ q. Joined (next P w p m).post q b)
      go (inl o) = joined_all (grows P w p known F m) (I.ballots.b6d o)
      go (inr n) =
          let N = del_new P w p known F m {i = n.there.place} (record { from = n.from; to = n.to; there = n.there.there }) in
          let e : b ≡ N.y.core.cballot = ap (λ (o : Rattle.records.specs.declared.Handout.Handout). o.ballot) N.is in
          rw e (joined_all (grows P w p known F m) (hands N.y N.hand_from))

  -- ---- B7

  b7' : (q : BoxNo) → q.0 < boxes_of P → is_recovering (the (next P w p m) q).core.status ≡ true
      → (the (next P w p m) q).core.cballot ≡ (the (next P w p m) q).core.ballot
      → q ≡ (the (next P w p m) q).core.ballot.owner
  b7' =
      boxes_next P w p known F m (λ q y. is_recovering y.core.status ≡ true → y.core.cballot ≡ y.core.ballot → q ≡ y.core.ballot.owner)
      (go (mode P w p known F m)) I.ballots.b7
    where
      go : ModeStep P w p (box P w p m) → is_recovering (box P w p m).core.status ≡ true → (box P w p m).core.cballot ≡ (box P w p m).core.ballot
          → p ≡ (box P w p m).core.ballot.owner
      go (mode_same b c s) t e = I.ballots.b7 p known (rw s at t) (sym c ∙ e ∙ b) ∙ sym (ap (λ (d : Ballot). d.owner) b)
      go (mode_join a b c s n) t e =
          lt_not ballot_order a.above (subst (λ (d : Ballot). Upto d (the w p).core.ballot) (sym c ∙ e ∙ b) (cballot_upto a.sound))
      go (mode_merge a b c n) t e = sym (ap (λ (d : Ballot). d.owner) b ∙ merger a)
      go (mode_state a b c s n) t e = never t s
      go (mode_lead a b c s) t e = never t s

  pub ballots_step : Ballots P (next P w p m)
  ballots_step =
      record {
        b1 = b1';
        i1c = i1c';
        b2 = b2';
        i1b = i1b';
        b4_other = b4_other';
        b4_news = b4_news';
        b4_upto = b4_upto';
        b5 = b5';
        b6l = b6l';
        b6a = b6a';
        b6d = b6d';
        b7 = b7';
      }
