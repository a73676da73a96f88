-- The DELIVERs of a job go to every box of the district, one block after the other: no DELIVER of another job stands between them.
-- So 'handed out' can be said of each box. Nothing of the invariants is used; only what a step sends.
use Prim.Native.Nat.{ℕ, ◌+◌, ◌<◌}
use mathlib.Core.Bool.{false}
use mathlib.Core.List.{List, [], ◌∷◌, ◌++◌}
use mathlib.Core.Logic.{◌≢◌}
use mathlib.Core.Path.{◌≡◌, refl, sym, ap, ◌∙◌}
use native.Mathlib.Omega.{arith}
use lib.Dec.{eqb}
use lib.ListN.{length}
use Rattle.laws.proofs.laws.Choice.{pick_both, never}
use Rattle.laws.proofs.laws.Fold.{upto_keeps}
use Rattle.laws.specs.Place.{At, In}
use Rattle.laws.proofs.laws.Place.{Side, before, after, at_left, at_right, at_lt, at_side, in_nil, in_left, in_right, in_one}
use Rattle.house.specs.declared.BoxNo.{BoxNo}
use Rattle.house.specs.Plan.{boxes_of, home_of, same_home}
use Rattle.house.proofs.laws.Says.{same_home_is}
use Rattle.house.specs.declared.Plan.{Plan}
use Rattle.records.specs.Rec.{Rec, deliver, carried}
use Rattle.records.specs.declared.Handout.{Handout}
use Rattle.house.specs.declared.Order.{Order}
use Rattle.boxes.specs.Box.{own_of, row_at}
use Rattle.boxes.specs.Multicast.{accepts}
use Rattle.boxes.specs.Accept.{acks}
use Rattle.boxes.specs.Newleader.{vote_for}
use Rattle.boxes.specs.NewleaderAck.{new_states}
use Rattle.boxes.specs.NewstateAck.{leading}
use Rattle.boxes.specs.Post.{posts}
use Rattle.boxes.specs.Retry.{retries}
use Rattle.boxes.specs.Ready.{Handing, delivers, hand_next, hand_turns, hand_out}
use Rattle.boxes.specs.declared.BoxState.{BoxState}
use Rattle.world.specs.World.{World, new, step, run}
use Rattle.in_order.proofs.laws.Notions.{the}
use Rattle.in_order.proofs.laws.Sends.{in_each, each_in}
use Rattle.in_order.proofs.laws.Moves.{Move, m_post, m_retry, m_stand, m_cut, m_propose, m_again, m_keep, m_accept, m_mark, m_commit, m_deliver, m_join}
use Rattle.in_order.proofs.laws.Moves.{m_hold, m_merge, m_state, m_lead, commits, sent}
use Rattle.in_order.proofs.laws.View.{View, same, moved, view}

-- a DELIVER of job k at place i
pub record Goes (l : List Rec) (i : ℕ) (from to : BoxNo) (k : ℕ) (y : Handout) : Type 0 where
  pub there : At l i (deliver from to k y)

-- a record stands before place i
pub record Ahead (l : List Rec) (i : ℕ) (r : Rec) : Type 0 where
  pub place : ℕ
  pub before : place < i
  pub there : At l place r

pub record Whole (P : Plan) (l : List Rec) : Type 0 where
  -- beside a DELIVER stand those to all boxes of its sender's district
  pub complete : {i : ℕ} {from to : BoxNo} {k : ℕ} {y : Handout} → Goes l i from to k y → (q : BoxNo) → q.0 < boxes_of P → home_of P q ≡ home_of P from
      → In (deliver from q k y) l
  -- and all of them before a DELIVER of another job that stands behind one
  pub ordered : {i j : ℕ} {from to from' to' : BoxNo} {k m : ℕ} {y z : Handout} → j < i → Goes l j from to k y → Goes l i from' to' m z → k ≢ m
      → (q : BoxNo) → q.0 < boxes_of P → home_of P q ≡ home_of P from → Ahead l i (deliver from q k y)

-- ---- lists

-- without a DELIVER
whole_none : {P : Plan} {l : List Rec} → ((r : Rec) → In r l → eqb (carried r).kind 4 ≡ false) → Whole P l
unfolding carried
whole_none f =
    record {
      complete = λ h q b e. never refl (f _ (record { place = _; there = h.there }));
      ordered = λ o h g n q b e. never refl (f _ (record { place = _; there = h.there }));
    }

whole_nil : {P : Plan} → Whole P []
whole_nil = whole_none (λ r h. absurd (in_nil h))

whole_both : {P : Plan} {l k : List Rec} → Whole P l → Whole P k → Whole P (l ++ k)
whole_both {P} {l} {k} A B =
    record {
      complete = λ {i} h q b e. full i (at_side l k i h.there) q b e;
      ordered = λ {i} {j} o h g n q b e. behind i j o (at_side l k j h.there) (at_side l k i g.there) n q b e;
    }
  where
    full : (i : ℕ) {from to : BoxNo} {c : ℕ} {y : Handout} → Side l k i (deliver from to c y) → (q : BoxNo) → q.0 < boxes_of P → home_of P q ≡ home_of P from
        → In (deliver from q c y) (l ++ k)
    full i (before h) q b e = in_left l k (A.complete (record { there = h }) q b e)
    full i (after j x h) q b e = in_right l k (B.complete (record { there = h }) q b e)

    behind : (i j : ℕ) {from to from' to' : BoxNo} {c m : ℕ} {y z : Handout} → j < i → Side l k j (deliver from to c y) → Side l k i (deliver from' to' m z)
        → c ≢ m
        → (q : BoxNo) → q.0 < boxes_of P → home_of P q ≡ home_of P from → Ahead (l ++ k) i (deliver from q c y)
    behind i j o (before h) (before g) n q b e =
        let r = A.ordered o (record { there = h }) (record { there = g }) n q b e in
        record { place = r.place; before = r.before; there = at_left l k r.place r.there }
    behind i j o (before h) (after d x g) n q b e =
        let r = A.complete (record { there = h }) q b e in
        let s = at_lt l r.place r.there in
        record { place = r.place; before = omega arith; there = at_left l k r.place r.there }
    behind i j o (after c x h) (before g) n q b e = absurd (let s = at_lt l i g in omega arith)
    behind i j o (after c x h) (after d v g) n q b e =
        let r = B.ordered {i = d} {j = c} (omega arith) (record { there = h }) (record { there = g }) n q b e in
        let s = r.before in
        record { place = length l + r.place; before = omega arith; there = at_right l k r.place r.there }

-- ---- a hand-out

module _ (P : Plan) (x : BoxState) (j : ℕ) where
  abbrev paper : Handout
  paper = record { ballot = x.core.cballot; local = (row_at x j).local; global = (row_at x j).global }

  same_job : (i : ℕ) (from to : BoxNo) (k : ℕ) (y : Handout) → At (delivers P x j) i (deliver from to k y) → (from ≡ own_of x) × (k ≡ j) × (y ≡ paper)
  unfolding delivers
  same_job i from to k y h = let e = (in_each (record { place = i; there = h })).is in (cc, cc, cc)

  to_each_lem : (q : BoxNo) → q.0 < boxes_of P → home_of P q ≡ home_of P (own_of x) → In (deliver (own_of x) q j paper) (delivers P x j)
  unfolding delivers
  to_each_lem q b e = each_in P (λ p. same_home P p (own_of x)) (λ to. deliver (own_of x) to j paper) q b (same_home_is P q (own_of x) e)

  whole_job : Whole P (delivers P x j)
  whole_job =
      record {
        complete =
            λ {i} {from} {to} {k} {y} h q b e. let z = same_job i from to k y h.there in rw (z.0, z.1, z.2) (to_each_lem q b (e ∙ ap (home_of P) z.0));
        ordered = λ {i} {j = i'} {from} {to} {from'} {to'} {k} {m} {y} {z} o h g n q b e.
            absurd (n ((same_job i' from to k y h.there).1 ∙ sym (same_job i from' to' m z g.there).1));
      }

whole_hand : (P : Plan) (x : BoxState) → Whole P (hand_out P x).sent
unfolding hand_turns hand_next
whole_hand P x =
    upto_keeps (λ (h : Handing). Whole P h.sent) (λ h i. hand_next P h) (record { box = x; sent = [] }) P.jobs whole_nil
    (λ h i l W. pick_both (λ (g : Handing). Whole P g.sent) _ W (whole_both W (whole_job P h.box _)))

-- ---- a step, a run

module _ (P : Plan) (w : World) (p : BoxNo) where
  whole_sent : (m : Move P w p) → Whole P (sent P w p m)
  unfolding carried posts retries accepts acks vote_for new_states
  whole_sent (m_post j) = whole_none (λ r h. let z = in_each h in rw z.is refl)
  whole_sent (m_retry j) = whole_none (λ r h. let z = in_each h in rw z.is refl)
  whole_sent m_stand = whole_none (λ r h. let z = in_each h in rw z.is refl)
  whole_sent m_cut = whole_nil
  whole_sent (m_propose a n) = whole_none (λ r h. let z = in_each h in rw z.is refl)
  whole_sent (m_again a n) = whole_none (λ r h. let z = in_each h in rw z.is refl)
  whole_sent (m_keep a) = whole_nil
  whole_sent (m_accept a f) = whole_none (λ r h. let z = in_each h in rw z.is refl)
  whole_sent (m_mark a) = whole_nil
  whole_sent (m_commit a f) = whole_hand P (commits P w p a)
  whole_sent (m_deliver a) = whole_nil
  whole_sent (m_join a) = whole_none (λ r h. let z = in_one h in rw z refl)
  whole_sent (m_hold a) = whole_nil
  whole_sent (m_merge a q) = whole_none (λ r h. let z = in_each h in rw z.is refl)
  whole_sent (m_state a) = whole_none (λ r h. let z = in_one h in rw z refl)
  whole_sent (m_lead a) = whole_hand P (leading (the w p))

whole_step : (P : Plan) (w : World) (o : Order) → Whole P w.post → Whole P (step P w o).post
whole_step P w o W = go (view P w o)
  where
    go : {w' : World} → View P w w' → Whole P w'.post
    go (same e) = rw e W
    go (moved p h m e) = rw e (whole_both W (whole_sent P w p m))

whole_run : (P : Plan) (w : World) (os : List Order) → Whole P w.post → Whole P (run P w os).post
unfolding run
whole_run P w [] W = W
whole_run P w (o ∷ os) W = whole_run P (step P w o) os (whole_step P w o W)

pub whole : (P : Plan) (os : List Order) → Whole P (run P (new P) os).post
unfolding new
whole P os = whole_run P (new P) os whole_nil
