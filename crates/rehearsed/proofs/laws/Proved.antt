-- DEMAND 3 and the regulator's sentence hold of every rehearsal of a sound plan.
-- Each moment of a rehearsal is a moment of the world's run over the orders that 12 did not refuse.
use Rattle.std.specs.Prelude.{Option}
use Prim.Native.Nat.{ℕ, ◌<◌}
use mathlib.Core.Bool.{true}
use mathlib.Core.List.{List, ◌++◌}
use mathlib.Core.Path.{◌≡◌, sym, ap, subst, subst₂, ◌∙◌}
use lib.ListN.{length}
use borrow.Author.Tests.{ltb-true, lt-ltb}
use Rattle.laws.specs.Place.{At}
use Rattle.laws.proofs.laws.Place.{at_lt, at_get_d_lem, get_d_at_is_lem}
use Rattle.house.specs.declared.Stamp.{Stamp}
use Rattle.house.specs.declared.Ballot.{Ballot}
use Rattle.house.specs.declared.BoxNo.{BoxNo}
use Rattle.house.specs.Plan.{boxes_of, plan_sound}
use Rattle.house.specs.declared.Plan.{Plan}
use Rattle.house.specs.declared.Order.{Order}
use Rattle.records.specs.Rec.{Rec, unknown}
use Rattle.boxes.specs.Box.{row_at}
use Rattle.boxes.specs.Out.{does}
use Rattle.boxes.specs.declared.BoxState.{BoxState}
use Rattle.world.specs.World as Worlds
use Rattle.world.specs.World.{World, box_at, new, run}
use Rattle.in_order.specs.Words as WorldWords
use Rattle.in_order.specs.Words.{Rises, Once, SameOrder, ListBegins, Delivered}
use Rattle.in_order.proofs.laws.Proved as Worldwide
use Rattle.world.proofs.laws.Reached.{Reached, given_turned}
use Rattle.stays_sound.proofs.laws.Sends.{every_does}
use Rattle.rehearsal.specs.Night as Nights
use Rattle.post.specs.Posting.{start_of}
use Rattle.rehearsed.proofs.laws.Same.{inside_same, box_same, whose_same}
use Rattle.rehearsed.proofs.laws.Turns.{done_exists}
use Rattle.rehearsed.specs.Runs.{Stage, rehearsed, beginning, answered}
use Rattle.rehearsed.proofs.laws.Runs.{is_full, kept, Beside, kept_then, step_answer, rehearsal_beside, rehearsal_reached, said_same}
use Rattle.rehearsed.specs.Words.{afterwards, box_on, Says, Shows, committed, written, FinalStamp, HandsOut, HandedBefore}
use Rattle.rehearsed.specs.Demand3.{Demand3, OneOrder}

-- ---- a moment of a rehearsal beside its world

module _ {P : Plan} {r : Stage} {w : World} (R : Reached P w) (S : Beside P r w) where
  -- what the bytes say stands in the world's post at that place, and back
  says_at : (k : ℕ) (m : Rec) → Says P r k m → At w.post k m
  says_at k m h =
      let e = sym (inside_same R S k) ∙ lt-ltb (start_of P r.post r.night.used k) r.night.used h.inside in
      let l = ltb-true k (length w.post) e in
      subst (λ (x : Rec). At w.post k x) (sym (said_same R S k l) ∙ h.says) (at_get_d_lem w.post k unknown l)

  at_says : (k : ℕ) (m : Rec) → At w.post k m → Says P r k m
  at_says k m a =
      let l = at_lt w.post k a in
      record {
        inside = ltb-true (start_of P r.post r.night.used k) r.night.used (inside_same R S k ∙ lt-ltb k (length w.post) l);
        says = said_same R S k l ∙ get_d_at_is_lem w.post k unknown a;
      }

  shows_world : (m : ℕ) (s : Stamp) → Shows P r m s → WorldWords.Shows P w m s
  shows_world m s (committed p l j h g) =
      let e = box_same R S p l in
      WorldWords.committed p l j (ap (λ (x : BoxState). (row_at x m).phase) (sym e) ∙ h) (ap (λ (x : BoxState). (row_at x m).global) (sym e) ∙ g)
  shows_world m s (written k from to y h g) = WorldWords.written from to y (record { place = k; there = says_at k _ h }) g

  shows_here : (m : ℕ) (s : Stamp) → WorldWords.Shows P w m s → Shows P r m s
  shows_here m s (WorldWords.committed p l j h g) =
      let e = box_same R S p l in
      committed p l j (ap (λ (x : BoxState). (row_at x m).phase) e ∙ h) (ap (λ (x : BoxState). (row_at x m).global) e ∙ g)
  shows_here m s (WorldWords.written from to y h g) = written h.place from to y (at_says h.place _ h.there) g

  hands_world : (i : ℕ) (p : BoxNo) (m : ℕ) (b : Ballot) (s : Stamp) → HandsOut P r i p m b s → WorldWords.HandsOut w.post i p m b s
  hands_world i p m b s h = record { to = h.to; local = h.local; there = says_at i _ h.there }

  handed_here : (i : ℕ) (p : BoxNo) (m : ℕ) (b : Ballot) (s : Stamp) → WorldWords.HandedBefore P w.post i p m b s → HandedBefore P r i p m b s
  handed_here i p m b s h =
      record
      { each = λ q l e. let g = h.each q l e in record { place = g.place; before = g.before; local = g.local; there = at_says g.place _ g.there } }

-- ---- DEMAND 3 holds of every rehearsal

module _ (P : Plan) (sound : plan_sound P ≡ true) (lent : List ℕ) where
  orders : List Order → List Order
  orders os = kept P (beginning lent) os

  later_orders : List Order → List Order → List Order
  later_orders os later = kept P (rehearsed P (beginning lent) os) later

  reached_at : (os : List Order) → Reached P (run P (new P) (orders os))
  unfolding orders
  reached_at os = rehearsal_reached P sound lent os

  beside_at : (os : List Order) → Beside P (afterwards P lent os) (run P (new P) (orders os))
  unfolding orders
  beside_at os = rehearsal_beside P sound lent os

  orders_then : (os later : List Order) → orders (os ++ later) ≡ orders os ++ later_orders os later
  unfolding orders later_orders
  orders_then os later = kept_then P (beginning lent) os later

  final_world : (os : List Order) (m : ℕ) (s : Stamp) → FinalStamp P lent os m s → WorldWords.FinalStamp P (orders os) m s
  final_world os m s f =
      record {
        first = orders f.first;
        rest = later_orders f.first f.rest;
        split = ap orders f.split ∙ orders_then f.first f.rest;
        shows = shows_world (reached_at f.first) (beside_at f.first) m s f.shows;
      }

  final_then : (os later : List Order) (m : ℕ) (s : Stamp) → FinalStamp P lent (os ++ later) m s
      → WorldWords.FinalStamp P (orders os ++ later_orders os later) m s
  final_then os later m s f = subst (λ (x : List Order). WorldWords.FinalStamp P x m s) (orders_then os later) (final_world (os ++ later) m s f)

  box_at_lem : (os : List Order) (p : ℕ) → p < boxes_of P → box_on (afterwards P lent os) p ≡ box_at (run P (new P) (orders os)) p
  box_at_lem os p l = box_same (reached_at os) (beside_at os) p l

  pub demand3 : Demand3 P lent
  demand3 =
      let D = Worldwide.demand3 P sound in
      record {
        one_stamp = λ os later m s t a c. D.one_stamp (orders os) (later_orders os later) m s t (final_world os m s a) (final_then os later m t c);
        own_stamp = λ os later m k s a c. D.own_stamp (orders os) (later_orders os later) m k s (final_world os m s a) (final_then os later k s c);
        list_rises = λ os p l. subst Rises (sym (box_at_lem os p l)) (D.list_rises (orders os) p l);
        list_once = λ os p l. subst Once (sym (box_at_lem os p l)) (D.list_once (orders os) p l);
        list_final = λ os p i l h.
            let e = box_at_lem os p l in
            rw e (shows_here (reached_at os) (beside_at os) _ _ (D.list_final (orders os) p i l (rw (← e) h)));
        list_grows = λ os later p l.
            subst₂ ListBegins (sym (box_at_lem os p l))
            (ap (λ (x : List Order). box_at (run P (new P) x) p) (sym (orders_then os later)) ∙ sym (box_at_lem (os ++ later) p l))
            (D.list_grows (orders os) (later_orders os later) p l);
        list_delivers = delivers;
        handed_before = λ os later i m k p b s t h n f o.
            handed_here (reached_at os) (beside_at os) i p k b t
            (D.handed_before (orders os) (later_orders os later) i m k p b s t
            (hands_world (reached_at os) (beside_at os) i p m b s h) n (final_then os later k t f) o);
      }
    where
      delivers : (os : List Order) (o : Order) (y : BoxState) (l : List Rec) (d : Option ℕ) → answered P (afterwards P lent os) o ≡ does y l d
          → Delivered (box_on (afterwards P lent os) (Nights.whose P (afterwards P lent os).night (afterwards P lent os).post o)) y d
      delivers os o y l d e =
          let R = reached_at os in let S = beside_at os in let w = run P (new P) (orders os) in
          let g : Worlds.given P w o ≡ does y l d = sym (step_answer R S o (ap is_full e)) ∙ e in
          let h = whose_same R S o (done_exists P w o g) in
          let b = (every_does (given_turned R o) g).low in
          subst (λ (x : BoxState). Delivered x y d) (sym (ap (box_on (afterwards P lent os)) h ∙ box_at_lem os (Worlds.whose w o) b))
          ((Worldwide.demand3 P sound).list_delivers (orders os) o y l d g)

  pub one_order : OneOrder P lent
  one_order first rest second more p q run lp lq =
      subst₂ SameOrder (sym (box_at_lem first p lp)) (sym (box_at_lem second q lq))
      (Worldwide.one_order P sound (orders first) (later_orders first rest) (orders second) (later_orders second more) p q
      (sym (orders_then first rest) ∙ ap orders run ∙ orders_then second more) lp lq)
