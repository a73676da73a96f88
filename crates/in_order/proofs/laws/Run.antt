-- The STEP invariants hold in every world that orders make of fresh boxes and an empty post.
-- Each step may use the STATE lemmas, which follow from the invariants inside the world before it (Core..).
use Prim.Native.Nat.{ℕ, ◌<◌}
use mathlib.Core.Bool.{true, false}
use mathlib.Core.List.{List, [], ◌∷◌}
use mathlib.Core.Path.{◌≡◌, refl, ap, ◌∙◌}
use native.Mathlib.Omega.{arith}
use lib.ListN.{replicate, length-replicate}
use Rattle.laws.proofs.laws.Choice.{never}
use Rattle.laws.proofs.laws.Place.{at_nil, in_nil}
use Rattle.house.specs.Limits.{most_jobs}
use Rattle.house.specs.Pairs.{no_stamp, no_ballot, no_row, is_no_ballot}
use Rattle.house.proofs.laws.Orders.{ballot_order}
use Rattle.house.specs.declared.Stamp.{Stamp}
use Rattle.house.specs.declared.Ballot.{Ballot}
use Rattle.house.specs.declared.BoxNo.{BoxNo}
use Rattle.house.specs.declared.District.{District}
use Rattle.house.specs.Plan.{boxes_of, home_of, plan_sound}
use Rattle.house.specs.declared.Plan.{Plan}
use Rattle.house.specs.Marks.{no_marks, has_mark}
use Rattle.house.proofs.laws.Quorums.{no_mark}
use Rattle.house.specs.declared.Order.{Order}
use Rattle.boxes.specs.Box.{is_leader, is_recovering, fresh, fresh_volatile, kept_at, kept_ballot, marks_at, sent_at, no_listed}
use Rattle.boxes.specs.declared.BoxState.{BoxState}
use Rattle.world.specs.World.{World, new, step, run}
use Rattle.world.proofs.laws.Fresh.{fresh_length, fresh_at}
use Rattle.in_order.proofs.laws.Compare.{le_refl}
use Rattle.in_order.proofs.laws.Laws.{one_value}
use Rattle.in_order.proofs.laws.Notions.{the, row_in, Lam, stated, asked}
use Rattle.in_order.proofs.laws.Inv.{BoxForm, Forms, Ballots, Volatiles, Held, Holds, Locals, Acks, Hands, Inv, State}
use Rattle.in_order.proofs.laws.Moves.{Move, next}
use Rattle.in_order.proofs.laws.View.{View, same, moved, view}
use Rattle.in_order.proofs.laws.CoreOrder.{state}
use Rattle.in_order.proofs.laws.StepForms.{forms_step}
use Rattle.in_order.proofs.laws.StepBallots.{ballots_step}
use Rattle.in_order.proofs.laws.StepVolatile.{volatiles_step}
use Rattle.in_order.proofs.laws.StepHolds.{holds_step}
use Rattle.in_order.proofs.laws.StepLocals.{locals_step}
use Rattle.in_order.proofs.laws.StepAcks.{acks_step}
use Rattle.in_order.proofs.laws.StepHands.{i6_sent_next, i6_del_next, i5a'}
use Rattle.in_order.proofs.laws.StepLists.{d1', rising', once'}

-- ---- one move, one order

pub hands_step : (P : Plan) (w : World) (p : BoxNo) → p.0 < boxes_of P → (m : Move P w p) → Inv P w → State P w → Hands P (next P w p m)
hands_step P w p known m I S =
    record {
      i6_sent = λ q l o {m = j} {s = s} {t = t} h. i6_sent_next P w p known m I S q l o j s t h;
      i6_del = i6_del_next P w p known m I S;
      i5a = i5a' P w p known m I S;
      d1 = d1' P w p known m I S;
      rising = rising' P w p known m I S;
      once = once' P w p known m I S;
    }

pub inv_move : (P : Plan) (w : World) (p : BoxNo) → p.0 < boxes_of P → (m : Move P w p) → Inv P w → State P w → Inv P (next P w p m)
inv_move P w p known m I S =
    record {
      forms = forms_step P w p known m I S;
      ballots = ballots_step P w p known m I;
      volatiles = volatiles_step P w p known m I;
      holds = holds_step P w p known m I S;
      locals = locals_step P w p known m I;
      acks = acks_step P w p known m I S;
      hands = hands_step P w p known m I S;
    }

pub inv_step : (P : Plan) (w : World) (o : Order) → Inv P w → State P w → Inv P (step P w o)
inv_step P w o I S = go (view P w o)
  where
    go : {w' : World} → View P w w' → Inv P w'
    go (same e) = rw e I
    go (moved p h m e) = rw e (inv_move P w p h m I S)

-- ---- fresh boxes

module _ (P : Plan) (plan : plan_sound P ≡ true) where
  box_is : (p : BoxNo) → p.0 < boxes_of P → the (new P) p ≡ fresh p
  unfolding new
  box_is p l = fresh_at (boxes_of P) p.0 l

  -- what holds of a fresh box holds of each
  each : (Q : BoxNo → BoxState → Type 0) → ((p : BoxNo) → Q p (fresh p)) → (p : BoxNo) → p.0 < boxes_of P → Q p (the (new P) p)
  each Q f p l = rw (box_is p l) (f p)

  fresh_form : (p : BoxNo) → BoxForm P p (fresh p)
  unfolding fresh fresh_volatile
  fresh_form p =
      record {
        own = refl;
        order = le_refl ballot_order;
        bhome = λ h. absurd (omega arith);
        chome = λ h. absurd (omega arith);
        table = length-replicate most_jobs no_row;
        sent = length-replicate most_jobs false;
        list = length-replicate most_jobs no_listed;
        count = omega arith;
        kept_ballots = length-replicate 256 no_ballot;
        kept_stamps = length-replicate 256 no_stamp;
        marks = length-replicate {A = ℕ} most_jobs 0;
      }

  no_lam : {b : Ballot} {m : ℕ} {s : Stamp} → Lam P (new P).post b m s → ⊥
  unfolding new
  no_lam (stated y h e l n q) = in_nil h.there
  no_lam (asked h) = in_nil h.there

  new_forms : Forms P (new P)
  unfolding new
  new_forms =
      record {
        plan = plan;
        size = fresh_length (boxes_of P);
        box = each (λ p x. BoxForm P p x) fresh_form;
        acc = λ h. absurd (in_nil h.there);
        ack = λ h. absurd (in_nil h.there);
        del = λ h. absurd (in_nil h.there);
        vote = λ h. absurd (in_nil h.there);
        news = λ h. absurd (in_nil h.there);
        nsa = λ h. absurd (in_nil h.there);
      }

  fresh_status : (p : BoxNo) → is_leader (fresh p).core.status ≡ false
  unfolding fresh
  fresh_status p = refl

  fresh_waits : (p : BoxNo) → is_recovering (fresh p).core.status ≡ false
  unfolding fresh
  fresh_waits p = refl

  new_ballots : Ballots P (new P)
  unfolding new
  new_ballots =
      record {
        b1 = λ h. absurd (in_nil h.there);
        i1c = λ h _ _. absurd (in_nil h.there);
        b2 = λ h. absurd (in_nil h.there);
        i1b = λ h _ _. absurd (in_nil h.there);
        b4_other = λ h. absurd (in_nil h.there);
        b4_news = λ h. absurd (in_nil h.there);
        b4_upto = λ h. absurd (in_nil h.there);
        b5 = λ _ h _. absurd (in_nil h.there);
        b6l = λ p l h. never (rw (box_is p l) at h) (fresh_status p);
        b6a = λ h. absurd (in_nil h.there);
        b6d = λ h. absurd (in_nil h.there);
        b7 = λ p l h. never (rw (box_is p l) at h) (fresh_waits p);
      }

  fresh_kept : (p : BoxNo) (m : ℕ) (d : District) → is_no_ballot (kept_ballot (fresh p) m d) ≡ true
  unfolding kept_ballot fresh fresh_volatile is_no_ballot
  fresh_kept p m d = rw (one_value 256 (kept_at m d) no_ballot) (ballot_order.eq_is no_ballot)

  fresh_marks : (p : BoxNo) (m : ℕ) (q : BoxNo) → has_mark (marks_at (fresh p) m) q ≡ false
  unfolding marks_at fresh fresh_volatile
  fresh_marks p m q = rw (one_value most_jobs m no_marks) (no_mark q)

  fresh_vote : (p : BoxNo) → (fresh p).volatile.vote.held ≡ false
  unfolding fresh fresh_volatile
  fresh_vote p = refl

  new_volatiles : Volatiles P (new P)
  unfolding new
  new_volatiles =
      record {
        v1 = λ p l m d ld n. never (fresh_kept p m d) (rw (box_is p l) at n);
        v2 = λ p l m q h. never (rw (box_is p l) at h) (fresh_marks p m q);
        v3_own = λ p l h. never (rw (box_is p l) at h) (fresh_vote p);
        v3 = λ p l h. never (rw (box_is p l) at h) (fresh_vote p);
        n1 = λ h. absurd (in_nil h.there);
      }

  fresh_held : (p : BoxNo) → Held P (new P).post (home_of P p) (fresh p).core.cballot (fresh p).core.clock (fresh p).core.table
  unfolding fresh new
  fresh_held p =
      record {
        b3 = λ h. absurd (omega arith);
        b9 = λ _ m _. phase m;
        l2 = λ m _ n. absurd (n (phase m));
        j3 = λ y h. absurd (in_nil h.there);
        j4 = λ y h. absurd (in_nil h.there);
        c1 = λ m _ n. absurd (n (phase m));
        i3 = λ m _ n. absurd (omega (arith, phase m));
      }
    where
      phase : (m : ℕ) → (row_in (replicate most_jobs no_row) m).phase ≡ 0
      phase m = ap (λ (r : Rattle.house.specs.declared.Row.Row). r.phase) (one_value most_jobs m no_row)

  new_holds : Holds P (new P)
  unfolding new
  new_holds =
      record {
        of_box = each (λ p x. Held P (new P).post (home_of P p) x.core.cballot x.core.clock x.core.table) fresh_held;
        of_vote = λ h. absurd (in_nil h.there);
      }

  new_locals : Locals P (new P)
  unfolding new
  new_locals =
      record {
        i1a = λ h _. absurd (in_nil h.there);
        l0 = λ h _ _ _. absurd (in_nil h.there);
        l1 = λ p l o L. absurd (no_lam L);
        n2 = λ h _ _ _. absurd (in_nil h.there);
        n3 = λ h _ _ _ _ _ _. absurd (in_nil h.there);
        g0 = λ h _. absurd (in_nil h.there);
      }

  new_acks : Acks P (new P)
  unfolding new
  new_acks =
      record {
        a0 = λ h _ _. absurd (in_nil h.there);
        a1b = λ h. absurd (in_nil h.there);
        a1v = λ h _ _. absurd (in_nil h.there);
        i3d = λ h. absurd (in_nil h.there);
      }

  fresh_sent : (p : BoxNo) (m : ℕ) → sent_at (fresh p) m ≡ false
  unfolding sent_at fresh
  fresh_sent p m = one_value most_jobs m false

  fresh_count : (p : BoxNo) → (fresh p).core.count ≡ 0
  unfolding fresh
  fresh_count p = refl

  new_hands : Hands P (new P)
  unfolding new
  new_hands =
      record {
        i6_sent = λ p l o h. absurd (in_nil h.there);
        i6_del = λ p l o r m lm h. never (rw (box_is p l) at h) (fresh_sent p m);
        i5a = λ {i} h _ _ _. absurd (at_nil i h.there);
        d1 = λ p l i h. absurd (none p l i h);
        rising = λ p l k i _ h. absurd (none p l i h);
        once = λ p l k i _ h. absurd (none p l i h);
      }
    where
      none : (p : BoxNo) → p.0 < boxes_of P → (i : ℕ) → i < (the (new P) p).core.count → ⊥
      none p l i h = let e : (the (new P) p).core.count ≡ 0 = ap (λ (x : BoxState). x.core.count) (box_is p l) ∙ fresh_count p in omega arith

  pub inv_new : Inv P (new P)
  inv_new =
      record { forms = new_forms; ballots = new_ballots; volatiles = new_volatiles; holds = new_holds; locals = new_locals; acks = new_acks; hands = new_hands }

-- ---- any orders

inv_from : (P : Plan) (w : World) (os : List Order) → Inv P w → Inv P (run P w os)
unfolding run
inv_from P w [] I = I
inv_from P w (o ∷ os) I = inv_from P (step P w o) os (inv_step P w o I (state I))

pub inv_run : (P : Plan) → plan_sound P ≡ true → (os : List Order) → Inv P (run P (new P) os)
inv_run P plan os = inv_from P (new P) os (inv_new P plan)
