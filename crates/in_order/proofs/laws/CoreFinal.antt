-- A final stamp is the stamp of a certificate, and certificates stay: so all final stamps of a run meet in its last world.
-- From there demand 3 is read off (docs/PROOF.md, 'Demand 3 read off').
use Prim.Native.Nat.{ℕ, ◌<◌}
use mathlib.Core.Bool.{true}
use mathlib.Core.List.{List, [], ◌++◌, append_assoc, append-nil}
use mathlib.Core.Path.{◌≡◌, sym, ap, subst, ◌∙◌}
use native.Mathlib.Omega.{arith}
use lib.ListN.{length}
use Rattle.laws.specs.Place.{At}
use Rattle.laws.proofs.laws.Place.{Begins, at_lt, begins_at, begins_back}
use Rattle.house.specs.Pairs.{box_no, stamp_lt}
use Rattle.house.specs.declared.Stamp.{Stamp}
use Rattle.house.specs.declared.Ballot.{Ballot}
use Rattle.house.specs.declared.BoxNo.{BoxNo}
use Rattle.house.specs.declared.District.{District}
use Rattle.house.specs.Plan.{home_of, names}
use Rattle.house.specs.declared.Plan.{Plan}
use Rattle.house.specs.declared.Order.{Order}
use Rattle.records.specs.Rec.{Rec, deliver}
use Rattle.boxes.specs.Box.{row_at}
use Rattle.world.specs.World.{World, new}
use Rattle.in_order.specs.Words.{after, Shows, committed, written, FinalStamp, HandsOut, HandedBefore}
use Rattle.in_order.proofs.laws.Notions.{DelAt, Cert}
use Rattle.in_order.proofs.laws.Inv.{Inv}
use Rattle.in_order.proofs.laws.CoreOrder.{Earlier, del_of, other, d3s}
use Rattle.in_order.proofs.laws.Blocks.{Whole}
use Rattle.in_order.proofs.laws.CoreGrows.{then_grows}
use Rattle.in_order.proofs.laws.Grow.{cert_up}

-- a certificate of job m with stamp s
pub record Certified (P : Plan) (l : List Rec) (m : ℕ) (s : Stamp) : Type 0 where
  pub vector : District → Ballot
  pub cert : Cert P l m vector s

-- I3b, I3d: a final stamp that shows in a world has a certificate in it
pub shows_cert : {P : Plan} {w : World} {m : ℕ} {s : Stamp} → Inv P w → Shows P w m s → Certified P w.post m s
unfolding row_at
shows_cert {P} {w} {m} I (committed p l j h e) =
    let F = (I.holds.of_box (box_no p) l).i3 m j h in
    record { vector = F.vector; cert = subst (λ (v : Stamp). Cert P w.post m F.vector v) e F.cert }
shows_cert {P} {w} {m} I (written from to y h e) =
    let F = I.acks.i3d (record { from = from; to = to; there = h }) in
    record { vector = F.vector; cert = subst (λ (v : Stamp). Cert P w.post m F.vector v) e F.cert }

-- what shows now is a final stamp
pub final_now : {P : Plan} {os : List Order} {m : ℕ} {s : Stamp} → Shows P (after P os) m s → FinalStamp P os m s
final_now {os = os} S = record { first = os; rest = []; split = sym (append-nil os); shows = S }

-- a final stamp stays one, whatever orders follow
pub final_later : {P : Plan} {os : List Order} {m : ℕ} {s : Stamp} → FinalStamp P os m s → (later : List Order) → FinalStamp P (os ++ later) m s
final_later F later =
    record {
      first = F.first;
      rest = F.rest ++ later;
      split = ap (λ (l : List Order). l ++ later) F.split ∙ append_assoc F.first F.rest later;
      shows = F.shows;
    }

-- every final stamp of a run has a certificate in its last world
pub final_cert : {P : Plan} {os : List Order} {m : ℕ} {s : Stamp} → ((first : List Order) → Inv P (after P first)) → FinalStamp P os m s
    → Certified P (after P os).post m s
final_cert {P} {os} {m} {s} I F =
    let c = shows_cert (I F.first) F.shows in
    subst
    (λ (l : List Order). Certified P (after P l).post m s)
    (sym F.split)
    (record { vector = c.vector; cert = cert_up (then_grows P (new P) F.first F.rest) c.cert })

-- D3s, in a world whose post begins with l: what stands before a place of l stands in l, and the whole block of its job with it
pub handed_in : {P : Plan} {w : World} {l : List Rec} {i m k : ℕ} {p : BoxNo} {b : Ballot} {s t : Stamp} → Inv P w → Begins l w.post → Whole P l
    → HandsOut l i p m b s
    → names P k (home_of P p) ≡ true → Certified P w.post k t → stamp_lt t s ≡ true → HandedBefore P l i p k b t
handed_in {P} {w} {l} {i} {m} {k} {p} {b} {s} {t} I B W H n C o =
    record {
      each = λ q e h.
          let r = W.ordered E.before (record { there = back }) (record { there = H.there }) (other I (del_of D) C.cert (record { says = o })) q e h in
          record { place = r.place; before = r.before; local = E.local; there = r.there };
    }
  where
    D : DelAt w.post i m b H.local s
    D = record { from = p; to = H.to; there = begins_at B i H.there }

    by : p ≡ b.owner
    by = (I.forms.del (del_of D)).by

    E : Earlier w.post i k b t
    E = d3s I D (subst (λ (q : BoxNo). names P k (home_of P q) ≡ true) by n) C.cert (record { says = o })

    same : E.del.from ≡ p
    same = (I.forms.del (del_of E.del)).by ∙ sym by

    inside : E.place < length l
    inside = let a = at_lt l i H.there in let c = E.before in omega arith

    back : At l E.place (deliver p E.del.to k (record { ballot = b; local = E.local; global = t }))
    back = begins_back B E.place inside
        (subst (λ (q : BoxNo). At w.post E.place (deliver q E.del.to k (record { ballot = b; local = E.local; global = t }))) same E.del.there)
