-- Laws of what specs/Holders.antt defines.
use Prim.Native.Nat.{ℕ, ◌+◌, ◌*◌, ◌<◌}
use mathlib.Core.Bool.{Bool, true, false, not, ◌&&◌, ◌||◌}
use mathlib.Core.Logic.{◌⊎◌, inl, inr, ◌≢◌}
use mathlib.Core.Path.{◌≡◌, refl, ap, ◌∙◌}
use native.Mathlib.Nat.{eq-or-lt_of_le}
use native.Mathlib.Omega.{arith}
use Rattle.laws.specs.Choice.{pick}
use Rattle.laws.specs.Fold.{all_below, some_below}
use Rattle.laws.proofs.laws.Fold.{upto_same}
use Rattle.house.specs.Pairs.{district}
use Rattle.house.specs.Plan.{size_of, names}
use Rattle.house.specs.declared.Plan.{Plan}
use Rattle.house.specs.Pairs.{box_no}
use Rattle.house.specs.declared.BoxNo.{BoxNo}
use Rattle.house.specs.Marks.{no_marks, most_marks, has_mark}
use Rattle.house.proofs.laws.Quorums.{no_mark, mark_same, mark_other}
use Rattle.boxes.specs.Box.{on_list}
use Rattle.rehearsal.specs.Night.{box_in}
use Rattle.rehearsal.specs.declared.Night.{Night}
use Rattle.closing.specs.Endings.{listed_in, done_in, finished}
use Rattle.closing.specs.Holders.{Holders, NoneFrom, with_holder, marked_in, held_in}

-- ---- what with_holder changes: box p, and no other

holder_same : (m : ℕ) (p : BoxNo) (listed : Bool) → p.0 < most_marks → has_mark m p ≡ false → has_mark (with_holder m p listed) p ≡ listed
unfolding pick
holder_same m p true l e = mark_same m p l
holder_same m p false l e = e

holder_other : (m : ℕ) (p q : BoxNo) (listed : Bool) → p.0 < most_marks → q.0 ≢ p.0 → has_mark (with_holder m p listed) q ≡ has_mark m q
unfolding pick
holder_other m p q true l d = mark_other m p q l d
holder_other m p q false l d = refl

-- ---- no box, and one box more

pub none_yet : (n : Night) (j : ℕ) → Holders n j 0 no_marks × NoneFrom 0 no_marks
none_yet n j = (λ p h. absurd (omega arith), λ p h. no_mark (box_no p))

pub one_more : (n : Night) (j k m : ℕ) → k < most_marks → Holders n j k m → NoneFrom k m
    → Holders n j (k + 1) (with_holder m (box_no k) (on_list (box_in n k) j)) × NoneFrom (k + 1) (with_holder m (box_no k) (on_list (box_in n k) j))
one_more n j k m l h f =
    (λ p b. go p (eq-or-lt_of_le {n = p} {m = k} (omega arith)), λ p b. other p (λ e. omega arith) ∙ f p (omega arith))
  where
    other : (p : ℕ) → p ≢ k → has_mark (with_holder m (box_no k) (on_list (box_in n k) j)) (box_no p) ≡ has_mark m (box_no p)
    other p d = holder_other m (box_no k) (box_no p) (on_list (box_in n k) j) l d

    go : (p : ℕ) → (p ≡ k) ⊎ (p < k) → has_mark (with_holder m (box_no k) (on_list (box_in n k) j)) (box_no p) ≡ on_list (box_in n p) j
    go p (inl e) = rw e (holder_same m (box_no k) (on_list (box_in n k) j) l (f k (omega arith)))
    go p (inr b) = other p (λ e. omega arith) ∙ h p b

-- ---- the marks say what the lists say

marked_listed : (n : Night) (j low size m : ℕ) → Holders n j (low + size) m → marked_in m low size ≡ listed_in n j low size
unfolding marked_in listed_in some_below
marked_listed n j low size m h =
    upto_same (λ ok i. ok || has_mark m (box_no (low + i))) (λ ok i. ok || on_list (box_in n (low + i)) j) false size
    (λ ok i l. ap (λ b. ok || b) (h (low + i) (omega arith)))

held_done : (P : Plan) (n : Night) (j m d : ℕ) → Holders n j (d * size_of P + size_of P) m → held_in P j m d ≡ done_in P n j d
unfolding held_in done_in
held_done P n j m d h = ap (λ b. not (names P j (district d)) || b) (marked_listed n j (d * size_of P) (size_of P) m h)

pub held_finished : (P : Plan) (n : Night) (j m k : ℕ) → Holders n j (k * size_of P) m → all_below (held_in P j m) k ≡ finished P n j k
unfolding finished all_below size_of
held_finished P n j m k h =
    upto_same (λ ok d. ok && held_in P j m d) (λ ok d. ok && done_in P n j d) true k
    (λ ok d l. ap (λ b. ok && b) (held_done P n j m d (λ p b. h p (omega arith))))
