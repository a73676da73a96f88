-- Different boxes of one district, as many as a quorum has, are a quorum: proved once for any number of them.
-- The only places that know a size: 'pair', two boxes are enough today, and 'another', no district has one box only.
use Prim.Native.Nat.{ℕ, zero, suc, ◌+◌, ◌-◌, ◌*◌, ◌≤◌, ◌<◌}
use mathlib.Core.Bool.{Bool, true, false}
use mathlib.Core.List.{List, [], ◌∷◌}
use mathlib.Core.Logic.{◌⊎◌, inl, inr, ◌≢◌}
use mathlib.Core.Path.{◌≡◌, sym, ap, ◌∙◌}
use native.Mathlib.Decide.{ℕ_discrete}
use native.Mathlib.Omega.{arith}
use lib.Count.{ones}
use lib.ListN.{length, get_or, set, length-set}
use lib.Seq.{ext_get_or, get_or-set_same, get_or-set_other}
use borrow.Author.Tests.{le-leb}
use Rattle.laws.proofs.laws.Choice.{look, never}
use Rattle.laws.specs.Place.{In}
use Rattle.laws.proofs.laws.Place.{in_nil, in_head, in_tail}
use Rattle.laws.specs.Digits.{part}
use Rattle.laws.proofs.laws.Digits.{part_low, part_digit, flags, flags_length, flags_at, flags_ones}
use Rattle.laws.specs.Majority.{majority}
use Rattle.laws.proofs.laws.Majority.{count}
use Rattle.house.specs.Pairs.{box_no}
use Rattle.house.specs.declared.District.{District}
use Rattle.house.specs.declared.BoxNo.{BoxNo}
use Rattle.house.specs.Plan.{size_of, quorum_of, boxes_of, home_of, plan_sound}
use Rattle.house.proofs.laws.Says.{home_from, home_to, home_low, home_box, home_is, boxes_most}
use Rattle.house.specs.declared.Plan.{Plan}
use Rattle.house.specs.Marks.{no_marks, most_marks, has_mark, marked, marks_in, quorum_in}
use Rattle.house.proofs.laws.Quorums.{no_mark, mark_same, mark_other}
use Rattle.in_order.proofs.laws.Laws.{same_box, box_ne}
use Rattle.in_order.proofs.laws.Quorate.{Quorate}

-- one flag more
count_set : (l : List Bool) (r : ℕ) → r < length l → get_or l r false ≡ false → count (set l r true) ≡ suc (count l)
unfolding count
count_set [] r h e = absurd (omega arith)
count_set (x ∷ l) zero h e = let q : x ≡ false = e in rw q (omega arith)
count_set (x ∷ l) (suc r) h e = let i = count_set l r (omega arith) e in omega arith

-- a new mark of a district counts one more there
module _ (P : Plan) (d : District) (m : ℕ) (p : BoxNo) (low : p.0 < most_marks) (here : home_of P p ≡ d) (fresh : has_mark m p ≡ false) where
  base : ℕ
  base = d.0 * size_of P

  place : ℕ
  place = p.0 - d.0 * size_of P

  place_low : place < size_of P
  unfolding place
  place_low = let e : (home_of P p).0 ≡ d.0 = ap (λ (h : District). h.0) here in let a = rw e at (home_from P p) in let b = rw e at (home_to P p) in omega arith

  place_is : base + place ≡ p.0
  unfolding base place
  place_is = let e : (home_of P p).0 ≡ d.0 = ap (λ (h : District). h.0) here in let a = rw e at (home_from P p) in omega arith

  cut_flags : ℕ → List Bool
  cut_flags n = flags (size_of P) (part n base (size_of P))

  flag_is : (n i : ℕ) → i < size_of P → get_or (cut_flags n) i false ≡ has_mark n (box_no (base + i))
  unfolding cut_flags has_mark
  flag_is n i h = flags_at (size_of P) (part n base (size_of P)) i h ∙ part_digit n base (size_of P) i h

  flags_long : (n : ℕ) → length (cut_flags n) ≡ size_of P
  unfolding cut_flags
  flags_long n = flags_length (size_of P) (part n base (size_of P))

  flags_set : cut_flags (marked m p) ≡ set (cut_flags m) place true
  flags_set =
      ext_get_or false (cut_flags (marked m p)) (set (cut_flags m) place true) (flags_long (marked m p)
      ∙ sym (length-set (cut_flags m) place true ∙ flags_long m))
      (λ i h. at i (rw (flags_long (marked m p)) at h) (ℕ_discrete i place))
    where
      at : (i : ℕ) → i < size_of P → Dec (i ≡ place) → get_or (cut_flags (marked m p)) i false ≡ get_or (set (cut_flags m) place true) i false
      at i h (yes e) =
          let q : base + i ≡ p.0 = ap (λ (k : ℕ). base + k) e ∙ place_is in
          flag_is (marked m p) i h ∙ ap (λ (k : ℕ). has_mark (marked m p) (box_no k)) q ∙ mark_same m p low
          ∙ rw e (sym (get_or-set_same (cut_flags m) place true false (rw (flags_long m) place_low)))
      at i h (no e) =
          let z = place_is in
          flag_is (marked m p) i h
          ∙ mark_other m p (box_no (base + i)) low (omega arith)
          ∙ sym (flag_is m i h)
          ∙ sym (get_or-set_other (cut_flags m) place i true false e)

  ones_is : (n : ℕ) → count (cut_flags n) ≡ ones (marks_in P n d)
  unfolding cut_flags marks_in base
  ones_is n = flags_ones (size_of P) (part n base (size_of P)) (part_low n base (size_of P))

  pub one_more : ones (marks_in P (marked m p) d) ≡ suc (ones (marks_in P m d))
  one_more =
      sym (ones_is (marked m p)) ∙ ap count flags_set
      ∙ count_set (cut_flags m) place (rw (flags_long m) place_low) (flag_is m place place_low ∙ ap (λ (k : ℕ). has_mark m (box_no k)) place_is ∙ fresh)
      ∙ ap suc (ones_is m)

-- the marks of some boxes
marks_of : List BoxNo → ℕ
marks_of [] = no_marks
marks_of (p ∷ l) = marked (marks_of l) p

-- each box once, each of district d
pub data Different (P : Plan) (d : District) : List BoxNo → Type 0 where
  no_more : Different P d []
  one_other : {p : BoxNo} {l : List BoxNo} → p.0 < boxes_of P → home_of P p ≡ d → (In p l → ⊥) → Different P d l → Different P d (p ∷ l)

marks_in_lem : (P : Plan) (d : District) (l : List BoxNo) → boxes_of P ≤ most_marks → Different P d l → (q : BoxNo) → has_mark (marks_of l) q ≡ true → In q l
unfolding marks_of
marks_in_lem P d [] few D q h = never h (no_mark q)
marks_in_lem P d (p ∷ l) few (one_other b e n D) q h = go (same_box q p) (λ k. marks_in_lem P d l few D q k)
  where
    go : Dec (q ≡ p) → (has_mark (marks_of l) q ≡ true → In q l) → In q (p ∷ l)
    go (yes i) f = record { place = 0; there = ap mathlib.Core.Option.some (sym i) }
    go (no i) f = in_tail (f (sym (mark_other (marks_of l) p q (omega arith) (box_ne i)) ∙ h))

counts : (P : Plan) (d : District) (l : List BoxNo) → boxes_of P ≤ most_marks → Different P d l
    → ones (marks_in P (marks_of l) d) ≡ ones (marks_in P no_marks d) + length l
unfolding marks_of
counts P d [] few D = omega arith
counts P d (p ∷ l) few (one_other b e n D) =
    let i = counts P d l few D in
    let s = one_more P d (marks_of l) p (omega arith) e (go (look (has_mark (marks_of l) p))) in
    omega arith
  where
    go : (has_mark (marks_of l) p ≡ true) ⊎ (has_mark (marks_of l) p ≡ false) → has_mark (marks_of l) p ≡ false
    go (inl t) = absurd (n (marks_in_lem P d l few D p t))
    go (inr t) = t

-- different boxes of a district, as many as a quorum has
pub counted : {P : Plan} {d : District} (l : List BoxNo) (Q : BoxNo → Type 0) → plan_sound P ≡ true → Different P d l → quorum_of P ≤ length l
    → ((p : BoxNo) → In p l → Q p) → Quorate P d Q
unfolding quorum_in
counted {P} {d} l Q s D h f =
    let few : boxes_of P ≤ most_marks = omega (arith, boxes_most P s) in
    record {
      marks = marks_of l;
      enough = le-leb (quorum_of P) (ones (marks_in P (marks_of l) d)) (omega (arith, counts P d l few D));
      each = λ p _ t. f p (marks_in_lem P d l few D p t);
    }

-- today two boxes are a quorum
two_enough : (P : Plan) → quorum_of P ≤ 2
unfolding quorum_of size_of majority
two_enough P = omega arith

pub pair : {P : Plan} {d : District} {Q : BoxNo → Type 0} → plan_sound P ≡ true → (p q : BoxNo) → p.0 < boxes_of P → q.0 < boxes_of P → home_of P p ≡ d
    → home_of P q ≡ d → p ≢ q → Q p → Q q
    → Quorate P d Q
pair {P} {d} {Q} s p q lp lq hp hq n a b =
    counted (p ∷ q ∷ []) Q s (one_other lp hp first (one_other lq hq (λ i. in_nil i) no_more)) (two_enough P) (λ r i. which r (in_head i))
  where
    first : In p (q ∷ []) → ⊥
    first i = n (Rattle.laws.proofs.laws.Place.in_one i)

    which : (r : BoxNo) → (r ≡ p) ⊎ In r (q ∷ []) → Q r
    which r (inl e) = rw e a
    which r (inr i) = rw (Rattle.laws.proofs.laws.Place.in_one i) b

-- today no district has one box only
size_two : (P : Plan) → 2 ≤ size_of P
unfolding size_of
size_two P = omega arith

pub record Another (P : Plan) (p : BoxNo) : Type 0 where
  pub box : BoxNo
  pub known : box.0 < boxes_of P
  pub home : home_of P box ≡ home_of P p
  pub other : box.0 ≢ p.0

pub another : (P : Plan) (p : BoxNo) → p.0 < boxes_of P → Another P p
another P p h = go (ℕ_discrete p.0 ((home_of P p).0 * size_of P + 0))
  where
    two : 2 ≤ size_of P
    two = size_two P

    low : (home_of P p).0 < P.districts
    low = home_low P p h

    go : Dec (p.0 ≡ (home_of P p).0 * size_of P + 0) → Another P p
    go (yes e) =
        record {
          box = box_no ((home_of P p).0 * size_of P + 1);
          known = home_box P (home_of P p).0 1 low (omega (arith, two));
          home = home_is P (home_of P p).0 1 (omega (arith, two));
          other = omega arith;
        }
    go (no n) =
        record {
          box = box_no ((home_of P p).0 * size_of P + 0);
          known = home_box P (home_of P p).0 0 low (omega (arith, two));
          home = home_is P (home_of P p).0 0 (omega (arith, two));
          other = λ e. n (sym e);
        }
