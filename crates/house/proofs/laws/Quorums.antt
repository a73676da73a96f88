-- Laws of marks, and that two quorums of one district meet: for any size and its smallest majority.
use Prim.Native.Nat.{ℕ, zero, suc, ◌+◌, ◌*◌, ◌≤◌, ◌<◌}
use mathlib.Core.Bool.{Bool, true, false, not, ◌||◌}
use mathlib.Core.Logic.{◌≢◌, ⊎_elim}
use mathlib.Core.Path.{◌≡◌, sym, ◌∙◌}
use native.Mathlib.Omega.{arith}
use lib.Count.{ones}
use lib.Dec.{leb, ltb}
use borrow.Author.Tests.{leb-true, lt-ltb, ltb-true, ltb-false}
use Rattle.laws.proofs.laws.Choice.{pick_true, pick_both, pick_when, look, or_other, not_of}
use Rattle.laws.proofs.laws.Fold.{all_says}
use Rattle.laws.specs.Digits.{part, with_digit}
use Rattle.laws.proofs.laws.Digits.{part_digit, part_low, digit_zero, digit_same, digit_other, flags, flags_length, flags_at, flags_ones}
use Rattle.laws.specs.Majority.{majority}
use Rattle.laws.proofs.laws.Majority.{Shared, majorities_meet}
use Rattle.house.specs.Pairs.{district, box_no}
use Rattle.house.specs.declared.District.{District}
use Rattle.house.specs.declared.BoxNo.{BoxNo}
use Rattle.house.specs.Plan.{size_of, quorum_of, home_of, names}
use Rattle.house.proofs.laws.Says.{home_is}
use Rattle.house.specs.declared.Plan.{Plan}
use Rattle.house.specs.Marks.{no_marks, most_marks, has_mark, marked, marks_of, marks_in, quorum_in, quorum_below, quorum_each}

pub no_mark : (p : BoxNo) → has_mark no_marks p ≡ false
unfolding has_mark
no_mark p = digit_zero p.0

pub mark_same : (m : ℕ) (p : BoxNo) → p.0 < most_marks → has_mark (marked m p) p ≡ true
unfolding has_mark marked
mark_same m p h = rw (pick_true (with_digit m p.0) m (lt-ltb p.0 most_marks h)) (digit_same m p.0)

pub mark_other : (m : ℕ) (p q : BoxNo) → p.0 < most_marks → q.0 ≢ p.0 → has_mark (marked m p) q ≡ has_mark m q
unfolding has_mark marked
mark_other m p q h n = rw (pick_true (with_digit m p.0) m (lt-ltb p.0 most_marks h)) (digit_other m p.0 q.0 n)

marks_beyond : (t : BoxNo → Bool) (n p : ℕ) → n ≤ p → n ≤ most_marks → has_mark (marks_of t n) (box_no p) ≡ false
unfolding marks_of
marks_beyond t zero p h m = no_mark (box_no p)
marks_beyond t (suc n) p h m =
    pick_both
    (λ (k : ℕ). has_mark k (box_no p) ≡ false)
    (t (box_no n))
    (mark_other (marks_of t n) (box_no n) (box_no p) (omega arith) (λ e. absurd (omega (arith, e))) ∙ marks_beyond t n p (omega arith) (omega arith))
    (marks_beyond t n p (omega arith) (omega arith))

marks_next : (t : BoxNo → Bool) (n p : ℕ) → p < suc n → suc n ≤ most_marks → (p < n → has_mark (marks_of t n) (box_no p) ≡ t (box_no p))
    → has_mark (marks_of t (suc n)) (box_no p) ≡ t (box_no p)
unfolding marks_of
marks_next t n p h m rest = ⊎_elim other same (look (ltb p n))
  where
    other : ltb p n ≡ true → has_mark (marks_of t (suc n)) (box_no p) ≡ t (box_no p)
    other l =
        let low = ltb-true p n l in
        pick_both
        (λ (k : ℕ). has_mark k (box_no p) ≡ t (box_no p))
        (t (box_no n))
        (mark_other (marks_of t n) (box_no n) (box_no p) (omega arith) (λ e. absurd (omega (arith, e, low))) ∙ rest low)
        (rest low)

    same : ltb p n ≡ false → has_mark (marks_of t (suc n)) (box_no p) ≡ t (box_no p)
    same l =
        let high = ltb-false p n l in let e : p ≡ n = omega (arith, high, h) in
        rw e
        (pick_when
        (λ (k : ℕ). has_mark k (box_no n) ≡ t (box_no n))
        (t (box_no n))
        (λ o. mark_same (marks_of t n) (box_no n) (omega arith) ∙ sym o)
        (λ o. marks_beyond t n n (omega arith) (omega arith) ∙ sym o))

-- a box is in it if it passes
pub marks_pass : (t : BoxNo → Bool) (n p : ℕ) → p < n → n ≤ most_marks → has_mark (marks_of t n) (box_no p) ≡ t (box_no p)
marks_pass t zero p h m = absurd (omega arith)
marks_pass t (suc n) p h m = marks_next t n p h m (λ l. marks_pass t n p l (omega arith))

-- a box of the district that is in both
pub record Common (P : Plan) (d : District) (a b : ℕ) : Type 0 where
  pub box : BoxNo
  pub home : home_of P box ≡ d
  pub one : has_mark a box ≡ true
  pub two : has_mark b box ≡ true

-- two quorums of one district meet
pub quorums_meet : (P : Plan) (d : District) (a b : ℕ) → quorum_in P a d ≡ true → quorum_in P b d ≡ true → Common P d a b
unfolding quorum_in quorum_of marks_in has_mark
quorums_meet P d a b ha hb =
    let S =
    majorities_meet
    (size_of P)
    (flags (size_of P) (cut a))
    (flags (size_of P) (cut b))
    (flags_length (size_of P) (cut a))
    (flags_length (size_of P) (cut b))
    (enough a ha)
    (enough b hb) in
    let l = low S in
    record {
      box = box_no (d.0 * size_of P + S.place);
      home = home_is P d.0 S.place l;
      one = sym (part_digit a (d.0 * size_of P) (size_of P) S.place l) ∙ sym (flags_at (size_of P) (cut a) S.place l) ∙ S.one;
      two = sym (part_digit b (d.0 * size_of P) (size_of P) S.place l) ∙ sym (flags_at (size_of P) (cut b) S.place l) ∙ S.two;
    }
  where
    cut : ℕ → ℕ
    cut m = part m (d.0 * size_of P) (size_of P)

    enough : (m : ℕ) → leb (majority (size_of P)) (ones (cut m)) ≡ true
        → majority (size_of P) ≤ Rattle.laws.proofs.laws.Majority.count (flags (size_of P) (cut m))
    enough m h =
        let e = flags_ones (size_of P) (cut m) (part_low m (d.0 * size_of P) (size_of P)) in
        let k = leb-true (majority (size_of P)) (ones (cut m)) h in
        omega arith

    low : (S : Shared (flags (size_of P) (cut a)) (flags (size_of P) (cut b))) → S.place < size_of P
    low S = let e = flags_length (size_of P) (cut a) in let i = S.inside in omega arith

-- a quorum in each named district
pub quorum_each_says : (P : Plan) (j m : ℕ) → quorum_each P j m ≡ true → (d : ℕ) → d < P.districts → names P j (district d) ≡ true
    → quorum_in P m (district d) ≡ true
unfolding quorum_each quorum_below
quorum_each_says P j m h d l n =
    or_other
    (not (names P j (district d)))
    (quorum_in P m (district d))
    (all_says (λ e. not (names P j (district e)) || quorum_in P m (district e)) P.districts h d l)
    (not_of n)
