-- Laws of what specs/Tray.antt defines.
use Prim.Native.Nat.{ℕ, zero, suc, ◌+◌, ◌-◌, ◌<◌, ◌≤◌}
use mathlib.Core.List.{List, [], ◌++◌, append_assoc, append-nil}
use mathlib.Core.Logic.{◌⊎◌, inl, inr}
use mathlib.Core.Path.{◌≡◌, refl, sym, ◌∙◌}
use native.Mathlib.Nat.{zero-add, eq-or-lt_of_le}
use native.Mathlib.Omega.{arith}
use lib.ListN.{length, take, drop, length-append, length-drop, drop_of_length-le}
use lib.Seq.{take_all, take-length, sets, sets-eq, take-append_seam, drop-append_seam, drop-drop, take_at}
use borrow.Rule.Slice.PartMut.{mid_of, put_mid}
use Rattle.laws.proofs.laws.Fold.{upto_step}
use Rattle.laws.specs.Tray.{onto, all_for}

pub onto_nil : (t : List ℕ) → onto [] t ≡ t
unfolding onto
onto_nil t = refl

pub onto_length : (bs t : List ℕ) → length bs ≤ length t → length (onto bs t) ≡ length t
unfolding onto
onto_length bs t h = rw (length-append, length-drop) (omega arith)

-- single stores from the front up
pub onto_sets : (bs t : List ℕ) → length bs ≤ length t → sets t 0 bs ≡ onto bs t
unfolding onto
onto_sets bs t h = sets-eq bs t 0 (rw zero-add h) ∙ rw zero-add

-- what was written is read at the front
pub onto_front : (bs t : List ℕ) (n : ℕ) → n ≡ length bs → take n (onto bs t) ≡ bs
unfolding onto
onto_front bs t n e = take_at bs (drop (length bs) t) n (sym e)

-- a copy of a whole list
pub onto_copy : (bs t : List ℕ) → take (length bs) bs ++ drop (length bs) t ≡ onto bs t
unfolding onto
onto_copy bs t = rw take-length

pub onto_onto : (x y t : List ℕ) → take (length x) (onto x t) ++ onto y (drop (length x) (onto x t)) ≡ onto (x ++ y) t
unfolding onto
onto_onto x y t = rw (take-append_seam, drop-append_seam, length-append, drop-drop, append_assoc)

-- l is t with x over its front, and m, what came home of l[n..], is that part with y over its front
pub behind : (x y t l m : List ℕ) (n : ℕ) → n ≡ length x → l ≡ onto x t → m ≡ onto y (mid_of n (length l - n) l)
    → put_mid n (length l - n) l m ≡ onto (x ++ y) t
behind x y t l m n en el em =
    rw (
      em,
      take_all (length l - n) (drop n l) (rw length-drop (omega arith)),
      drop_of_length-le (drop n l) {i = length l - n} (rw length-drop (omega arith)),
      append-nil,
      en,
      el,
    )
    (onto_onto x y t)

-- one writer behind another: the count and the bytes
pub then : (x y t l m : List ℕ) (n r : ℕ) → n ≡ length x → l ≡ onto x t → r ≡ length y → m ≡ onto y (mid_of n (length l - n) l)
    → (n + r ≡ length (x ++ y)) × (put_mid n (length l - n) l m ≡ onto (x ++ y) t)
then x y t l m n r en el er em = (rw (length-append, en, er), behind x y t l m n en el em)

-- a part of a slice from n on is what is left of it
pub rest_of : (n : ℕ) (l : List ℕ) → take (length l - n) (drop n l) ≡ drop n l
rest_of n l = take_all (length l - n) (drop n l) (rw length-drop (omega arith))

pub for_step : (f : ℕ → List ℕ) (n : ℕ) → all_for f n ++ f n ≡ all_for f (n + 1)
unfolding all_for
for_step f n = upto_step (λ (bs : List ℕ) (i : ℕ). bs ++ f i) [] n

pub for_none : (f : ℕ → List ℕ) → all_for f 0 ≡ []
unfolding all_for
for_none f = refl

-- what is written before place i, and there, fits into the whole
pub for_room : (f : ℕ → List ℕ) (n i : ℕ) → i < n → length (all_for f i) + length (f i) ≤ length (all_for f n)
unfolding all_for
for_room f zero i h = absurd (omega arith)
for_room f (suc n) i h = rw length-append (go (eq-or-lt_of_le {n = i} {m = n} (omega arith)) (λ l. for_room f n i l))
  where
    go : (i ≡ n) ⊎ (i < n) → (i < n → length (all_for f i) + length (f i) ≤ length (all_for f n))
        → length (all_for f i) + length (f i) ≤ length (all_for f n) + length (f n)
    go (inl e) r = rw e (omega arith)
    go (inr l) r = let k = r l in omega arith
