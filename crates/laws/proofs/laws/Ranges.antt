-- What the methods of a range `0..n` and of an array's iterator answer, in the words of specs/Fold.antt. Each law takes what is asked or done
-- at a number, the range's end, the method's clause `ran`, the range as it was given, and what the closure says of one call.
use Rattle.std.specs.Prelude.{ℕ, zero, suc, ◌+◌, ◌≤◌, Bool, true, false, ◌&&◌, ◌||◌, Option, List, [], ◌∷◌, ◌++◌, ◌≡◌, refl, length, take, get_or, map, ◌<◌, drop, ltb}
use Rattle.std.proofs.Common.{ap, ◌∙◌, arith, add-one, Iter, sym, length-take, take-suc}
use Rattle.std.proofs.Math.Bool.{and-true, or-false, and_assoc}
use Rattle.std.specs.List.{fold, filter, range_with_len, list_all, list_any, FoldsTo, zip}
use Rattle.std.specs.Option.{MatchOption}
use Rattle.std.specs.Iterator.{YieldsThen, Drains}
use Rattle.std.specs.Iterator.Adapters.{map_source, map_callee, filter_source, filter_callee, filter_steps, zip_first, zip_second}
use Rattle.std.specs.Fn.{Called, CalledAt}
use Rattle.std.specs.Array.{IsFromFnResultFrom, IsFromFnResult}
use Rattle.std.specs.declared.ops.Range.{Range}
use Rattle.std.specs.declared.iter.Map.{Map}
use Rattle.std.specs.declared.iter.Filter.{Filter}
use Rattle.std.specs.declared.iter.Zip.{Zip}
use Rattle.std.specs.Slice.Iter.{iter_rest}
use Rattle.std.proofs.iter.Yields.{nat_range_steps, fronts}
use Rattle.std.proofs.lemmas.List.Folds.{fold-map, list_all-append, list_any-append, list_all_more}
use Rattle.std.proofs.lemmas.Iterator.{maps, zips, YieldsList-from_range, YieldsList-from_slice, YieldsList-from_map, YieldsList-from_zip}
use Rattle.std.proofs.Math.Seq.{take-length}
use lib.ListN.{get_or-eq_default}
use Rattle.std.proofs.lemmas.List.{take_all, drop_all, drop-append-le}
use mathlib.Core.Logic.{◌⊎◌, inl, inr}
use borrow.Author.Tests.{ltb-true, ltb-false}
use Rattle.laws.proofs.laws.Choice.{look}
use Rattle.laws.proofs.laws.Fold.{all_is, upto_same}
use Rattle.std.proofs.lemmas.Iterator.Search.{all_from_yields_List, any_from_yields_List}
use Rattle.std.proofs.lemmas.Iterator.Consumers.{YieldsList-from_filter, fold_from_yields_List}
use Rattle.std.proofs.lemmas.List.FromFn.{fill_by_all}
use mathlib.Core.List.{map}
use mathlib.Core.Logic.{⊎_elim}
use native.Mathlib.Nat.{eq-or-lt_of_le}
use denote.Param.Members.{Mut}
use denote.Ref.{Bor}
use mathlib.Core.Bool.{cond}
use Rattle.laws.specs.Choice.{pick}
use Rattle.laws.specs.Fold.{upto, all_below, some_below}

more_range : (a n : ℕ) → range_with_len a (suc n) ≡ range_with_len a n ++ ((a + n) ∷ [])
more_range a zero = ap (λ (x : ℕ). x ∷ []) (omega arith)
more_range a (suc n) =
    let e : a + 1 + n ≡ a + suc n = omega arith in
    ap (λ (l : List ℕ). a ∷ l) (more_range (a + 1) n) ∙ ap (λ (x : ℕ). (a ∷ range_with_len (a + 1) n) ++ (x ∷ [])) e

-- one number more
range_more : (n : ℕ) → range_with_len 0 (suc n) ≡ range_with_len 0 n ++ (n ∷ [])
range_more n = let e : 0 + n ≡ n = omega arith in more_range 0 n ∙ ap (λ (x : ℕ). range_with_len 0 n ++ (x ∷ [])) e

fold_more : {A S : Type 0} (f : S → A → S) (s : S) (l : List A) (a : A) → fold f s (l ++ (a ∷ [])) ≡ f (fold f s l) a
fold_more f s [] a = refl
fold_more f s (b ∷ l) a = fold_more f (f s b) l a

fold_range : {S : Type 0} (f : S → ℕ → S) (s : S) (n : ℕ) → fold f s (range_with_len 0 n) ≡ upto f s n
fold_range f s zero = refl
fold_range f s (suc n) = ap (fold f s) (range_more n) ∙ fold_more f s (range_with_len 0 n) n ∙ ap (λ x. f x n) (fold_range f s n)

fold_next : {A S : Type 0} (f : S → A → S) (w : S → S) (s : S) (a : A) (l : List A) (b : Bool) → ((x : S) → fold f x l ≡ w x)
    → fold f s (cond b (a ∷ l) l) ≡ w (pick b (f s a) s)
unfolding pick
fold_next f w s a l true h = h (f s a)
fold_next f w s a l false h = h s

-- what passes a test is taken by a fold, the rest is passed over
fold_filter : {A S : Type 0} (f : S → A → S) (t : A → Bool) (s : S) (l : List A) → fold f s (filter t l) ≡ fold (λ x a. pick (t a) (f x a) x) s l
fold_filter f t s [] = refl
fold_filter f t s (a ∷ l) = fold_next f (λ y. fold (λ x b. pick (t b) (f x b) x) y l) s a (filter t l) (t a) (λ x. fold_filter f t x l)

-- a fold over what passes a test, of the things that the numbers below n stand for
fold_passed : {A S : Type 0} (f : S → A → S) (t : A → Bool) (v : ℕ → A) (s : S) (n : ℕ)
    → fold f s (filter t (map v (range_with_len 0 n))) ≡ upto (λ x i. pick (t (v i)) (f x (v i)) x) s n
fold_passed f t v s n =
    fold_filter f t s (map v (range_with_len 0 n))
    ∙ fold-map (λ x a. pick (t a) (f x a) x) v s (range_with_len 0 n)
    ∙ fold_range (λ x i. pick (t (v i)) (f x (v i)) x) s n

all_range : (t : ℕ → Bool) (n : ℕ) → list_all t (range_with_len 0 n) ≡ all_below t n
unfolding all_below
all_range t zero = refl
all_range t (suc n) =
    ap (list_all t) (range_more n) ∙ list_all-append t (range_with_len 0 n) (n ∷ []) ∙ ap (λ b. list_all t (range_with_len 0 n) && b) (and-true (t n))
    ∙ ap (λ b. b && t n) (all_range t n)

some_range : (t : ℕ → Bool) (n : ℕ) → list_any t (range_with_len 0 n) ≡ some_below t n
unfolding some_below
some_range t zero = refl
some_range t (suc n) =
    ap (list_any t) (range_more n) ∙ list_any-append t (range_with_len 0 n) (n ∷ []) ∙ ap (λ b. list_any t (range_with_len 0 n) || b) (or-false (t n))
    ∙ ap (λ b. b || t n) (some_range t n)

-- a test of the first n elements of a list is one of their places
pub all_front : {A : Type 0} (t : A → Bool) (l : List A) (d : A) (n : ℕ) → n ≤ length l → list_all t (take n l) ≡ all_below (λ i. t (get_or l i d)) n
unfolding all_below
all_front t l d zero h = refl
all_front t l d (suc n) h = rw add-one at (list_all_more t l n d (omega arith)) ∙ ap (λ b. b && t (get_or l n d)) (all_front t l d n (omega arith))

-- a test of the elements from place n on is one of every place, of which those before n pass
module _ {A : Type 0} (t : A → Bool) (l : List A) (d : A) (n : ℕ) where
  behind_more : (m : ℕ) → m < length l → (ltb m n ≡ true) ⊎ (ltb m n ≡ false)
      → list_all t (drop n (take (suc m) l)) ≡ list_all t (drop n (take m l)) && (ltb m n || t (get_or l m d))
  behind_more m h (inl e) =
      let k = ltb-true m n e in
      rw (e, drop_all n (take (suc m) l) (rw length-take (omega arith)), drop_all n (take m l) (rw length-take (omega arith)))
  behind_more m h (inr e) =
      let k = ltb-false m n e in
      rw (e, take-suc l m d h, drop-append-le n (take m l) (get_or l m d ∷ []) (rw length-take (omega arith)), list_all-append, and-true)

  behind_place : (m : ℕ) → m ≤ length l → list_all t (drop n (take m l)) ≡ all_below (λ i. ltb i n || t (get_or l i d)) m
  unfolding all_below
  behind_place zero h = rw (drop_all n (take 0 l) (omega arith))
  behind_place (suc m) h = behind_more m (omega arith) (look (ltb m n)) ∙ ap (λ b. b && (ltb m n || t (get_or l m d))) (behind_place m (omega arith))

  pub all_behind : list_all t (drop n l) ≡ all_below (λ i. ltb i n || t (get_or l i d)) (length l)
  all_behind = ap (λ x. list_all t (drop n x)) (sym (take-length l)) ∙ behind_place (length l) (omega arith)

-- a test of the first n elements, however many there are, where what stands behind the last passes
module _ {A : Type 0} (t : A → Bool) (l : List A) (d : A) (passes : t d ≡ true) where
  take_more : (n : ℕ) → (ltb n (length l) ≡ true) ⊎ (ltb n (length l) ≡ false) → list_all t (take (suc n) l) ≡ list_all t (take n l) && t (get_or l n d)
  take_more n (inl e) = rw add-one at (list_all_more t l n d (ltb-true n (length l) e))
  take_more n (inr e) =
      let k = ltb-false n (length l) e in
      rw (take_all (suc n) l (omega arith), take_all n l k, get_or-eq_default l d {n = n} k, passes) (sym (and-true (list_all t l)))

  pub all_take : (n : ℕ) → list_all t (take n l) ≡ all_below (λ i. t (get_or l i d)) n
  unfolding all_below
  all_take zero = refl
  all_take (suc n) = take_more n (look (ltb n (length l))) ∙ ap (λ b. b && t (get_or l n d)) (all_take n)

all_first : (t : ℕ → Bool) (n : ℕ) → all_below t (suc n) ≡ t 0 && all_below (λ i. t (suc i)) n
unfolding all_below
all_first t zero = sym (and-true (t 0))
all_first t (suc n) = ap (λ b. b && t (suc n)) (all_first t n) ∙ and_assoc (t 0) (all_below (λ i. t (suc i)) n) (t (suc n))

-- the same of each element with its place
module _ {A : Type 0} (t : ℕ × A → Bool) (d : A) (passes : (i : ℕ) → t (i, d) ≡ true) where
  zip_from : (a n : ℕ) (l : List A) → list_all t (zip (range_with_len a n) l) ≡ all_below (λ i. t (a + i, get_or l i d)) n
  unfolding all_below
  zip_from a zero l = refl
  zip_from a (suc n) [] = sym (all_is (λ i. t (a + i, get_or {A = A} [] i d)) (suc n) (λ i h. passes (a + i)))
  zip_from a (suc n) (x ∷ l) =
      let first : a + 0 ≡ a = omega arith in
      let rest : all_below (λ i. t (a + 1 + i, get_or l i d)) n ≡ all_below (λ i. t (a + suc i, get_or l i d)) n =
      upto_same _ _ true n (λ b i h. let e : a + 1 + i ≡ a + suc i = omega arith in ap (λ j. b && t (j, get_or l i d)) e) in
      ap (λ b. t (a, x) && b) (zip_from (a + 1) n l ∙ rest)
      ∙ ap (λ j. t (j, x) && all_below (λ i. t (a + suc i, get_or l i d)) n) (sym first)
      ∙ sym (all_first (λ i. t (a + i, get_or (x ∷ l) i d)) n)

  all_zip : (n : ℕ) (l : List A) → list_all t (zip (range_with_len 0 n) l) ≡ all_below (λ i. t (i, get_or l i d)) n
  unfolding all_below
  all_zip n l = zip_from 0 n l ∙ upto_same _ _ true n (λ b i h. let e : 0 + i ≡ i = omega arith in ap (λ j. b && t (j, get_or l i d)) e)

module _ {F : Type 0} {g : Mut F (ℕ × Unit {0}) Bool} (t : ℕ → Bool) (n : ℕ) {s u : Range ℕ} {f : F} {r : Bool} where
  pub all_in_range : (xs : List ℕ) × (o : Option ℕ) × (j : F) × YieldsThen nat_range_steps s xs o u × FoldsTo (λ p x q. Called g p (x, tt) true q) f xs j
      × MatchOption o (r ≡ true) (λ x. (r ≡ false) × ((h : F) × Called g j (x, tt) false h))
      → s ≡ record { start = 0; end = n } → ((x : ℕ) (b : Bool) (q : F) → Called g f (x, tt) b q → (q ≡ f) × (b ≡ t x)) → r ≡ all_below t n
  all_in_range ran from says = all_from_yields_List t u f r ran (YieldsList-from_range 0 n n from (omega arith)) says ∙ all_range t n

  pub some_in_range : (xs : List ℕ) × (o : Option ℕ) × (j : F) × YieldsThen nat_range_steps s xs o u × FoldsTo (λ p x q. Called g p (x, tt) false q) f xs j
      × MatchOption o (r ≡ false) (λ x. (r ≡ true) × ((h : F) × Called g j (x, tt) true h))
      → s ≡ record { start = 0; end = n } → ((x : ℕ) (b : Bool) (q : F) → Called g f (x, tt) b q → (q ≡ f) × (b ≡ t x)) → r ≡ some_below t n
  some_in_range ran from says = any_from_yields_List t u f r ran (YieldsList-from_range 0 n n from (omega arith)) says ∙ some_range t n

module _ {F C : Type 0} {g : Mut F (C × (ℕ × Unit {0})) C} (h : C → ℕ → C) (n : ℕ) {s : Range ℕ} {f : F} {init r : C} where
  pub fold_in_range : (xs : List ℕ) × (q : F) × Drains nat_range_steps s xs
      × FoldsTo {P = F × C} (λ a x b. Called g a.0 (a.1, (x, tt)) b.1 b.0) (f, init) xs (q, r)
      → s ≡ record { start = 0; end = n } → ((a : C) (x : ℕ) (b : C) (q : F) → Called g f (a, (x, tt)) b q → (q ≡ f) × (b ≡ h a x)) → r ≡ upto h init n
  fold_in_range ran from says = fold_from_yields_List g h init r ran (YieldsList-from_range 0 n n from (omega arith)) says ∙ fold_range h init n

-- the same of `(0..n).map(v).filter(t).fold(init, h)`
module _ {A C F G H : Type 0} {gv : Mut G (ℕ × Unit {0}) A} {gt : Mut F (Bor A × Unit {0}) Bool} {gh : Mut H (C × (A × Unit {0})) C}
    (v : ℕ → A) (t : A → Bool) (h : C → A → C) (n : ℕ) {s : Filter (Map (Range ℕ) G) F} {fv : G} {ft : F} {fh : H} {init r : C} where
  pub fold_passed_in_range : (xs : List A) × (q : H) × Drains (filter_steps (maps nat_range_steps gv) gt) s xs
      × FoldsTo {P = H × C} (λ a x b. Called gh a.0 (a.1, (x, tt)) b.1 b.0) (fh, init) xs (q, r)
      → map_source (filter_source s) ≡ record { start = 0; end = n } → map_callee (filter_source s) ≡ fv → filter_callee s ≡ ft
      → ((x : ℕ) (y : A) (q : G) → Called gv fv (x, tt) y q → (q ≡ fv) × (y ≡ v x))
      → ((x : A) (b : Bool) (q : F) → CalledAt gt ft x b q → (q ≡ ft) × (b ≡ t x))
      → ((a : C) (x : A) (b : C) (q : H) → Called gh fh (a, (x, tt)) b q → (q ≡ fh) × (b ≡ h a x)) → r ≡ upto (λ x i. pick (t (v i)) (h x (v i)) x) init n
  fold_passed_in_range ran from at_v at_t says_v says_t says_h =
      fold_from_yields_List gh h init r ran
      (YieldsList-from_filter gt t (YieldsList-from_map gv v (YieldsList-from_range 0 n n from (omega arith)) at_v says_v) at_t says_t)
      says_h
      ∙ fold_passed h t v init n

module _ {A F : Type 0} {g : Mut F (Bor A × Unit {0}) Bool} (t : A → Bool) (l : List A) (d : A) (n : ℕ) {s u : Iter A} {f : F} {r : Bool} where
  pub all_in_front : (xs : List (Bor A)) × (o : Option (Bor A)) × (j : F) × YieldsThen fronts s xs o u × FoldsTo (λ p x q. Called g p (x, tt) true q) f xs j
      × MatchOption o (r ≡ true) (λ x. (r ≡ false) × ((h : F) × Called g j (x, tt) false h))
      → iter_rest s ≡ take n l → n ≤ length l → ((x : Bor A) (b : Bool) (q : F) → Called g f (x, tt) b q → (q ≡ f) × (b ≡ t x.now))
      → r ≡ all_below (λ i. t (get_or l i d)) n
  all_in_front ran from far says = all_from_yields_List t u f r ran (YieldsList-from_slice (take n l) from) says ∙ all_front t l d n far

-- of `(0..n).zip(xs)`, where what stands behind the last element passes
module _ {A F : Type 0} {g : Mut F ((ℕ × Bor A) × Unit {0}) Bool} (t : ℕ × A → Bool) (n : ℕ) (l : List A) (d : A) {s : Zip (Range ℕ) (Iter A)}
    (u : Zip (Range ℕ) (Iter A)) {f : F} {r : Bool} where
  pub all_in_zip : (xs : List (ℕ × Bor A)) × (o : Option (ℕ × Bor A)) × (j : F) × YieldsThen (zips nat_range_steps fronts) s xs o u
      × FoldsTo (λ p x q. Called g p (x, tt) true q) f xs j × MatchOption o (r ≡ true) (λ x. (r ≡ false) × ((h : F) × Called g j (x, tt) false h))
      → zip_first s ≡ record { start = 0; end = n } → iter_rest (zip_second s) ≡ l → ((i : ℕ) → t (i, d) ≡ true)
      → ((x : ℕ × Bor A) (b : Bool) (q : F) → Called g f (x, tt) b q → (q ≡ f) × (b ≡ t (x.0, x.1.now))) → r ≡ all_below (λ i. t (i, get_or l i d)) n
  all_in_zip ran first second passes says =
      all_from_yields_List t u f r ran (YieldsList-from_zip (YieldsList-from_range 0 n n first (omega arith)) (YieldsList-from_slice l second)) says
      ∙ all_zip t d passes n l

module _ {F B : Type 0} {g : Mut F (ℕ × Unit {0}) B} (h : ℕ → B) (d : B) {f : F}
    (says : (x : ℕ) (b : B) (q : F) → Called g f (x, tt) b q → (q ≡ f) × (b ≡ h x)) where
  each_made : (ys : List B) (i n : ℕ) (p : F) → p ≡ f → IsFromFnResultFrom g p ys i n → (k : ℕ) → i ≤ k → k < i + n → get_or ys k d ≡ h k
  each_made ys i zero p e t k l m = absurd (omega arith)
  each_made ys i (suc n) p e t k l m =
      let w = says i t.1 t.0 (rw e at t.3) in
      ⊎_elim
      (λ q. rw (← q) (t.2.1 d ∙ w.1))
      (λ b. each_made ys (i + 1) n t.0 w.0 t.4 k (omega arith) (omega arith))
      (eq-or-lt_of_le {n = i} {m = k} l)

  -- an array made from a function of the place
  pub made_from_fn : (ys : List B) (n : ℕ) → IsFromFnResult g f ys n → ys ≡ map h (range_with_len 0 n)
  made_from_fn ys n ran = fill_by_all h ys n d ran.long (λ k l. each_made ys 0 n f refl ran.each k (omega arith) (omega arith))
