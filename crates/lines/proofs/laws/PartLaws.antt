-- A text in parts: what comes before the first byte that parts it, and a text that has none.
use Prim.Native.Nat.{ℕ, zero, suc, ◌+◌, ◌<◌, ◌≤◌}
use mathlib.Core.Bool.{Bool, true, false, not, cond, ◌&&◌}
use mathlib.Core.List.{List, [], ◌∷◌, ◌++◌}
use mathlib.Core.Path.{◌≡◌, refl, sym, ◌∙◌, ap}
use lib.Dec.{eqb, ltb}
use borrow.Author.Tests.{eq-eqb, eqb-true, ltb-true, ltb-false}
use Rattle.laws.proofs.laws.Choice.{pick_true, pick_false, and_left, and_right, and_both, not_off, pick_both, never}
use Rattle.lines.specs.Parts.{line_feed, every, in_front, parts, lines, space, same, first_of, words}
use Rattle.lines.proofs.laws.Parts.{without}
use native.Mathlib.Numerals.{add-one}
use native.Mathlib.Omega.{arith}
use lib.Pointwise.{pointwise}
use lib.ListN.{length, take, drop, get_or}
use lib.Seq.{take_all, split_at}
use Rattle.laws.specs.Choice.{pick}
use Rattle.std.proofs.Math.Bool.{and_assoc, and-true}
use Rattle.std.specs.Prelude.{Option, Some, None, MatchOption}
use Rattle.std.specs.List.{list_all, position, position_or_len}

pub every_append : (t : ℕ → Bool) (l m : List ℕ) → every t (l ++ m) ≡ every t l && every t m
unfolding every
every_append t [] m = refl
every_append t (b ∷ l) m = ap (λ (a : Bool). t b && a) (every_append t l m) ∙ sym (and_assoc (t b) (every t l) (every t m))

pub every_one : (t : ℕ → Bool) (b : ℕ) → every t (b ∷ []) ≡ t b
unfolding every
every_one t b = and-true (t b)

-- a byte c parts
pub parts_cut : (c : ℕ) (last : List (List ℕ)) (l : List ℕ) → parts c last (c ∷ l) ≡ [] ∷ parts c last l
unfolding parts
parts_cut c last l = pick_true _ _ (eq-eqb c c refl)

-- another byte stands in front
pub parts_on : (c : ℕ) (last : List (List ℕ)) (b : ℕ) (l : List ℕ) → eqb b c ≡ false → parts c last (b ∷ l) ≡ in_front b (parts c last l)
unfolding parts
parts_on c last b l e = pick_false _ _ e

pub other : (c b : ℕ) (l : List ℕ) → without c (b ∷ l) ≡ true → eqb b c ≡ false
unfolding every
other c b l h = go (eqb b c) (and_left (not (eqb b c)) (without c l) h)
  where
    go : (t : Bool) → not t ≡ true → t ≡ false
    go true e = sym e
    go false e = refl

pub more : (c b : ℕ) (l : List ℕ) → without c (b ∷ l) ≡ true → without c l ≡ true
unfolding every
more c b l h = and_right (not (eqb b c)) (without c l) h

-- what stands before the first byte c is the first part
pub parts_at : (c : ℕ) (last : List (List ℕ)) (l m : List ℕ) → without c l ≡ true → parts c last (l ++ (c ∷ m)) ≡ l ∷ parts c last m
unfolding in_front
parts_at c last [] m h = parts_cut c last m
parts_at c last (b ∷ l) m h = parts_on c last b (l ++ (c ∷ m)) (other c b l h) ∙ rw (parts_at c last l m (more c b l h))

-- an input without LF is one line, if there is anything
pub lines_none : lines [] ≡ []
unfolding parts
lines_none = refl

pub lines_one : (b : ℕ) (l : List ℕ) → without line_feed (b ∷ l) ≡ true → lines (b ∷ l) ≡ (b ∷ l) ∷ []
unfolding in_front parts
lines_one b l h = parts_on line_feed [] b l (other line_feed b l h) ∙ go b l (more line_feed b l h)
  where
    go : (b : ℕ) (l : List ℕ) → without line_feed l ≡ true → in_front b (lines l) ≡ (b ∷ l) ∷ []
    go b [] h = refl
    go b (a ∷ l) h = ap (in_front b) (parts_on line_feed [] a l (other line_feed a l h) ∙ go a l (more line_feed a l h))

-- one more byte that is not c
pub without_on : (c : ℕ) (l : List ℕ) (b : ℕ) → without c l ≡ true → eqb b c ≡ false → without c (l ++ (b ∷ [])) ≡ true
without_on c l b h e =
    every_append (λ x. not (eqb x c)) l (b ∷ [])
    ∙ and_both (without c l) (without c (b ∷ [])) h (every_one (λ x. not (eqb x c)) b ∙ not_off e)

pub same_refl : (l : List ℕ) → same l l ≡ true
unfolding same
same_refl [] = refl
same_refl (x ∷ l) = and_both (eqb x x) (same l l) (eq-eqb x x refl) (same_refl l)

pub same_eq : (l m : List ℕ) → same l m ≡ true → l ≡ m
unfolding same
same_eq [] [] h = refl
same_eq [] (y ∷ m) h = never h refl
same_eq (x ∷ l) [] h = never h refl
same_eq (x ∷ l) (y ∷ m) h = rw (eqb-true x y (and_left (eqb x y) (same l m) h), same_eq l m (and_right (eqb x y) (same l m) h))

-- the library's test of equality
pub same_list : (l m : List ℕ) → pointwise eqb l m ≡ same l m
unfolding same
same_list [] [] = refl
same_list [] (y ∷ m) = refl
same_list (x ∷ l) [] = refl
same_list (x ∷ l) (y ∷ m) = ap (λ (a : Bool). eqb x y && a) (same_list l m)

-- the library's test of each byte
pub every_list : (t : ℕ → Bool) (l : List ℕ) → list_all t l ≡ every t l
unfolding every
every_list t [] = refl
every_list t (b ∷ l) = ap (λ (a : Bool). t b && a) (every_list t l)

pub every_at : (t : ℕ → Bool) (l : List ℕ) (i : ℕ) → every t l ≡ true → i < length l → t (get_or l i 0) ≡ true
unfolding every
every_at t [] i h k = absurd (omega arith)
every_at t (b ∷ l) zero h k = and_left (t b) (every t l) h
every_at t (b ∷ l) (suc i) h k = every_at t l i (and_right (t b) (every t l) h) (omega arith)

-- a test that is weaker
pub every_weaker : (t u : ℕ → Bool) (l : List ℕ) → ((b : ℕ) → t b ≡ true → u b ≡ true) → every t l ≡ true → every u l ≡ true
unfolding every
every_weaker t u [] f h = refl
every_weaker t u (b ∷ l) f h =
    and_both (u b) (every u l) (f b (and_left (t b) (every t l) h)) (every_weaker t u l f (and_right (t b) (every t l) h))

-- the library's search for the first byte c
first_place : (c : ℕ) (l : List ℕ) → position_or_len (λ b. eqb b c) l ≡ first_of c l
unfolding first_of pick
first_place c [] = refl
first_place c (b ∷ l) = go (eqb b c) (first_place c l)
  where
    go : (t : Bool) → position_or_len (λ b. eqb b c) l ≡ first_of c l → cond (not t) (1 + position_or_len (λ b. eqb b c) l) 0 ≡ pick t 0 (suc (first_of c l))
    go true h = refl
    go false h = rw h (omega arith)

-- a line without a space is one word
pub words_one : (l : List ℕ) → without space l ≡ true → words l ≡ l ∷ []
unfolding parts in_front
words_one [] h = refl
words_one (b ∷ l) h = parts_on space ([] ∷ []) b l (other space b l h) ∙ rw (words_one l (more space b l h))

-- nothing before the first byte c is c
pub first_without : (c : ℕ) (l : List ℕ) → without c (take (first_of c l) l) ≡ true
unfolding first_of every pick
first_without c [] = refl
first_without c (b ∷ l) = go (eqb b c) refl (first_without c l)
  where
    go : (t : Bool) → eqb b c ≡ t → without c (take (first_of c l) l) ≡ true → without c (take (first_of c (b ∷ l)) (b ∷ l)) ≡ true
    go true e h = rw e
    go false e h = rw e (and_both (not (eqb b c)) (without c (take (first_of c l) l)) (not_off e) h)

-- what the search found is c
pub first_found : (c : ℕ) (l : List ℕ) → first_of c l < length l → get_or l (first_of c l) 0 ≡ c
unfolding first_of pick
first_found c [] h = absurd (omega arith)
first_found c (b ∷ l) h = go (eqb b c) refl h (first_found c l)
  where
    go : (t : Bool) → eqb b c ≡ t → first_of c (b ∷ l) < length (b ∷ l) → (first_of c l < length l → get_or l (first_of c l) 0 ≡ c)
        → get_or (b ∷ l) (first_of c (b ∷ l)) 0 ≡ c
    go true e h r = rw e (eqb-true b c e)
    go false e h r = let k : suc (first_of c l) < suc (length l) = rw e at h in rw e (r (omega arith))

-- a line whose first space stands at k: a word, and the words behind it
pub words_cut : (l : List ℕ) (k : ℕ) → k ≡ first_of space l → k < length l → words l ≡ take k l ∷ words (drop (k + 1) l)
words_cut l k e h =
    let f : get_or l k 0 ≡ space = rw e (first_found space l (omega arith)) in
    let w : without space (take k l) ≡ true = rw e (first_without space l) in
    ap words (split_at l k 0 h) ∙ rw (f, add-one) (parts_at space ([] ∷ []) (take k l) (drop (suc k) l) w)

-- a line whose first space is nowhere: one word
pub words_whole : (l : List ℕ) (k : ℕ) → k ≡ first_of space l → length l ≤ k → words l ≡ l ∷ []
words_whole l k e h = words_one l (ap (without space) (sym (take_all k l h)) ∙ rw e (first_without space l))

-- what the search for the first space answers of a line: where its first word ends, if another stands behind
pub words_split : (l : List ℕ) {r : Option ℕ} → r ≡ position (λ b. eqb b space) l
    → MatchOption r (words l ≡ l ∷ []) (λ k. words l ≡ take k l ∷ words (drop (k + 1) l))
words_split l e = rw e (go (ltb (position_or_len (λ b. eqb b space) l) (length l)) refl)
  where
    go : (t : Bool) → ltb (position_or_len (λ b. eqb b space) l) (length l) ≡ t
        → MatchOption (cond t (Some (position_or_len (λ b. eqb b space) l)) None) (words l ≡ l ∷ []) (λ k. words l ≡ take k l ∷ words (drop (k + 1) l))
    go true h = words_cut l _ (first_place space l) (ltb-true _ _ h)
    go false h = words_whole l _ (first_place space l) (ltb-false _ _ h)

-- there is always a word, if only an empty one
pub words_some : (l : List ℕ) → (p : List ℕ) × (ps : List (List ℕ)) × (words l ≡ p ∷ ps)
unfolding parts in_front
words_some [] = ([], [], refl)
words_some (b ∷ l) = pick_both Some (eqb b space) ([], words l, refl) (front (words l))
  where
    Some : List (List ℕ) → Type 0
    Some ws = (p : List ℕ) × (ps : List (List ℕ)) × (ws ≡ p ∷ ps)

    front : (ws : List (List ℕ)) → Some (in_front b ws)
    front [] = (b ∷ [], [], refl)
    front (p ∷ ps) = (b ∷ p, ps, refl)
