-- The orders of an input: none of an empty one, one more behind each LF, and one of a last line without LF.
use Prim.Native.Nat.{ℕ, ◌+◌, ◌≤◌}
use mathlib.Core.Bool.{true, false, ◌&&◌}
use mathlib.Core.Logic.{◌⊎◌, inl, inr}
use mathlib.Core.List.{List, [], ◌∷◌, ◌++◌, map, append_assoc}
use mathlib.Core.Path.{◌≡◌, ap, refl, sym, ◌∙◌}
use Rattle.lines.specs.Parts.{line_feed, space, same, first_of, every, words}
use Rattle.lines.proofs.laws.Parts.{without}
use Rattle.lines.proofs.laws.PartLaws.{parts_at, lines_none, lines_one, same_refl, words_some, words_one, words_cut, words_whole}
use Rattle.lines.specs.Orders.{order_of_line, orders_of, retry, one_number, order_of_words, longest}
use native.Mathlib.Omega.{arith}
use lib.ListN.{length, length-append}
use lib.Dec.{ltb}
use borrow.Author.Tests.{le-ltb, ltb-true, ltb-false}
use Rattle.laws.specs.Choice.{pick}
use Rattle.laws.proofs.laws.Choice.{pick_true, pick_false, and_both, and_right, look, never, not_so}
use Rattle.house.specs.declared.Order.TheVariants.{Retry}
use Rattle.lines.specs.Numeral.{is_number, value_of}
use Rattle.lines.proofs.laws.NumeralLaws.{number_solid, number_nine}
use Rattle.lines.specs.declared.Typed.TheVariants.{Given, Unreadable}

-- an empty input has no line
pub orders_none : orders_of [] ≡ []
unfolding orders_of
orders_none = rw lines_none

-- what stands before the first LF is the first line
pub orders_lf : (l m : List ℕ) → without line_feed l ≡ true → orders_of (l ++ (line_feed ∷ m)) ≡ order_of_line l ∷ orders_of m
unfolding orders_of
orders_lf l m h = ap (map order_of_line) (parts_at line_feed [] l m h)

-- what stands behind the last LF is a line too, if anything does
pub orders_last : (b : ℕ) (l : List ℕ) → without line_feed (b ∷ l) ≡ true → orders_of (b ∷ l) ≡ order_of_line (b ∷ l) ∷ []
unfolding orders_of
orders_last b l h = ap (map order_of_line) (lines_one b l h)

-- a word, a space and the rest, within a line's length
split_line : (word rest : List ℕ) → without space word ≡ true → length (word ++ (space ∷ rest)) ≤ longest
    → order_of_line (word ++ (space ∷ rest)) ≡ order_of_words (word ∷ words rest)
unfolding order_of_line
split_line word rest w h =
    pick_false _ _ (le-ltb longest (length (word ++ (space ∷ rest))) h) ∙ ap order_of_words (parts_at space ([] ∷ []) word rest w)

number_word : (n : List ℕ) → is_number n ≡ true → words n ≡ n ∷ []
number_word n k = words_one n (number_solid n k)

-- a word and a number, parted by one space
pub one_line : (word n : List ℕ) → without space word ≡ true → length word ≤ 9 → is_number n ≡ true
    → order_of_line (word ++ (space ∷ n)) ≡ one_number word (value_of n)
unfolding order_of_words
one_line word n w h k =
    let m = number_nine n k in
    split_line word n w (rw length-append (omega arith)) ∙ rw (number_word n k) (pick_true _ _ k)

-- a fourth word is too many
four_words : (word b j more : List ℕ) → order_of_words (word ∷ b ∷ j ∷ words more) ≡ Unreadable
unfolding order_of_words
four_words word b j more = rw (words_some more).2

-- a word and two more, of which the last may be several
pub three_words : (word b j : List ℕ) → order_of_words (word ∷ b ∷ words j)
    ≡ pick (same word retry && (is_number b && is_number j)) (Given (Retry (value_of b) (value_of j))) Unreadable
unfolding order_of_words
three_words word b j = go (look (is_number j)) (look (ltb (first_of space j) (length j)))
  where
    go : (is_number j ≡ true) ⊎ (is_number j ≡ false) → (ltb (first_of space j) (length j) ≡ true) ⊎ (ltb (first_of space j) (length j) ≡ false)
        → order_of_words (word ∷ b ∷ words j) ≡ pick (same word retry && (is_number b && is_number j)) (Given (Retry (value_of b) (value_of j))) Unreadable
    go (inl n) t = rw (number_word j n)
    go (inr n) (inr t) = rw (words_whole j (first_of space j) refl (ltb-false _ _ t))
    go (inr n) (inl t) =
        let f : same word retry && (is_number b && is_number j) ≡ false =
        not_so _ (λ h. never (and_right (is_number b) _ (and_right (same word retry) _ h)) n) in
        rw (words_cut j (first_of space j) refl (ltb-true _ _ t)) (four_words word b _ _ ∙ sym (pick_false _ _ f))

-- `retry` and two numbers, parted by one space each
pub retry_line : (b j : List ℕ) → is_number b ≡ true → is_number j ≡ true
    → order_of_line ((retry ++ (space ∷ b)) ++ (space ∷ j)) ≡ Given (Retry (value_of b) (value_of j))
unfolding order_of_words every
retry_line b j p q =
    let m = number_nine b p in
    let n = number_nine j q in
    let t : length (b ++ (space ∷ j)) ≡ length b + length (space ∷ j) = length-append b (space ∷ j) in
    ap order_of_line (append_assoc retry (space ∷ b) (space ∷ j))
    ∙ split_line retry (b ++ (space ∷ j)) refl (omega (arith, t, m, n))
    ∙ rw (parts_at space ([] ∷ []) b j (number_solid b p), number_word j q)
    (pick_true _ _ (and_both (same retry retry) (is_number b && is_number j) (same_refl retry) (and_both (is_number b) (is_number j) p q)))
