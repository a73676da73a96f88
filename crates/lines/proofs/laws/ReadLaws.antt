-- The definition of a line's order and the promise of the line reader say the same:
-- `line_read` and `read_line` lead from one to the other.
use Prim.Native.Nat.{ℕ}
use mathlib.Core.Bool.{Bool, true, false, ◌&&◌}
use mathlib.Core.List.{List, [], ◌∷◌}
use mathlib.Core.Path.{◌≡◌, refl, sym, ap, ◌∙◌}
use lib.ListN.{length, take}
use lib.Dec.{ltb, leb}
use borrow.Author.Tests.{ltb-true, ltb-false, le-leb, lt-leb}
use Rattle.laws.specs.Choice.{pick}
use Rattle.house.specs.declared.Order.TheVariants.{Retry}
use Rattle.lines.specs.Parts.{same, words}
use Rattle.lines.proofs.laws.PartLaws.{same_eq}
use Rattle.lines.specs.Numeral.{is_number, value_of}
use Rattle.lines.specs.declared.LineState.{LineState}
use Rattle.lines.specs.declared.Typed.{Typed}
use Rattle.lines.specs.declared.Typed.TheVariants.{Given, Unreadable}
use Rattle.lines.specs.Orders.{districts, job, post, stand, retry, cut, carry, longest, one_number, order_of_words, order_of_line}
use Rattle.lines.specs.Held.{no_line, pushed, order_held}
use Rattle.lines.specs.Reads.{order_word, order_numbers, among, are_order, readable, first_word, numbers_behind, LineRead, NothingHeld, ByteHeld, HeldRead}
use Rattle.lines.proofs.laws.Reads.{only_order, only_nothing}

-- an order has this word and these numbers if the test holds, none if it fails
abbrev Says : Typed → Bool → List ℕ → List ℕ → Type 0
Says o t word numbers = (order_word o ≡ pick t word []) × (order_numbers o ≡ pick t numbers [])

-- a word and one number
one_says : (w : List ℕ) (n : ℕ) → Says (one_number w n) (among w (districts ∷ job ∷ post ∷ stand ∷ cut ∷ carry ∷ [])) w (n ∷ [])
unfolding one_number among pick
one_says w n =
    go (same w districts) (same w job) (same w post) (same w stand) (same w cut) (same w carry) refl refl refl refl refl refl
  where
    go : (d j p s c k : Bool) → same w districts ≡ d → same w job ≡ j → same w post ≡ p → same w stand ≡ s → same w cut ≡ c → same w carry ≡ k
        → Says (one_number w n) (among w (districts ∷ job ∷ post ∷ stand ∷ cut ∷ carry ∷ [])) w (n ∷ [])
    go true j p s c k h1 h2 h3 h4 h5 h6 = rw h1 (sym (same_eq w districts h1), refl)
    go false true p s c k h1 h2 h3 h4 h5 h6 = rw (h1, h2) (sym (same_eq w job h2), refl)
    go false false true s c k h1 h2 h3 h4 h5 h6 = rw (h1, h2, h3) (sym (same_eq w post h3), refl)
    go false false false true c k h1 h2 h3 h4 h5 h6 = rw (h1, h2, h3, h4) (sym (same_eq w stand h4), refl)
    go false false false false true k h1 h2 h3 h4 h5 h6 = rw (h1, h2, h3, h4, h5) (sym (same_eq w cut h5), refl)
    go false false false false false true h1 h2 h3 h4 h5 h6 = rw (h1, h2, h3, h4, h5, h6) (sym (same_eq w carry h6), refl)
    go false false false false false false h1 h2 h3 h4 h5 h6 = rw (h1, h2, h3, h4, h5, h6) (refl, refl)

both : (t u : Bool) (o : Typed) (w n : List ℕ) → Says o t w n → Says (pick u o Unreadable) (t && u) w n
unfolding pick
both true true o w n h = h
both true false o w n h = (refl, refl)
both false true o w n h = h
both false false o w n h = (refl, refl)

-- the words of a line
words_say : (ws : List (List ℕ)) → Says (order_of_words ws) (are_order ws) (first_word ws) (numbers_behind ws)
unfolding order_of_words are_order first_word numbers_behind pick
words_say [] = (refl, refl)
words_say (w ∷ []) = (refl, refl)
words_say (w ∷ n ∷ []) =
    both (among w (districts ∷ job ∷ post ∷ stand ∷ cut ∷ carry ∷ [])) (is_number n) (one_number w (value_of n)) w (value_of n ∷ []) (one_says w (value_of n))
words_say (w ∷ b ∷ j ∷ []) = go (same w retry) (is_number b && is_number j) refl
  where
    go : (t u : Bool) → same w retry ≡ t → Says (pick (t && u) (Given (Retry (value_of b) (value_of j))) Unreadable) (t && u) w (value_of b ∷ value_of j ∷ [])
    go true true e = (sym (same_eq w retry e), refl)
    go true false e = (refl, refl)
    go false u e = (refl, refl)
words_say (w ∷ b ∷ j ∷ more ∷ rest) = (refl, refl)

line_says : (line : List ℕ) → Says (order_of_line line) (readable line) (first_word (words line)) (numbers_behind (words line))
unfolding order_of_line readable pick
line_says line = go (ltb longest (length line)) refl
  where
    go : (t : Bool) → ltb longest (length line) ≡ t
        →
        Says
        (pick t Unreadable (order_of_words (words line)))
        (leb (length line) longest && are_order (words line))
        (first_word (words line))
        (numbers_behind (words line))
    go true e = rw (lt-leb (length line) longest (ltb-true longest (length line) e)) (refl, refl)
    go false e = rw (le-leb (length line) longest (ltb-false longest (length line) e)) (words_say (words line))

-- the definition keeps the promise
pub line_read : (line : List ℕ) {o : Typed} → o ≡ order_of_line line → LineRead line o
line_read line e = let s = line_says line in record { word = ap order_word e ∙ s.0; numbers = ap order_numbers e ∙ s.1 }

-- and nothing else does
pub read_line : (line : List ℕ) {o : Typed} → LineRead line o → o ≡ order_of_line line
read_line line r = only_order r (line_read line refl)

-- the order held, nothing held and a byte more held, as the one value that the promise allows
pub held_is : (s : LineState) {o : Typed} → HeldRead s o → o ≡ order_held s
unfolding order_held
held_is s r = read_line (take s.len s.bytes) r

pub nothing_is : {s : LineState} → NothingHeld s → s ≡ no_line
nothing_is h = only_nothing h (record { none = refl; blank = refl })

pub byte_held : (s : LineState) (b : ℕ) {r : LineState} → r ≡ pushed s b → ByteHeld s b r
byte_held s b e = record { count = ap (λ (x : LineState). x.len) e; bytes = ap (λ (x : LineState). x.bytes) e }
