-- The rehearse program's lines, as document 01 states them: a line's words make a plan line or an order, or it is unreadable.
-- `words` and `lines` part a line at its spaces and an input at its LFs (specs/Parts.antt).
use Rattle.std.specs.Prelude.{ℕ, ◌&&◌, List, [], ◌∷◌, map, length, ltb}
use Rattle.laws.specs.Choice.{pick}
use Rattle.house.specs.declared.Order.TheVariants.{Post, Stand, Retry, Cut, Carry}
use Rattle.lines.specs.Parts.{same, words, lines}
use Rattle.lines.specs.Numeral.{is_number, value_of}
use Rattle.lines.specs.declared.Typed.{Typed}
use Rattle.lines.specs.declared.Typed.TheVariants.{Districts, Job, Given, Unreadable}

-- the first words, in ASCII
abbrev pub districts : List ℕ
districts = 100 ∷ 105 ∷ 115 ∷ 116 ∷ 114 ∷ 105 ∷ 99 ∷ 116 ∷ 115 ∷ []

abbrev pub job : List ℕ
job = 106 ∷ 111 ∷ 98 ∷ []

abbrev pub post : List ℕ
post = 112 ∷ 111 ∷ 115 ∷ 116 ∷ []

abbrev pub stand : List ℕ
stand = 115 ∷ 116 ∷ 97 ∷ 110 ∷ 100 ∷ []

abbrev pub retry : List ℕ
retry = 114 ∷ 101 ∷ 116 ∷ 114 ∷ 121 ∷ []

abbrev pub cut : List ℕ
cut = 99 ∷ 117 ∷ 116 ∷ []

abbrev pub carry : List ℕ
carry = 99 ∷ 97 ∷ 114 ∷ 114 ∷ 121 ∷ []

-- `districts G`, `job MASK`, `post J`, `stand B`, `cut B`, `carry K`; another word is unreadable
unfoldable pub one_number : List ℕ → ℕ → Typed
one_number word n =
    pick (same word districts) (Districts n)
    (pick (same word job) (Job n)
    (pick (same word post) (Given (Post n))
    (pick (same word stand) (Given (Stand n))
    (pick (same word cut) (Given (Cut n))
    (pick (same word carry) (Given (Carry n)) Unreadable)))))

-- a word and a number, or `retry B J`; other words are unreadable
unfoldable pub order_of_words : List (List ℕ) → Typed
order_of_words [] = Unreadable
order_of_words (word ∷ []) = Unreadable
order_of_words (word ∷ n ∷ []) = pick (is_number n) (one_number word (value_of n)) Unreadable
order_of_words (word ∷ b ∷ j ∷ []) = pick (same word retry && (is_number b && is_number j)) (Given (Retry (value_of b) (value_of j))) Unreadable
order_of_words (word ∷ b ∷ j ∷ more ∷ rest) = Unreadable

-- the longest line
abbrev pub longest : ℕ
longest = 31

-- a line up to 31 bytes says what its words say; a longer one is unreadable
unfoldable pub order_of_line : List ℕ → Typed
order_of_line line = pick (ltb longest (length line)) Unreadable (order_of_words (words line))

-- what an input says, line by line
unfoldable pub orders_of : List ℕ → List Typed
orders_of input = map order_of_line (lines input)
