-- A text in parts: what stands between the bytes that part it.
-- The words of a line are parted by spaces, the lines of an input by LF.
use Rattle.std.specs.Prelude.{ℕ, suc, Bool, true, false, ◌&&◌, List, [], ◌∷◌, eqb}
use Rattle.laws.specs.Choice.{pick}

-- the bytes that part words and lines, in ASCII
abbrev pub space : ℕ
space = 32

abbrev pub line_feed : ℕ
line_feed = 10

-- two words are the same, byte for byte
unfoldable pub same : List ℕ → List ℕ → Bool
same [] [] = true
same [] (y ∷ ys) = false
same (x ∷ xs) [] = false
same (x ∷ xs) (y ∷ ys) = eqb x y && same xs ys

-- every byte passes the test
unfoldable pub every : (ℕ → Bool) → List ℕ → Bool
every t [] = true
every t (b ∷ l) = t b && every t l

-- the place of the first byte c, or the length where there is none
unfoldable pub first_of : ℕ → List ℕ → ℕ
first_of c [] = 0
first_of c (b ∷ l) = pick (eqb b c) 0 (suc (first_of c l))

-- a byte in front of the first part; where there is no part, it begins one
unfoldable pub in_front : ℕ → List (List ℕ) → List (List ℕ)
in_front b [] = (b ∷ []) ∷ []
in_front b (p ∷ ps) = (b ∷ p) ∷ ps

-- the parts of a text: each byte c ends one; the end of the text has the parts `last`
unfoldable pub parts : ℕ → List (List ℕ) → List ℕ → List (List ℕ)
parts c last [] = last
parts c last (b ∷ l) = pick (eqb b c) ([] ∷ parts c last l) (in_front b (parts c last l))

-- the words of a line: one space parts two words, and what stands behind the last space is a word too
abbrev pub words : List ℕ → List (List ℕ)
words l = parts space ([] ∷ []) l

-- the lines of an input: each ends by LF or by the end of the input; nothing behind the last LF is no line
abbrev pub lines : List ℕ → List (List ℕ)
lines l = parts line_feed [] l
