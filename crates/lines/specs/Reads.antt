-- What the line reader promises, in document 01's words: a line's order has a word and numbers, and an unreadable line has none.
-- Each promise has its theorem that no second answer fits.
use Rattle.std.specs.Prelude.{ℕ, Bool, false, ◌&&◌, ◌||◌, List, [], ◌∷◌, map, ◌≡◌, length, take, replicate, leb}
use Rattle.laws.specs.Choice.{pick}
use Rattle.house.specs.declared.Order.TheVariants.{Post, Stand, Retry, Cut, Carry}
use Rattle.lines.specs.Parts.{same, words}
use Rattle.lines.specs.Numeral.{is_number, value_of}
use Rattle.lines.specs.declared.LineState.{LineState}
use Rattle.lines.specs.declared.Typed.{Typed}
use Rattle.lines.specs.declared.Typed.TheVariants.{Districts, Job, Given, Unreadable}
use Rattle.lines.specs.Orders.{districts, job, post, stand, retry, cut, carry, longest}
use Rattle.lines.specs.Held.{pushed}

-- ---- an order's word and numbers

-- the word that the line began with
abbrev pub order_word : Typed → List ℕ
order_word (Districts g) = districts
order_word (Job mask) = job
order_word (Given (Post j)) = post
order_word (Given (Stand b)) = stand
order_word (Given (Retry b j)) = retry
order_word (Given (Cut b)) = cut
order_word (Given (Carry k)) = carry
order_word Unreadable = []

-- the numbers behind it, as they were typed
abbrev pub order_numbers : Typed → List ℕ
order_numbers (Districts g) = g ∷ []
order_numbers (Job mask) = mask ∷ []
order_numbers (Given (Post j)) = j ∷ []
order_numbers (Given (Stand b)) = b ∷ []
order_numbers (Given (Retry b j)) = b ∷ j ∷ []
order_numbers (Given (Cut b)) = b ∷ []
order_numbers (Given (Carry k)) = k ∷ []
order_numbers Unreadable = []

-- ---- the lines that can be read

-- one of some words
unfoldable pub among : List ℕ → List (List ℕ) → Bool
among word [] = false
among word (w ∷ ws) = same word w || among word ws

-- `districts G`, `job MASK`, `post J`, `stand B`, `cut B`, `carry K`, or `retry B J`
unfoldable pub are_order : List (List ℕ) → Bool
are_order [] = false
are_order (word ∷ []) = false
are_order (word ∷ n ∷ []) = among word (districts ∷ job ∷ post ∷ stand ∷ cut ∷ carry ∷ []) && is_number n
are_order (word ∷ b ∷ j ∷ []) = same word retry && (is_number b && is_number j)
are_order (word ∷ b ∷ j ∷ more ∷ rest) = false

-- in a line up to 31 bytes
unfoldable pub readable : List ℕ → Bool
readable line = leb (length line) longest && are_order (words line)

unfoldable pub first_word : List (List ℕ) → List ℕ
first_word [] = []
first_word (word ∷ numbers) = word

unfoldable pub numbers_behind : List (List ℕ) → List ℕ
numbers_behind [] = []
numbers_behind (word ∷ numbers) = map value_of numbers

-- ---- the promises

-- `order_of_line`: the first word and the numbers behind it of a line that can be read, none of another
pub record LineRead (line : List ℕ) (o : Typed) : Type 0 where
  pub word : order_word o ≡ pick (readable line) (first_word (words line)) []
  pub numbers : order_numbers o ≡ pick (readable line) (numbers_behind (words line)) []

-- `no_line`: no byte has come, and all places are blank
pub record NothingHeld (s : LineState) : Type 0 where
  pub none : s.len ≡ 0
  pub blank : s.bytes ≡ replicate 32 0

-- `push`: how many bytes have come, and the bytes
pub record ByteHeld (s : LineState) (b : ℕ) (r : LineState) : Type 0 where
  pub count : r.len ≡ (pushed s b).len
  pub bytes : r.bytes ≡ (pushed s b).bytes

-- `order_held`: the order of the bytes that have come
abbrev pub HeldRead : LineState → Typed → Type 0
HeldRead s o = LineRead (take s.len s.bytes) o
