-- Laws of what specs/Reads.antt defines.
use Prim.Native.Nat.{ℕ}
use mathlib.Core.List.{List, [], ◌∷◌}
use mathlib.Core.Path.{◌≡◌, refl, sym, ap, ◌∙◌}
use Rattle.laws.specs.Choice.{pick}
use Rattle.house.specs.declared.Order.TheVariants.{Post, Stand, Retry, Cut, Carry}
use Rattle.lines.specs.Parts.{same}
use Rattle.lines.specs.declared.LineState.{LineState}
use Rattle.lines.specs.declared.Typed.{Typed}
use Rattle.lines.specs.declared.Typed.TheVariants.{Districts, Job, Given, Unreadable}
use Rattle.lines.specs.Orders.{one_number}
use Rattle.lines.specs.Reads.{order_word, order_numbers, LineRead, NothingHeld, ByteHeld, HeldRead}

abbrev order_as : List ℕ → List ℕ → Typed
order_as word [] = Unreadable
order_as word (n ∷ []) = one_number word n
order_as word (b ∷ j ∷ more) = Given (Retry b j)

as_said : (o : Typed) → order_as (order_word o) (order_numbers o) ≡ o
unfolding one_number same pick
as_said (Districts g) = refl
as_said (Job mask) = refl
as_said (Given (Post j)) = refl
as_said (Given (Stand b)) = refl
as_said (Given (Retry b j)) = refl
as_said (Given (Cut b)) = refl
as_said (Given (Carry k)) = refl
as_said Unreadable = refl

-- an order is its word and its numbers
pub same_order : (o p : Typed) → order_word o ≡ order_word p → order_numbers o ≡ order_numbers p → o ≡ p
same_order o p w n = sym (as_said o) ∙ ap (λ (x : List ℕ). order_as x (order_numbers o)) w ∙ ap (order_as (order_word p)) n ∙ as_said p

-- ---- no second answer fits

pub only_order : {line : List ℕ} {o p : Typed} → LineRead line o → LineRead line p → o ≡ p
only_order {o = o} {p = p} a b = same_order o p (a.word ∙ sym b.word) (a.numbers ∙ sym b.numbers)

line_state : (s r : LineState) → s.len ≡ r.len → s.bytes ≡ r.bytes → s ≡ r
line_state s r n b = ap (λ (k : ℕ). record { len = k; bytes = s.bytes }) n ∙ ap (λ (l : List ℕ). record { len = r.len; bytes = l }) b

pub only_nothing : {s r : LineState} → NothingHeld s → NothingHeld r → s ≡ r
only_nothing {s = s} {r = r} a b = line_state s r (a.none ∙ sym b.none) (a.blank ∙ sym b.blank)

pub only_byte : {s : LineState} {b : ℕ} {r q : LineState} → ByteHeld s b r → ByteHeld s b q → r ≡ q
only_byte {r = r} {q = q} x y = line_state r q (x.count ∙ sym y.count) (x.bytes ∙ sym y.bytes)

pub only_held : (s : LineState) {o p : Typed} → HeldRead s o → HeldRead s p → o ≡ p
only_held s a b = only_order a b
