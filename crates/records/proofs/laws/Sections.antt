-- One section for any codec: how long it is, what is read from it, and that what was read is written again.
use Prim.Native.Nat.{ℕ, suc, ◌+◌, ◌-◌, ◌*◌, ◌<◌, ◌≤◌}
use mathlib.Core.List.{List, [], ◌∷◌, ◌++◌}
use mathlib.Core.Path.{◌≡◌, sym, ap, ◌∙◌}
use native.Mathlib.Numerals.{add-one}
use native.Mathlib.Omega.{arith}
use lib.ListN.{length, take, drop, get_or, length-take, length-drop}
use lib.Seq.{length-take-le, drop-cons, get_or-take}
use Rattle.laws.specs.Codec.{Codec, enc_row, dec_row, AllFit, no_more, one_more, row_length, dec_row_lem, enc_row_lem, bytes_drop}
use Rattle.laws.specs.Number.{Bytes}
use Rattle.records.specs.Bytes.{section}

-- the part of a tray from n on has room for k bytes more
pub rest_room : (n k m : ℕ) (l : List ℕ) → length l ≡ m → n + k ≤ m → k ≤ length (take (length l - n) (drop n l))
rest_room n k m l e h = rw (length-take, length-drop) (omega arith)

module _ {A : Type 0} (C : Codec A) where
  -- n elements of a row that has so many
  pub section_length : (l : List A) (n i : ℕ) → i ≤ length l → length (section n (enc_row C (take i l))) ≡ 1 + i * C.w
  section_length l n i h =
      let e : length (enc_row C (take i l)) ≡ i * C.w = row_length C (take i l) ∙ ap (λ (k : ℕ). k * C.w) (length-take-le i l h) in
      omega (arith, e)

  -- what is read of a section that was written
  pub section_read : (l : List A) (n : ℕ) (more : List ℕ) → n ≤ length l → AllFit C (take n l) → dec_row C n (enc_row C (take n l) ++ more) ≡ take n l
  section_read l n more h f =
      ap (λ (k : ℕ). dec_row C k (enc_row C (take n l) ++ more)) (sym (length-take-le n l h)) ∙ dec_row_lem C (take n l) more f

  -- what is written of a section that was read, its count at place p
  pub section_again : (s : List ℕ) (n p : ℕ) → Bytes s → p + (1 + n * C.w) ≤ length s → get_or s p 0 ≡ n
      → section n (enc_row C (dec_row C n (drop (p + 1) s))) ≡ take (1 + n * C.w) (drop p s)
  section_again s n p b h e =
      let room : n * C.w ≤ length (drop (p + 1) s) = rw length-drop (omega arith) in
      let one : 1 + n * C.w ≡ suc (n * C.w) = omega arith in
      rw (enc_row_lem C n (drop (p + 1) s) (bytes_drop (p + 1) s b) room, drop-cons s p 0 (omega arith), e, one, add-one)

  -- a row fits if each element does
  pub fit_each : (d : A) (l : List A) → ((i : ℕ) → i < length l → C.Fits (get_or l i d)) → AllFit C l
  fit_each d [] h = no_more
  fit_each d (a ∷ l) h = one_more (h 0 (omega arith)) (fit_each d l (λ i k. h (suc i) (omega arith)))

  pub fit_front : (d : A) (l : List A) (n : ℕ) → n ≤ length l → ((i : ℕ) → i < n → C.Fits (get_or l i d)) → AllFit C (take n l)
  fit_front d l n k h =
      fit_each d (take n l) (λ i z. let e = length-take-le n l k in let g = get_or-take n l i d (omega arith) in rw g (h i (omega arith)))
