-- A section that is written part by part: its count, then one part more each turn, for any codec.
use Prim.Native.Nat.{ℕ, ◌+◌, ◌-◌, ◌*◌, ◌<◌, ◌≤◌}
use mathlib.Core.List.{List, [], ◌∷◌, ◌++◌}
use mathlib.Core.Path.{◌≡◌, refl, sym, ap, ◌∙◌}
use native.Mathlib.Nat.{add-mul, one-mul, zero-mul}
use native.Mathlib.Omega.{arith}
use lib.ListN.{length, take, get_or, set, length-set}
use lib.Seq.{take-length, length-take-le}
use borrow.Rule.Slice.PartMut.{mid_of, put_mid}
use Rattle.laws.specs.Codec.{Codec, enc_row, row_step, row_length}
use Rattle.laws.specs.Tray.{onto}
use Rattle.laws.proofs.laws.Tray.{onto_sets, behind}
use Rattle.records.specs.Fields.{section_of}

-- the count stored before makes no difference to the section
count_kept : (n : ℕ) (bs t : List ℕ) → onto (n ∷ bs) (set t 0 n) ≡ onto (n ∷ bs) t
unfolding onto
count_kept n bs [] = refl
count_kept n bs (x ∷ t) = refl

module _ {A : Type 0} (C : Codec A) (w : ℕ) (wide : C.w ≡ w) (l : List A) where
  -- a section's bytes
  pub section_long : length (section_of C l) ≡ 1 + length l * w
  section_long = let e : length (enc_row C l) ≡ length l * w = row_length C l ∙ ap (λ (k : ℕ). length l * k) wide in omega (arith, e)

  -- i of the parts stand behind the count on the tray t, which was t₀
  pub record Filled (t₀ t : List ℕ) (used i : ℕ) : Type 0 where
    pub upto : i ≤ length l
    pub many : used ≡ 1 + i * w
    pub room : 1 + length l * w ≤ length t
    pub kept : length t ≡ length t₀
    pub bytes : t ≡ onto (length l ∷ enc_row C (take i l)) t₀

  -- the count stored, and no part yet
  pub filled_none : (t : List ℕ) → length (section_of C l) ≤ length t → Filled (set t 0 (length l)) (set t 0 (length l)) 1 0
  filled_none t h =
      record {
        upto = omega arith;
        many = rw zero-mul;
        room = rw length-set (omega (arith, h, section_long));
        kept = refl;
        bytes = onto_sets (length l ∷ []) t (omega (arith, h, section_long)) ∙ sym (count_kept (length l) [] t);
      }

  -- one part more behind the last
  pub filled_turn : {t₀ t m : List ℕ} {used i : ℕ} (part : A) → part ≡ get_or l i part → i < length l → Filled t₀ t used i
      → m ≡ onto (C.enc part) (mid_of used (length t - used) t) → length (put_mid used (length t - used) t m) ≡ length t
      → Filled t₀ (put_mid used (length t - used) t m) (used + w) (i + 1)
  filled_turn {t₀} {t} {m} {used} {i} part e k f s g =
      let a = add-mul i 1 w in
      let o = one-mul w in
      let long : length (enc_row C (take i l)) ≡ i * w =
      row_length C (take i l) ∙ ap (λ (k : ℕ). k * C.w) (length-take-le i l f.upto) ∙ ap (λ (k : ℕ). i * k) wide in
      let u : used ≡ length (length l ∷ enc_row C (take i l)) = omega (arith, f.many, long) in
      record {
        upto = omega arith;
        many = omega (arith, f.many);
        room = rw g f.room;
        kept = g ∙ f.kept;
        bytes =
            behind (length l ∷ enc_row C (take i l)) (C.enc part) t₀ t m used u f.bytes s
            ∙ ap (λ (a : A). onto (length l ∷ (enc_row C (take i l) ++ C.enc a)) t₀) e
            ∙ ap (λ (bs : List ℕ). onto (length l ∷ bs) t₀) (row_step C l i part k);
      }

  -- all parts
  pub filled_all : (t : List ℕ) {t' : List ℕ} {used i : ℕ} → length l ≤ i → Filled (set t 0 (length l)) t' used i
      → (used ≡ length (section_of C l)) × (t' ≡ onto (section_of C l) t)
  filled_all t {t'} {used} {i} h f =
      let e : i ≡ length l = omega (arith, f.upto) in (
        f.many ∙ ap (λ (k : ℕ). 1 + k * w) e ∙ sym section_long,
        f.bytes
            ∙ ap (λ (k : ℕ). onto (length l ∷ enc_row C (take k l)) (set t 0 (length l))) e
            ∙ ap (λ (k : List A). onto (length l ∷ enc_row C k) (set t 0 (length l))) (take-length l)
            ∙ count_kept (length l) (enc_row C l) t,
      )
