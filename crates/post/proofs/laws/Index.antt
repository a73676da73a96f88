-- Laws of what specs/Index.antt defines.
use Prim.Native.Nat.{ℕ, zero, suc, ◌+◌, ◌≤◌, ◌<◌}
use mathlib.Core.List.{List}
use mathlib.Core.Logic.{⊎_elim}
use mathlib.Core.Path.{◌≡◌, sym, ap, ◌∙◌}
use native.Mathlib.Nat.{eq-or-lt_of_le}
use native.Mathlib.Omega.{arith}
use lib.ListN.{length, take, get_or, set, length-set}
use lib.Seq.{get_or-set_same, get_or-set_other}
use borrow.Author.Tests.{lt-ltb}
use Rattle.std.proofs.lemmas.List.{get_or-take}
use Rattle.laws.proofs.laws.Choice.{pick_true}
use Rattle.house.specs.declared.Plan.{Plan}
use Rattle.records.specs.Bytes.{stamps_at, rows_at, length_of}
use Rattle.post.specs.Posting.{length_at, next_start, start_of}
use Rattle.post.proofs.laws.Posting.{start_none, start_step}
use Rattle.post.specs.Index.{Indexed}

-- ---- the first record begins at 0, whichever the plan and the post

pub indexed_none : (P : Plan) (s : List ℕ) (u : ℕ) (index : List ℕ) → 0 < length index → get_or index 0 0 ≡ 0 → Indexed P s u index 0
indexed_none P s u index h e =
    record {
      some = h;
      starts = λ k l. let z : k ≡ 0 = omega (arith, l) in rw z (e ∙ sym (start_none P s u));
      within = λ k l. absurd (omega (arith, l));
    }

-- ---- one entry more

-- a record has so many bytes or more
abbrev pub least_record : ℕ
least_record = 8

pub length_least : (P : Plan) (k : ℕ) → least_record ≤ length_of P k
unfolding length_of rows_at stamps_at
length_least P k = omega arith

next_far : (P : Plan) (s : List ℕ) (used at : ℕ) → at < used → at + least_record ≤ next_start P s used at
unfolding next_start length_at
next_far P s used at h =
    let l = length_least P (get_or s (at + 1) 0) in
    let e : next_start P s used at ≡ at + length_of P (get_or s (at + 1) 0) = pick_true (at + length_of P (get_or s (at + 1) 0)) at (lt-ltb at used h) in
    omega (arith, l, e)

module _ (P : Plan) (s : List ℕ) (used : ℕ) (index : List ℕ) (n : ℕ) (I : Indexed P s used index n) where
  pub indexed_more : (v : ℕ) → n + 1 < length index → get_or index n 0 < used → v ≡ next_start P s used (get_or index n 0) → v ≤ used
      → Indexed P s used (set index (n + 1) v) (n + 1)
  indexed_more v h i ev l =
      let at = get_or index n 0 in
      let e : at ≡ start_of P s used n = I.starts n (omega arith) in
      let w = next_far P s used at i in
      let m : length (set index (n + 1) v) ≡ length index = length-set index (n + 1) v in
      record {
        some = omega (arith, h, m);
        starts = λ k b. ⊎_elim (λ q. rw q (get_or-set_same index (n + 1) v 0 h ∙ ev ∙ ap (next_start P s used) e ∙ start_step P s used n))
            (λ c. get_or-set_other index (n + 1) k v 0 (λ q. omega (arith, q, c)) ∙ I.starts k (omega (arith, c)))
            (eq-or-lt_of_le {n = k} {m = n + 1} b);
        within = λ k b. ⊎_elim (λ q. rw q (omega (arith, e, w, ev, l))) (λ c. I.within k c) (eq-or-lt_of_le {n = k} {m = n} (omega (arith, b)));
      }

-- ---- bytes behind what is used

-- a byte of the front
front_byte : (l k : List ℕ) (n i : ℕ) → take n l ≡ take n k → i < n → get_or l i 0 ≡ get_or k i 0
front_byte l k n i e h = sym (get_or-take n l i 0 h) ∙ ap (λ (z : List ℕ). get_or z i 0) e ∙ get_or-take n k i 0 h

next_same : (P : Plan) (s t : List ℕ) (u v at : ℕ) → u ≤ v → take u t ≡ take u s → at + 2 ≤ u → next_start P t v at ≡ next_start P s u at
unfolding next_start length_at
next_same P s t u v at m f h =
    pick_true (at + length_of P (get_or t (at + 1) 0)) at (lt-ltb at v (omega arith))
    ∙ ap (λ (b : ℕ). at + length_of P b) (front_byte t s u (at + 1) f (omega arith))
    ∙ sym (pick_true (at + length_of P (get_or s (at + 1) 0)) at (lt-ltb at u (omega arith)))

module _ (P : Plan) (s t : List ℕ) (u v : ℕ) (m : u ≤ v) (f : take u t ≡ take u s)
    (index : List ℕ) (count : ℕ) (I : Indexed P s u index count) where
  start_same : (k : ℕ) → k ≤ count → start_of P t v k ≡ start_of P s u k
  start_same zero h = start_none P t v ∙ sym (start_none P s u)
  start_same (suc k) h =
      let e : k + 1 ≡ suc k = omega arith in
      ap (start_of P t v) (sym e) ∙ sym (start_step P t v k) ∙ ap (next_start P t v) (start_same k (omega arith))
      ∙ next_same P s t u v (start_of P s u k) m f (I.within k (omega arith))
      ∙ start_step P s u k ∙ ap (start_of P s u) e

  pub indexed_grown : Indexed P t v index count
  indexed_grown =
      record {
        some = I.some;
        starts = λ k h. I.starts k h ∙ sym (start_same k h);
        within = λ k h. let w = I.within k h in let e = start_same k (omega arith) in omega (arith, w, e, m);
      }
