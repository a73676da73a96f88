-- A codec of fixed width: an element as bytes and back. Rows of it, and the pair of a number and one byte.
use Rattle.std.specs.Prelude.{ℕ, zero, suc, ◌+◌, ◌*◌, ◌^◌, ◌<◌, ◌≤◌, List, [], ◌∷◌, ◌++◌, ◌≡◌, refl, length, take, drop, get_or}
use Rattle.std.proofs.Common.{append_assoc, append-nil, sym, ◌∙◌, ap, suc-mul, zero-mul, add_comm, add-one}
use Rattle.std.proofs.Common.{arith, length-append, length-drop, drop-drop, get_or-drop, take-add, drop_at, take-suc}
use Rattle.std.proofs.lemmas.List.{get_or_at}
use Rattle.laws.specs.Number.{big_end, number, Bytes, big_end_length, number_big_end, big_end_number}

-- w bytes for an element that fits; whatever stands behind them is not read
pub record Codec (A : Type 0) : Type 1 where
  pub w : ℕ
  pub enc : A → List ℕ
  pub dec : List ℕ → A
  pub Fits : A → Type 0
  pub enc_length : (a : A) → length (enc a) ≡ w
  pub dec_enc : (a : A) (more : List ℕ) → Fits a → dec (enc a ++ more) ≡ a
  pub enc_dec : (s : List ℕ) → Bytes s → w ≤ length s → enc (dec s) ≡ take w s

-- bytes from a place on
pub bytes_drop : (n : ℕ) (s : List ℕ) → Bytes s → Bytes (drop n s)
bytes_drop n s b i = rw get_or-drop (b (n + i))

module _ {A : Type 0} (C : Codec A) where
  -- a row of elements, one behind the other
  abbrev pub enc_row : List A → List ℕ
  enc_row [] = []
  enc_row (a ∷ l) = C.enc a ++ enc_row l

  -- n elements from the front of the bytes
  abbrev pub dec_row : ℕ → List ℕ → List A
  dec_row zero s = []
  dec_row (suc n) s = C.dec s ∷ dec_row n (drop C.w s)

  pub data AllFit : List A → Type 0 where
    no_more : AllFit []
    one_more : {a : A} {l : List A} → C.Fits a → AllFit l → AllFit (a ∷ l)

  pub row_length : (l : List A) → length (enc_row l) ≡ length l * C.w
  row_length [] = sym (zero-mul C.w)
  row_length (a ∷ l) = length-append (C.enc a) (enc_row l) ∙ rw (C.enc_length a, row_length l, suc-mul) (add_comm C.w (length l * C.w))

  pub row_append : (l k : List A) → enc_row (l ++ k) ≡ enc_row l ++ enc_row k
  row_append [] k = refl
  row_append (a ∷ l) k = rw (row_append l k, append_assoc)

  -- one element more of an array's front
  pub row_step : (l : List A) (i : ℕ) (d : A) → i < length l → enc_row (take i l) ++ C.enc (get_or l i d) ≡ enc_row (take (i + 1) l)
  row_step l i d h = rw (add-one, take-suc l i d h, row_append (take i l) (get_or l i d ∷ []), append-nil)

  -- reading what was written
  pub dec_row_lem : (l : List A) (more : List ℕ) → AllFit l → dec_row (length l) (enc_row l ++ more) ≡ l
  dec_row_lem [] more no_more = refl
  dec_row_lem (a ∷ l) more (one_more f fs) =
      rw (
        append_assoc (C.enc a) (enc_row l) more,
        C.dec_enc a (enc_row l ++ more) f,
        drop_at (C.enc a) (enc_row l ++ more) C.w (C.enc_length a),
        dec_row_lem l more fs,
      )

  -- writing what was read
  pub enc_row_lem : (n : ℕ) (s : List ℕ) → Bytes s → n * C.w ≤ length s → enc_row (dec_row n s) ≡ take (n * C.w) s
  enc_row_lem zero s b h = rw zero-mul
  enc_row_lem (suc n) s b h =
      let e : suc n * C.w ≡ C.w + n * C.w = suc-mul n C.w ∙ add_comm (n * C.w) C.w in
      let k : C.w + n * C.w ≤ length s = rw e at h in
      rw (e, take-add, C.enc_dec s b (omega arith), enc_row_lem n (drop C.w s) (bytes_drop C.w s b) (rw length-drop (omega arith)))

  pub row_read_length : (n : ℕ) (s : List ℕ) → length (dec_row n s) ≡ n
  row_read_length zero s = refl
  row_read_length (suc n) s = ap suc (row_read_length n (drop C.w s))

  read_suc : (n : ℕ) (s : List ℕ) → dec_row (suc n) s ≡ dec_row n s ++ (C.dec (drop (n * C.w) s) ∷ [])
  read_suc zero s = rw zero-mul
  read_suc (suc n) s =
      ap (λ (r : List A). C.dec s ∷ r) (read_suc n (drop C.w s))
      ∙ rw (drop-drop, suc-mul, add_comm C.w (n * C.w))

  -- one element more that is read
  pub read_step : (n : ℕ) (s : List ℕ) → dec_row (n + 1) s ≡ dec_row n s ++ (C.dec (drop (n * C.w) s) ∷ [])
  read_step n s = rw add-one (read_suc n s)

-- a number of w + 1 bytes, then one byte: stamps and ballots are of this form
module _ (w : ℕ) where
  abbrev pub pair_bytes : ℕ → ℕ → List ℕ
  pair_bytes n b = big_end (suc w) n ++ (b ∷ [])

  pub pair_length : (n b : ℕ) → length (pair_bytes n b) ≡ suc (suc w)
  pair_length n b = length-append (big_end (suc w) n) (b ∷ []) ∙ rw (big_end_length (suc w) n) (omega arith)

  pub pair_number : (n b : ℕ) (more : List ℕ) → n < 256 ^ suc w → number w (pair_bytes n b ++ more) ≡ n
  pair_number n b more h = rw (append_assoc (big_end (suc w) n) (b ∷ []) more) (number_big_end w n ((b ∷ []) ++ more) h)

  pub pair_byte : (n b : ℕ) (more : List ℕ) → get_or (pair_bytes n b ++ more) (suc w) 0 ≡ b
  pair_byte n b more = rw (append_assoc (big_end (suc w) n) (b ∷ []) more) (get_or_at (big_end (suc w) n) b more 0 (suc w) (big_end_length (suc w) n))

  pub pair_again : (s : List ℕ) → Bytes s → suc (suc w) ≤ length s → pair_bytes (number w s) (get_or s (suc w) 0) ≡ take (suc (suc w)) s
  pair_again s b h = rw (big_end_number w s b (omega arith)) (sym (take-suc s (suc w) 0 h))
