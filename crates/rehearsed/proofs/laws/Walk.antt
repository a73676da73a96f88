-- The bytes of records one behind the other: where each begins, which bytes it has, and to whom it is addressed.
-- A walk by the kinds' lengths meets every record at its place, and ends behind the last.
use Prim.Native.Nat.{ℕ, zero, suc, ◌+◌, ◌≤◌, ◌<◌}
use mathlib.Core.Bool.{true, false}
use mathlib.Core.List.{List, [], ◌∷◌, ◌++◌, append_assoc}
use mathlib.Core.Logic.{◌⊎◌, inl, inr, ⊎_elim}
use mathlib.Core.Path.{◌≡◌, refl, sym, ap, ◌∙◌}
use native.Mathlib.Nat.{eq-or-lt_of_le}
use native.Mathlib.Omega.{arith}
use lib.ListN.{length, get_or, take, drop, length-append}
use lib.Seq.{take-suc, split_at, take_at, drop_at, take_all, get_or-append-add}
use lib.Dec.{ltb}
use borrow.Author.Tests.{ltb-true, ltb-false, lt-ltb, le-ltb}
use Rattle.laws.proofs.laws.Choice.{pick_true, pick_false, look}
use Rattle.laws.specs.Place.{In}
use Rattle.laws.proofs.laws.Place.{at_get_d_lem}
use Rattle.house.specs.Plan.{plan_sound}
use Rattle.house.specs.declared.Plan.{Plan}
use Rattle.records.specs.Rec.{Rec, unknown, carried, addressee_of}
use Rattle.records.specs.Bytes.{head_bytes, encode, encode_all, length_of}
use Rattle.records.specs.declared.Record.{Record}
use Rattle.records.proofs.laws.Bytes.{encode_append, encode_none}
use Rattle.records.proofs.laws.Lengths.{Arrays, encode_length}
use Rattle.records.proofs.laws.Shapes.{ballots_inside}
use Rattle.post.specs.Posting.{length_at, next_start, start_of, bytes_from, to_box}

-- ---- records one behind the other

all_one : (P : Plan) (r : Rec) (l : List Rec) → encode_all P (r ∷ l) ≡ encode P (carried r) ++ encode_all P l
unfolding encode_all
all_one P r l = refl

-- the records before place k, record k, the others
all_split : (P : Plan) (l : List Rec) (k : ℕ) → k < length l
    → encode_all P l ≡ encode_all P (take k l) ++ (encode P (carried (get_or l k unknown)) ++ encode_all P (drop (suc k) l))
all_split P l k h =
    ap (encode_all P) (split_at l k unknown h) ∙ encode_append P (take k l) (get_or l k unknown ∷ drop (suc k) l)
    ∙ ap (λ (x : List ℕ). encode_all P (take k l) ++ x) (all_one P (get_or l k unknown) (drop (suc k) l))

-- the bytes up to the end of record k
all_next : (P : Plan) (l : List Rec) (k : ℕ) → k < length l
    → length (encode_all P (take (suc k) l)) ≡ length (encode_all P (take k l)) + length (encode P (carried (get_or l k unknown)))
unfolding encode_all
all_next P l k h =
    ap (λ (x : List Rec). length (encode_all P x)) (take-suc l k unknown h)
    ∙ ap (length) (encode_append P (take k l) (get_or l k unknown ∷ []))
    ∙ length-append (encode_all P (take k l)) (encode_all P (get_or l k unknown ∷ []))
    ∙ ap (λ (x : ℕ). length (encode_all P (take k l)) + x) (length-append (encode P (carried (get_or l k unknown))) [] ∙ omega arith)

-- the first bytes of a record, whatever stands behind it
kind_byte : (P : Plan) (r : Record) (more : List ℕ) → get_or (encode P r ++ more) 1 0 ≡ r.kind
unfolding encode head_bytes
kind_byte P r more = refl

to_byte : (P : Plan) (r : Record) (more : List ℕ) → get_or (encode P r ++ more) 3 0 ≡ r.to.0
unfolding encode head_bytes
to_byte P r more = refl

-- ---- the walk

module _ (P : Plan) (l : List Rec) (rest : List ℕ) (sound : plan_sound P ≡ true) (sized : (m : Rec) → In m l → Arrays (carried m)) where
  abbrev bytes : List ℕ
  bytes = encode_all P l ++ rest

  abbrev used : ℕ
  used = length (encode_all P l)

  abbrev before : ℕ → ℕ
  before k = length (encode_all P (take k l))

  abbrev rec : ℕ → Record
  rec k = carried (get_or l k unknown)

  long : (k : ℕ) → k < length l → length (encode P (rec k)) ≡ length_of P (rec k).kind
  long k h = encode_length P (rec k) sound (sized (get_or l k unknown) (record { place = k; there = at_get_d_lem l k unknown h }))

  some : (k : ℕ) → k < length l → 1 ≤ length (encode P (rec k))
  some k h = let e = long k h in let b = ballots_inside P (rec k).kind in omega arith

  -- what stands before record k, and from it on
  behind : ℕ → List ℕ
  behind k = encode_all P (drop (suc k) l) ++ rest

  split : (k : ℕ) → k < length l → bytes ≡ encode_all P (take k l) ++ (encode P (rec k) ++ behind k)
  unfolding behind
  split k h =
      ap (λ (x : List ℕ). x ++ rest) (all_split P l k h)
      ∙ append_assoc (encode_all P (take k l)) (encode P (rec k) ++ encode_all P (drop (suc k) l)) rest
      ∙ ap (λ (x : List ℕ). encode_all P (take k l) ++ x) (append_assoc (encode P (rec k)) (encode_all P (drop (suc k) l)) rest)

  byte_at : (k i : ℕ) → k < length l → get_or bytes (before k + i) 0 ≡ get_or (encode P (rec k) ++ behind k) i 0
  byte_at k i h = ap (λ (x : List ℕ). get_or x (before k + i) 0) (split k h) ∙ get_or-append-add (encode_all P (take k l)) (encode P (rec k) ++ behind k) i 0

  length_at_lem : (k : ℕ) → k < length l → length_at P bytes (before k) ≡ length (encode P (rec k))
  unfolding length_at
  length_at_lem k h = ap (length_of P) (byte_at k 1 h ∙ kind_byte P (rec k) (behind k)) ∙ sym (long k h)

  before_next : (k : ℕ) → k < length l → before (suc k) ≡ before k + length (encode P (rec k))
  before_next k h = all_next P l k h

  -- a record begins inside
  before_low : (k : ℕ) → k < length l → before k < used
  before_low k h =
      let e = ap (length) (all_split P l k h) ∙ length-append (encode_all P (take k l)) (encode P (rec k) ++ encode_all P (drop (suc k) l)) in
      let f = length-append (encode P (rec k)) (encode_all P (drop (suc k) l)) in
      let s = some k h in
      omega arith

  -- record k begins where those before it end
  pub begins : (k : ℕ) → k ≤ length l → start_of P bytes used k ≡ before k
  unfolding start_of next_start
  begins zero h = ap (length) (sym (encode_none P))
  begins (suc k) h =
      let e = begins k (omega arith) in
      ap (next_start P bytes used) e
      ∙ pick_true (before k + length_at P bytes (before k)) (before k) (lt-ltb (before k) used (before_low k (omega arith)))
      ∙ ap (λ (x : ℕ). before k + x) (length_at_lem k (omega arith)) ∙ sym (before_next k (omega arith))

  -- behind the last record the walk stands
  at_end : (k : ℕ) → length l ≡ k → start_of P bytes used k ≡ used
  at_end k e = begins k (omega arith) ∙ ap (λ (x : List Rec). length (encode_all P x)) (take_all k l (omega arith))

  pub ends : (k : ℕ) → length l ≤ k → start_of P bytes used k ≡ used
  unfolding start_of next_start
  ends zero h = at_end zero (omega arith)
  ends (suc k) h =
      ⊎_elim (λ (e : length l ≡ suc k). at_end (suc k) e)
      (λ (g : length l < suc k).
      ap (next_start P bytes used) (ends k (omega arith)) ∙ pick_false (used + length_at P bytes used) used (le-ltb used used (omega arith)))
      (eq-or-lt_of_le {n = length l} {m = suc k} h)

  pub start_low : (k : ℕ) → k < length l → start_of P bytes used k < used
  start_low k h = rw (begins k (omega arith)) (before_low k h)

  pub to_is : (k : ℕ) → k < length l → to_box bytes (start_of P bytes used k) ≡ (addressee_of (get_or l k unknown)).0
  unfolding to_box addressee_of
  to_is k h = rw (begins k (omega arith)) (byte_at k 3 h ∙ to_byte P (rec k) (behind k))

  pub bytes_are : (k : ℕ) → k < length l → bytes_from P bytes (start_of P bytes used k) ≡ encode P (rec k)
  unfolding bytes_from
  bytes_are k h =
      rw (begins k (omega arith), length_at_lem k h, split k h, drop_at (encode_all P (take k l)) (encode P (rec k) ++ behind k) (before k) refl)
      (take_at (encode P (rec k)) (behind k) (length (encode P (rec k))) refl)

  -- a number of the walk is inside just for the records' numbers
  pub inside : (k : ℕ) → ltb (start_of P bytes used k) used ≡ ltb k (length l)
  inside k = go (look (ltb k (length l)))
    where
      go : (ltb k (length l) ≡ true) ⊎ (ltb k (length l) ≡ false) → ltb (start_of P bytes used k) used ≡ ltb k (length l)
      go (inl e) = rw e (lt-ltb (start_of P bytes used k) used (start_low k (ltb-true k (length l) e)))
      go (inr e) = let s = ends k (ltb-false k (length l) e) in rw e (le-ltb (start_of P bytes used k) used (omega arith))
