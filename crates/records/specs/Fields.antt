-- Ballots in 3 bytes, the box last; stamps in 5, the district last; rows in 11: phase, local, global.
use Rattle.std.specs.Prelude.{ℕ, ◌^◌, ◌<◌, ◌≤◌, List, ◌∷◌, ◌++◌, ◌≡◌, refl, length, take, drop, get_or}
use Rattle.std.proofs.Common.{sym, ◌∙◌, ap, ap₂, arith, length-drop, take-suc, take-add}
use Rattle.laws.specs.Codec.{Codec, enc_row, pair_bytes, pair_length, pair_number, pair_byte, pair_again, bytes_drop}
use Rattle.laws.specs.Number.{number, Bytes}
use Rattle.house.specs.Pairs.{stamp, ballot}
use Rattle.house.specs.declared.Stamp.{Stamp}
use Rattle.house.specs.declared.Ballot.{Ballot}
use Rattle.house.specs.declared.Row.{Row}

abbrev pub ballot_at : List ℕ → Ballot
ballot_at s = ballot (number 1 s) (get_or s 2 0)

unfoldable pub ballots : Codec Ballot
ballots =
    record {
      w = 3;
      enc = λ b. pair_bytes 1 b.number b.owner.0;
      dec = ballot_at;
      Fits = λ b. b.number < 2 ^ 16;
      enc_length = λ b. pair_length 1 b.number b.owner.0;
      dec_enc = λ b more h. rw (pair_number 1 b.number b.owner.0 more h, pair_byte 1 b.number b.owner.0 more);
      enc_dec = λ s b h. pair_again 1 s b h;
    }

abbrev pub stamp_at : List ℕ → Stamp
stamp_at s = stamp (number 3 s) (get_or s 4 0)

unfoldable pub stamps : Codec Stamp
stamps =
    record {
      w = 5;
      enc = λ s. pair_bytes 3 s.time s.district.0;
      dec = stamp_at;
      Fits = λ s. s.time < 2 ^ 32;
      enc_length = λ s. pair_length 3 s.time s.district.0;
      dec_enc = λ s more h. rw (pair_number 3 s.time s.district.0 more h, pair_byte 3 s.time s.district.0 more);
      enc_dec = λ s b h. pair_again 3 s b h;
    }

abbrev pub row_at : List ℕ → Row
row_at s = record { phase = get_or s 0 0; local = stamp_at (drop 1 s); global = stamp_at (drop 6 s) }

abbrev pub row_enc : Row → List ℕ
row_enc r = (r.phase ∷ pair_bytes 3 r.local.time r.local.district.0) ++ pair_bytes 3 r.global.time r.global.district.0

pub row_enc_length : (r : Row) → length (row_enc r) ≡ 11
row_enc_length r = refl

pub row_dec_enc : (r : Row) (more : List ℕ) → (r.local.time < 2 ^ 32) × (r.global.time < 2 ^ 32) → row_at (row_enc r ++ more) ≡ r
unfolding stamps
row_dec_enc r more h =
    λ i. record {
      phase = r.phase;
      local = stamps.dec_enc r.local (pair_bytes 3 r.global.time r.global.district.0 ++ more) h.0 i;
      global = stamps.dec_enc r.global more h.1 i;
    }

pub row_enc_dec : (s : List ℕ) → Bytes s → 11 ≤ length s → row_enc (row_at s) ≡ take 11 s
row_enc_dec s b h =
    let l = pair_again 3 (drop 1 s) (bytes_drop 1 s b) (rw length-drop (omega arith)) in
    let g = pair_again 3 (drop 6 s) (bytes_drop 6 s b) (rw length-drop (omega arith)) in
    ap₂ (λ (x y : List ℕ). (get_or s 0 0 ∷ x) ++ y) l g
    ∙
    sym
    (take-add 6 5 s ∙ ap (λ (x : List ℕ). x ++ take 5 (drop 6 s)) (take-add 1 5 s ∙ ap (λ (x : List ℕ). x ++ take 5 (drop 1 s)) (take-suc s 0 0 (omega arith))))

unfoldable pub rows : Codec Row
rows =
    record {
      w = 11;
      enc = row_enc;
      dec = row_at;
      Fits = λ r. (r.local.time < 2 ^ 32) × (r.global.time < 2 ^ 32);
      enc_length = row_enc_length;
      dec_enc = row_dec_enc;
      enc_dec = row_enc_dec;
    }

-- how many bytes each has
pub ballot_width : ballots.w ≡ 3
unfolding ballots
ballot_width = refl

pub stamp_width : stamps.w ≡ 5
unfolding stamps
stamp_width = refl

pub row_width : rows.w ≡ 11
unfolding rows
row_width = refl

-- a section of a record: its count, and its parts one behind the other
abbrev pub section_of : {A : Type 0} → Codec A → List A → List ℕ
section_of C l = length l ∷ enc_row C l
