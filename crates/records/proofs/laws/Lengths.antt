-- How long a record's bytes are: the length of its kind, for any struct with the arrays of the code.
use Prim.Native.Nat.{ℕ, ◌+◌, ◌*◌, ◌≤◌, ◌-◌}
use mathlib.Core.Bool.{true}
use mathlib.Core.List.{List, ◌++◌, map}
use mathlib.Core.Path.{◌≡◌, sym, ◌∙◌}
use native.Mathlib.Omega.{arith}
use lib.ListN.{length, length-append, length-map, get_or, drop, replicate, length-replicate}
use Rattle.laws.specs.Codec.{dec_row, row_read_length}
use Rattle.house.specs.Limits.{most_districts, most_jobs, least_tray}
use Rattle.house.specs.Plan.{plan_sound}
use Rattle.house.specs.declared.Plan.{Plan}
use Rattle.house.specs.Pairs.{no_ballot, no_stamp, no_row}
use Rattle.records.specs.Format.{ballots_in, stamps_in, rows_in}
use Rattle.records.specs.Fields.{ballots, stamps, rows}
use Rattle.records.specs.Bytes.{head_bytes, ballot_bytes, stamp_bytes, row_bytes, encode, stamps_at, rows_at, length_of, parse}
use Rattle.records.proofs.laws.Table.{ballots_most, stamps_most, rows_most, most_record, length_most}
use Rattle.records.specs.declared.Record.{Record}
use Rattle.records.proofs.laws.Sections.{section_length}

-- the length of an array from that of its image, which is how the code knows it
pub unmapped : {X Y : Type 0} (f : X → Y) (l : List X) (n : ℕ) → length (map f l) ≡ n → length l ≡ n
unmapped f l n e = sym (length-map l f) ∙ e

-- the lengths of a record's arrays, which every struct of the code has
pub record Arrays (r : Record) : Type 0 where
  pub ballots : length r.ballots ≡ most_districts
  pub stamps : length r.stamps ≡ 2
  pub table : length r.table ≡ most_jobs

module _ (P : Plan) (r : Record) (sound : plan_sound P ≡ true) (A : Arrays r) where
  pub ballots_here : ballots_in P r.kind ≤ length r.ballots
  ballots_here = rw A.ballots (ballots_most P r.kind sound)

  pub stamps_here : stamps_in r.kind ≤ length r.stamps
  stamps_here = rw A.stamps (stamps_most r.kind)

  pub rows_here : rows_in P r.kind ≤ length r.table
  rows_here = rw A.table (rows_most P r.kind sound)

  pub ballot_bytes_length : length (ballot_bytes P r) ≡ 1 + ballots_in P r.kind * 3
  unfolding ballot_bytes ballots
  ballot_bytes_length = section_length ballots r.ballots (ballots_in P r.kind) (ballots_in P r.kind) ballots_here

  pub stamp_bytes_length : length (stamp_bytes r) ≡ 1 + stamps_in r.kind * 5
  unfolding stamp_bytes stamps
  stamp_bytes_length = section_length stamps r.stamps (stamps_in r.kind) (stamps_in r.kind) stamps_here

  pub row_bytes_length : length (row_bytes P r) ≡ 1 + rows_in P r.kind * 11
  unfolding row_bytes rows
  row_bytes_length = section_length rows r.table (rows_in P r.kind) (rows_in P r.kind) rows_here

  -- where the count of the stamps stands, and that of the rows
  pub before_stamps : length (head_bytes r ++ ballot_bytes P r) ≡ stamps_at P r.kind
  unfolding head_bytes stamps_at
  before_stamps = length-append (head_bytes r) (ballot_bytes P r) ∙ rw ballot_bytes_length (omega arith)

  pub before_rows : length ((head_bytes r ++ ballot_bytes P r) ++ stamp_bytes r) ≡ rows_at P r.kind
  unfolding rows_at
  before_rows = length-append (head_bytes r ++ ballot_bytes P r) (stamp_bytes r) ∙ rw (before_stamps, stamp_bytes_length) (omega arith)

  pub encode_length : length (encode P r) ≡ length_of P r.kind
  unfolding encode length_of
  encode_length = length-append ((head_bytes r ++ ballot_bytes P r) ++ stamp_bytes r) (row_bytes P r) ∙ rw (before_rows, row_bytes_length) (omega arith)

  -- no record has more than 723 bytes, so each fits a tray
  pub encode_most : length (encode P r) ≤ most_record
  encode_most = rw encode_length (length_most P r.kind sound)

  pub encode_fits : length (encode P r) ≤ least_tray
  encode_fits = omega (arith, encode_most)

-- what is read has the arrays of the code
pub parse_arrays : (P : Plan) (s : List ℕ) → plan_sound P ≡ true → Arrays (parse P s)
unfolding parse
parse_arrays P s sound =
    let k = get_or s 1 0 in
    let b = ballots_most P k sound in let n = stamps_most k in let t = rows_most P k sound in
    record {
      ballots =
          length-append (dec_row ballots (ballots_in P k) (drop 6 s)) (replicate (most_districts - ballots_in P k) no_ballot)
          ∙ rw (row_read_length, length-replicate) (omega arith);
      stamps =
          length-append (dec_row stamps (stamps_in k) (drop (stamps_at P k + 1) s)) (replicate (2 - stamps_in k) no_stamp)
          ∙ rw (row_read_length, length-replicate) (omega arith);
      table =
          length-append (dec_row rows (rows_in P k) (drop (rows_at P k + 1) s)) (replicate (most_jobs - rows_in P k) no_row)
          ∙ rw (row_read_length, length-replicate) (omega arith);
    }
