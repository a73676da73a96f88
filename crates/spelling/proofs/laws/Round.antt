-- Reading what was written gives the record back; writing what was read gives the bytes back. For any kind at once.
use Prim.Native.Nat.{ℕ, ◌+◌, ◌-◌, ◌*◌, ◌≤◌}
use mathlib.Core.Bool.{true}
use mathlib.Core.List.{List, [], ◌∷◌, ◌++◌, append_assoc, append-nil}
use mathlib.Core.Path.{◌≡◌, refl, sym, ap, ◌∙◌}
use native.Mathlib.Omega.{arith}
use lib.ListN.{length, take, drop, get_or, replicate}
use lib.Seq.{take_all, take-add, take_at, drop_at, drop-drop, get_or-drop}
use Rattle.laws.specs.Codec.{enc_row, dec_row, row_read_length}
use Rattle.laws.specs.Number.{Bytes}
use Rattle.house.specs.Limits.{most_districts, most_jobs}
use Rattle.house.specs.Pairs.{no_stamp, no_ballot, no_row}
use Rattle.house.specs.Plan.{plan_sound}
use Rattle.house.specs.declared.Plan.{Plan}
use Rattle.records.specs.Format.{ballots_in, stamps_in, rows_in}
use Rattle.records.specs.Fields.{ballots, stamps, rows}
use Rattle.records.specs.Rules.{valid}
use Rattle.records.specs.Bytes.{head_bytes, ballot_bytes, stamp_bytes, row_bytes, encode, stamps_at, rows_at, length_of, shaped, parse}
use Rattle.records.proofs.laws.Table.{ballots_most, stamps_most, rows_most}
use Rattle.records.specs.declared.Record.{Record}
use Rattle.records.proofs.laws.Sections.{section_read, section_again, fit_front}
use Rattle.records.proofs.laws.Lengths.{Arrays, ballots_here, stamps_here, rows_here, before_stamps, before_rows, encode_length}
use Rattle.records.proofs.laws.Shapes.{Shape, shape_says, shape_is, ballots_inside, stamps_inside, rows_inside}
use Rattle.records.proofs.laws.Obeys.{Valid, valid_parts}
use Rattle.records.proofs.laws.Structs.{Behind, behind, front_split}
use Rattle.spelling.proofs.laws.Fits.{FitAt, rules_fit}

-- the byte at a place is the first of what lies from there on
first_of : (s : List ℕ) (n : ℕ) → get_or s n 0 ≡ get_or (drop n s) 0 0
first_of s n = let e : n + 0 ≡ n = omega arith in ap (λ (i : ℕ). get_or s i 0) (sym e) ∙ sym (get_or-drop n s 0 0)

module _ (P : Plan) (r : Record) (sound : plan_sound P ≡ true) (A : Arrays r) (v : valid P r ≡ true) where
  parts : Valid P r
  parts = valid_parts P r v

  -- nothing stands behind the sections
  spares : Behind P r r.kind
  spares = behind P r A parts.behind

  fit : FitAt P r r.kind
  fit = rules_fit P r parts.is_known parts.obeys

  -- each section is read back
  ballots_back : (more : List ℕ)
      → dec_row ballots (ballots_in P r.kind) (enc_row ballots (take (ballots_in P r.kind) r.ballots) ++ more) ++ replicate
      (most_districts - ballots_in P r.kind) no_ballot ≡ r.ballots
  unfolding ballots
  ballots_back more =
      let n = ballots_in P r.kind in let h = ballots_here P r sound A in
      rw (section_read ballots r.ballots n more h (fit_front ballots no_ballot r.ballots n h fit.ballots_fit))
      (sym (front_split spares.ballots (ballots_most P r.kind sound)))

  stamps_back : (more : List ℕ)
      → dec_row stamps (stamps_in r.kind) (enc_row stamps (take (stamps_in r.kind) r.stamps) ++ more) ++ replicate (2 - stamps_in r.kind) no_stamp ≡ r.stamps
  unfolding stamps
  stamps_back more =
      let n = stamps_in r.kind in let h = stamps_here P r sound A in
      rw (section_read stamps r.stamps n more h (fit_front stamps no_stamp r.stamps n h fit.stamps_fit))
      (sym (front_split spares.stamps (stamps_most r.kind)))

  rows_back : (more : List ℕ)
      → dec_row rows (rows_in P r.kind) (enc_row rows (take (rows_in P r.kind) r.table) ++ more) ++ replicate (most_jobs - rows_in P r.kind) no_row ≡ r.table
  unfolding rows
  rows_back more =
      let n = rows_in P r.kind in let h = rows_here P r sound A in
      rw (section_read rows r.table n more h (fit_front rows no_row r.table n h fit.table_fits))
      (sym (front_split spares.rows (rows_most P r.kind sound)))

  -- where the sections lie in the bytes
  at_ballots : drop 6 (encode P r) ≡ enc_row ballots (take (ballots_in P r.kind) r.ballots) ++ (stamp_bytes r ++ row_bytes P r)
  unfolding encode head_bytes ballot_bytes
  at_ballots = append_assoc (enc_row ballots (take (ballots_in P r.kind) r.ballots)) (stamp_bytes r) (row_bytes P r)

  at_stamps : drop (stamps_at P r.kind) (encode P r) ≡ stamp_bytes r ++ row_bytes P r
  unfolding encode
  at_stamps =
      rw (append_assoc (head_bytes r ++ ballot_bytes P r) (stamp_bytes r) (row_bytes P r))
      (drop_at (head_bytes r ++ ballot_bytes P r) (stamp_bytes r ++ row_bytes P r) (stamps_at P r.kind) (before_stamps P r sound A))

  at_rows : drop (rows_at P r.kind) (encode P r) ≡ row_bytes P r
  unfolding encode
  at_rows = drop_at ((head_bytes r ++ ballot_bytes P r) ++ stamp_bytes r) (row_bytes P r) (rows_at P r.kind) (before_rows P r sound A)

  behind_stamps : drop (stamps_at P r.kind + 1) (encode P r) ≡ enc_row stamps (take (stamps_in r.kind) r.stamps) ++ row_bytes P r
  unfolding stamp_bytes
  behind_stamps = sym (drop-drop 1 (stamps_at P r.kind) (encode P r)) ∙ ap (drop 1) at_stamps

  behind_rows : drop (rows_at P r.kind + 1) (encode P r) ≡ enc_row rows (take (rows_in P r.kind) r.table)
  unfolding row_bytes
  behind_rows = sym (drop-drop 1 (rows_at P r.kind) (encode P r)) ∙ ap (drop 1) at_rows

  -- the counts of the later sections
  stamps_count : get_or (encode P r) (stamps_at P r.kind) 0 ≡ stamps_in r.kind
  unfolding stamp_bytes
  stamps_count = first_of (encode P r) (stamps_at P r.kind) ∙ ap (λ (l : List ℕ). get_or l 0 0) at_stamps

  rows_count : get_or (encode P r) (rows_at P r.kind) 0 ≡ rows_in P r.kind
  unfolding row_bytes
  rows_count = first_of (encode P r) (rows_at P r.kind) ∙ ap (λ (l : List ℕ). get_or l 0 0) at_rows

  -- the first bytes
  kind_at : get_or (encode P r) 1 0 ≡ r.kind
  unfolding encode head_bytes
  kind_at = refl

  from_at : get_or (encode P r) 2 0 ≡ r.from.0
  unfolding encode head_bytes
  from_at = refl

  to_at : get_or (encode P r) 3 0 ≡ r.to.0
  unfolding encode head_bytes
  to_at = refl

  job_at : get_or (encode P r) 4 0 ≡ r.job
  unfolding encode head_bytes
  job_at = refl

  four_at : get_or (encode P r) 0 0 ≡ 4
  unfolding encode head_bytes
  four_at = refl

  count_at : get_or (encode P r) 5 0 ≡ ballots_in P r.kind
  unfolding encode head_bytes ballot_bytes
  count_at = refl

  -- reading what was written
  pub parse_encode : parse P (encode P r) ≡ r
  unfolding parse
  parse_encode =
      let t = rw append-nil at (rows_back []) in
      rw (
        kind_at,
        from_at,
        to_at,
        job_at,
        at_ballots,
        behind_stamps,
        behind_rows,
        ballots_back (stamp_bytes r
            ++ row_bytes P r),
        stamps_back (row_bytes P r),
        t,
      )

  pub encode_shaped : shaped P (encode P r) ≡ true
  encode_shaped = shape_is P (encode P r) (rw kind_at here)
    where
      l : length (encode P r) ≡ length_of P r.kind
      l = encode_length P r sound A

      here : Shape P (encode P r) r.kind
      here =
          record {
            some = omega (arith, l, ballots_inside P r.kind);
            is_known = parts.is_known;
            whole = l;
            four = four_at;
            ballots = count_at;
            stamps = stamps_count;
            rows = rows_count;
          }

-- the first five bytes
first_five : (s : List ℕ) → 5 ≤ length s → get_or s 0 0 ∷ get_or s 1 0 ∷ get_or s 2 0 ∷ get_or s 3 0 ∷ get_or s 4 0 ∷ [] ≡ take 5 s
first_five [] h = absurd (omega arith)
first_five (a ∷ []) h = absurd (omega arith)
first_five (a ∷ b ∷ []) h = absurd (omega arith)
first_five (a ∷ b ∷ c ∷ []) h = absurd (omega arith)
first_five (a ∷ b ∷ c ∷ d ∷ []) h = absurd (omega arith)
first_five (a ∷ b ∷ c ∷ d ∷ e ∷ s) h = refl

-- two fronts are one
fronts : (s : List ℕ) (n m t : ℕ) → n + m ≡ t → take n s ++ take m (drop n s) ≡ take t s
fronts s n m t e = sym (take-add n m s) ∙ ap (λ (k : ℕ). take k s) e

-- where the sections begin
at_stamps_place : (P : Plan) (k : ℕ) → 5 + (1 + ballots_in P k * 3) ≡ stamps_at P k
unfolding stamps_at
at_stamps_place P k = omega arith

at_rows_place : (P : Plan) (k : ℕ) → stamps_at P k + (1 + stamps_in k * 5) ≡ rows_at P k
unfolding rows_at
at_rows_place P k = omega arith

at_end_place : (P : Plan) (k : ℕ) → rows_at P k + (1 + rows_in P k * 11) ≡ length_of P k
unfolding length_of
at_end_place P k = omega arith

module _ (P : Plan) (s : List ℕ) (b : Bytes s) (h : shaped P s ≡ true) where
  shape : Shape P s (get_or s 1 0)
  shape = shape_says P s h

  -- each section is written again
  head_again : head_bytes (parse P s) ≡ take 5 s
  unfolding head_bytes parse
  head_again =
      ap (λ (x : ℕ). x ∷ get_or s 1 0 ∷ get_or s 2 0 ∷ get_or s 3 0 ∷ get_or s 4 0 ∷ []) (sym shape.four) ∙ first_five s (omega (arith, shape.some))

  ballots_again : ballot_bytes P (parse P s) ≡ take (1 + ballots_in P (get_or s 1 0) * 3) (drop 5 s)
  unfolding ballot_bytes parse ballots
  ballots_again =
      let k = get_or s 1 0 in let n = ballots_in P k in
      rw (take_at (dec_row ballots n (drop 6 s)) (replicate (most_districts - n) no_ballot) n (row_read_length ballots n (drop 6 s)))
      (section_again ballots s n 5 b (omega (arith, shape.whole, ballots_inside P k)) shape.ballots)

  stamps_again : stamp_bytes (parse P s) ≡ take (1 + stamps_in (get_or s 1 0) * 5) (drop (stamps_at P (get_or s 1 0)) s)
  unfolding stamp_bytes parse stamps
  stamps_again =
      let k = get_or s 1 0 in let n = stamps_in k in let p = stamps_at P k in
      rw (take_at (dec_row stamps n (drop (p + 1) s)) (replicate (2 - n) no_stamp) n (row_read_length stamps n (drop (p + 1) s)))
      (section_again stamps s n p b (omega (arith, shape.whole, stamps_inside P k)) shape.stamps)

  rows_again : row_bytes P (parse P s) ≡ take (1 + rows_in P (get_or s 1 0) * 11) (drop (rows_at P (get_or s 1 0)) s)
  unfolding row_bytes parse rows
  rows_again =
      let k = get_or s 1 0 in let n = rows_in P k in let p = rows_at P k in
      rw (take_at (dec_row rows n (drop (p + 1) s)) (replicate (most_jobs - n) no_row) n (row_read_length rows n (drop (p + 1) s)))
      (section_again rows s n p b (omega (arith, shape.whole, rows_inside P k)) shape.rows)

  -- writing what was read
  pub encode_parse : encode P (parse P s) ≡ s
  unfolding encode
  encode_parse =
      let k = get_or s 1 0 in
      rw (
        head_again,
        ballots_again,
        stamps_again,
        rows_again,
        fronts s 5 (1 + ballots_in P k * 3) (stamps_at P k) to_stamps,
        fronts s (stamps_at P k) (1 + stamps_in k * 5) (rows_at P k) to_rows,
        fronts s (rows_at P k) (1 + rows_in P k * 11) (length_of P k) to_end,
      )
      (take_all (length_of P k) s (omega (arith, shape.whole)))
    where
      to_stamps : 5 + (1 + ballots_in P (get_or s 1 0) * 3) ≡ stamps_at P (get_or s 1 0)
      to_stamps = at_stamps_place P (get_or s 1 0)

      to_rows : stamps_at P (get_or s 1 0) + (1 + stamps_in (get_or s 1 0) * 5) ≡ rows_at P (get_or s 1 0)
      to_rows = at_rows_place P (get_or s 1 0)

      to_end : rows_at P (get_or s 1 0) + (1 + rows_in P (get_or s 1 0) * 11) ≡ length_of P (get_or s 1 0)
      to_end = at_end_place P (get_or s 1 0)
