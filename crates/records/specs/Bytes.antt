-- The bytes of a record: four sections, each after a one-byte count; and the record that such bytes say.
use Rattle.std.specs.Prelude.{ℕ, ◌+◌, ◌-◌, ◌*◌, Bool, ◌&&◌, List, [], ◌∷◌, ◌++◌, length, take, drop, get_or, replicate, leb, eqb}
use Rattle.laws.specs.Codec.{enc_row, dec_row}
use Rattle.house.specs.Limits.{most_districts, most_jobs}
use Rattle.house.specs.Pairs.{box_no, no_stamp, no_ballot, no_row}
use Rattle.house.specs.declared.Plan.{Plan}
use Rattle.records.specs.Format.{known, ballots_in, stamps_in, rows_in}
use Rattle.records.specs.Fields.{ballots, stamps, rows}
use Rattle.records.specs.Rec.{Rec, carried}
use Rattle.records.specs.declared.Record.{Record}

-- the bytes of a section, after its count
abbrev pub section : ℕ → List ℕ → List ℕ
section n bs = n ∷ bs

-- (1) kind, from, to, job
unfoldable pub head_bytes : Record → List ℕ
head_bytes r = section 4 (r.kind ∷ r.from.0 ∷ r.to.0 ∷ r.job ∷ [])

-- (2) ballots (3) stamps (4) the table
unfoldable pub ballot_bytes : Plan → Record → List ℕ
ballot_bytes P r = section (ballots_in P r.kind) (enc_row ballots (take (ballots_in P r.kind) r.ballots))

unfoldable pub stamp_bytes : Record → List ℕ
stamp_bytes r = section (stamps_in r.kind) (enc_row stamps (take (stamps_in r.kind) r.stamps))

unfoldable pub row_bytes : Plan → Record → List ℕ
row_bytes P r = section (rows_in P r.kind) (enc_row rows (take (rows_in P r.kind) r.table))

unfoldable pub encode : Plan → Record → List ℕ
encode P r = ((head_bytes r ++ ballot_bytes P r) ++ stamp_bytes r) ++ row_bytes P r

-- records one behind the other
unfoldable pub encode_all : Plan → List Rec → List ℕ
encode_all P [] = []
encode_all P (r ∷ l) = encode P (carried r) ++ encode_all P l

-- where the counts of sections 3 and 4 stand, and the length of a record of kind k
unfoldable pub stamps_at : Plan → ℕ → ℕ
stamps_at P k = 6 + ballots_in P k * 3

unfoldable pub rows_at : Plan → ℕ → ℕ
rows_at P k = stamps_at P k + 1 + stamps_in k * 5

unfoldable pub length_of : Plan → ℕ → ℕ
length_of P k = rows_at P k + 1 + rows_in P k * 11

-- a known kind, its section counts, and neither bytes missing nor left over
unfoldable pub shaped : Plan → List ℕ → Bool
shaped P s =
    leb 6 (length s)
    && (known (get_or s 1 0)
    && (eqb (length s) (length_of P (get_or s 1 0))
    && (eqb (get_or s 0 0) 4
    && (eqb (get_or s 5 0) (ballots_in P (get_or s 1 0))
    && (eqb (get_or s (stamps_at P (get_or s 1 0)) 0) (stamps_in (get_or s 1 0))
    && eqb (get_or s (rows_at P (get_or s 1 0)) 0) (rows_in P (get_or s 1 0)))))))

-- the struct of a record's bytes: each section's elements, and none behind them
unfoldable pub parse : Plan → List ℕ → Record
parse P s =
    record {
      kind = get_or s 1 0;
      from = box_no (get_or s 2 0);
      to = box_no (get_or s 3 0);
      job = get_or s 4 0;
      ballots = dec_row ballots (ballots_in P (get_or s 1 0)) (drop 6 s) ++ replicate (most_districts - ballots_in P (get_or s 1 0)) no_ballot;
      stamps = dec_row stamps (stamps_in (get_or s 1 0)) (drop (stamps_at P (get_or s 1 0) + 1) s) ++ replicate (2 - stamps_in (get_or s 1 0)) no_stamp;
      table = dec_row rows (rows_in P (get_or s 1 0)) (drop (rows_at P (get_or s 1 0) + 1) s) ++ replicate (most_jobs - rows_in P (get_or s 1 0)) no_row;
    }
