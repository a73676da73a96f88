-- A record's bytes by its sections, as the code counts them, and the room that they take.
use Prim.Native.Nat.{ℕ, ◌+◌, ◌≤◌}
use mathlib.Core.Bool.{true}
use mathlib.Core.List.{◌++◌}
use mathlib.Core.Path.{◌≡◌, ap, ◌∙◌}
use lib.ListN.{length, take, length-append}
use lib.Seq.{length-take-le}
use Rattle.house.specs.Plan.{plan_sound}
use Rattle.house.specs.declared.Plan.{Plan}
use Rattle.records.specs.declared.Record.{Record}
use Rattle.records.specs.Format.{ballots_in, stamps_in, rows_in}
use Rattle.records.specs.Fields.{ballots, stamps, rows, section_of}
use Rattle.records.specs.Bytes.{head_bytes, ballot_bytes, stamp_bytes, row_bytes, encode}
use Rattle.records.proofs.laws.Lengths.{Arrays, ballots_here, stamps_here, rows_here}

module _
    (P : Plan) (r : Record) (sound : plan_sound P ≡ true) (four : length r.ballots ≡ 4) (two : length r.stamps ≡ 2) (most : length r.table ≡ 64)
    {nb ns nr : ℕ} (eb : nb ≡ ballots_in P r.kind) (es : ns ≡ stamps_in r.kind) (er : nr ≡ rows_in P r.kind)
  where
    held : Arrays r
    held = record { ballots = four; stamps = two; table = most }

    pub whole : ((head_bytes r ++ section_of ballots (take nb r.ballots)) ++ section_of stamps (take ns r.stamps)) ++ section_of rows (take nr r.table) ≡
        encode P r
    unfolding encode ballot_bytes stamp_bytes row_bytes
    whole =
        rw (
          eb,
          es,
          er,
          length-take-le (ballots_in P r.kind) r.ballots (ballots_here P r sound held),
          length-take-le (stamps_in r.kind) r.stamps (stamps_here P r sound held),
          length-take-le (rows_in P r.kind) r.table (rows_here P r sound held),
        )

    pub room : (n : ℕ) → length (encode P r) ≤ n
        → 5 + length (section_of ballots (take nb r.ballots)) + length (section_of stamps (take ns r.stamps)) + length (section_of rows (take nr r.table)) ≤ n
    unfolding head_bytes
    room n h =
        let B = section_of ballots (take nb r.ballots) in
        let S = section_of stamps (take ns r.stamps) in
        let R = section_of rows (take nr r.table) in
        let e : length (((head_bytes r ++ B) ++ S) ++ R) ≡ length (encode P r) = ap (λ bs. length bs) whole in
        let sums : length (((head_bytes r ++ B) ++ S) ++ R) ≡ 5 + length B + length S + length R =
        length-append ((head_bytes r ++ B) ++ S) R ∙ rw (length-append (head_bytes r ++ B) S, length-append (head_bytes r) B) in
        rw (← sums, e) h
