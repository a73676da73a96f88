-- What the shape test says: the counts of the sections, and that each section lies inside the record.
use Prim.Native.Nat.{ℕ, ◌+◌, ◌*◌, ◌≤◌}
use mathlib.Core.Bool.{true, ◌&&◌}
use mathlib.Core.List.{List}
use mathlib.Core.Path.{◌≡◌}
use native.Mathlib.Omega.{arith}
use lib.ListN.{length, get_or}
use lib.Dec.{leb, eqb}
use borrow.Author.Tests.{leb-true, eqb-true, le-leb, eq-eqb}
use Rattle.laws.proofs.laws.Choice.{and_left, and_right}
use Rattle.house.specs.declared.Plan.{Plan}
use Rattle.records.specs.Format.{known, ballots_in, stamps_in, rows_in}
use Rattle.records.specs.Bytes.{stamps_at, rows_at, length_of, shaped}

module _ (P : Plan) (k : ℕ) where
  -- where each section ends
  pub ballots_inside : 6 + ballots_in P k * 3 ≤ length_of P k
  unfolding length_of rows_at stamps_at
  ballots_inside = omega arith

  pub stamps_inside : stamps_at P k + 1 + stamps_in k * 5 ≤ length_of P k
  unfolding length_of rows_at
  stamps_inside = omega arith

  pub rows_inside : rows_at P k + 1 + rows_in P k * 11 ≤ length_of P k
  unfolding length_of
  rows_inside = omega arith

-- the bytes of a record of kind k, which stands at place 1
pub record Shape (P : Plan) (s : List ℕ) (k : ℕ) : Type 0 where
  pub some : 6 ≤ length s
  pub is_known : known k ≡ true
  pub whole : length s ≡ length_of P k
  pub four : get_or s 0 0 ≡ 4
  pub ballots : get_or s 5 0 ≡ ballots_in P k
  pub stamps : get_or s (stamps_at P k) 0 ≡ stamps_in k
  pub rows : get_or s (rows_at P k) 0 ≡ rows_in P k

pub shape_says : (P : Plan) (s : List ℕ) → shaped P s ≡ true → Shape P s (get_or s 1 0)
unfolding shaped
shape_says P s h =
    let k = get_or s 1 0 in
    let t₆ = eqb (get_or s (rows_at P k) 0) (rows_in P k) in
    let t₅ = eqb (get_or s (stamps_at P k) 0) (stamps_in k) && t₆ in
    let t₄ = eqb (get_or s 5 0) (ballots_in P k) && t₅ in
    let t₃ = eqb (get_or s 0 0) 4 && t₄ in
    let t₂ = eqb (length s) (length_of P k) && t₃ in
    let t₁ = known k && t₂ in
    let h₁ = and_right (leb 6 (length s)) t₁ h in
    let h₂ = and_right (known k) t₂ h₁ in
    let h₃ = and_right (eqb (length s) (length_of P k)) t₃ h₂ in
    let h₄ = and_right (eqb (get_or s 0 0) 4) t₄ h₃ in
    let h₅ = and_right (eqb (get_or s 5 0) (ballots_in P k)) t₅ h₄ in
    record {
      some = leb-true 6 (length s) (and_left (leb 6 (length s)) t₁ h);
      is_known = and_left (known k) t₂ h₁;
      whole = eqb-true (length s) (length_of P k) (and_left (eqb (length s) (length_of P k)) t₃ h₂);
      four = eqb-true (get_or s 0 0) 4 (and_left (eqb (get_or s 0 0) 4) t₄ h₃);
      ballots = eqb-true (get_or s 5 0) (ballots_in P k) (and_left (eqb (get_or s 5 0) (ballots_in P k)) t₅ h₄);
      stamps = eqb-true (get_or s (stamps_at P k) 0) (stamps_in k) (and_left (eqb (get_or s (stamps_at P k) 0) (stamps_in k)) t₆ h₅);
      rows = eqb-true (get_or s (rows_at P k) 0) (rows_in P k) (and_right (eqb (get_or s (stamps_at P k) 0) (stamps_in k)) t₆ h₅);
    }

pub shape_is : (P : Plan) (s : List ℕ) → Shape P s (get_or s 1 0) → shaped P s ≡ true
unfolding shaped
shape_is P s S =
    let k = get_or s 1 0 in
    rw (
      le-leb 6 (length s) S.some,
      S.is_known,
      eq-eqb (length s) (length_of P k) S.whole,
      eq-eqb (get_or s 0 0) 4 S.four,
      eq-eqb (get_or s 5 0) (ballots_in P k) S.ballots,
      eq-eqb (get_or s (stamps_at P k) 0) (stamps_in k) S.stamps,
      eq-eqb (get_or s (rows_at P k) 0) (rows_in P k) S.rows,
    )
