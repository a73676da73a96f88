-- A section read part by part into an array: none at first, then one part more each turn, for any codec.
use Prim.Native.Nat.{ℕ, ◌+◌, ◌-◌, ◌*◌, ◌<◌, ◌≤◌}
use mathlib.Core.List.{List, ◌++◌}
use mathlib.Core.Path.{◌≡◌, ap, ◌∙◌}
use native.Mathlib.Nat.{sub-zero}
use native.Mathlib.Omega.{arith}
use lib.ListN.{length, take, drop, set, replicate}
use Rattle.laws.specs.Codec.{Codec, dec_row, read_step, row_read_length}
use Rattle.laws.proofs.laws.Codec.{fill_step}
use Rattle.laws.proofs.laws.Tray.{rest_of}

-- of n elements in the bytes s, i stand in the array of m places, and none behind them
pub record Taken {A : Type 0} (C : Codec A) (m : ℕ) (d : A) (s : List ℕ) (n : ℕ) (out : List A) (i : ℕ) : Type 0 where
  pub upto : i ≤ n
  pub room : n ≤ m
  pub filled : out ≡ dec_row C i s ++ replicate (m - i) d

module _ {A : Type 0} {C : Codec A} {m n : ℕ} {d : A} {s : List ℕ} where
  -- an array of none
  pub taken_none : {none : A} → n ≤ m → none ≡ d → Taken C m d s n (replicate m none) 0
  taken_none h e = record { upto = omega arith; room = h; filled = rw sub-zero (ap (replicate m) e) }

  -- one part more
  pub taken_turn : {w i : ℕ} {out : List A} {e : A} → C.w ≡ w → i < n → Taken C m d s n out i
      → e ≡ C.dec (take (length s - i * w) (drop (i * w) s)) → Taken C m d s n (set out i e) (i + 1)
  taken_turn {w} {i} {out} {e} v h t q =
      record {
        upto = omega arith;
        room = t.room;
        filled =
            rw (t.filled, q, rest_of (i * w) s, ← v)
            (fill_step (dec_row C i s) m i d (C.dec (drop (i * C.w) s)) (row_read_length C i s) (omega (arith, t.room)) ∙ rw (read_step C i s));
      }

  -- all parts
  pub taken_all : {out : List A} {i : ℕ} → n ≤ i → Taken C m d s n out i → out ≡ dec_row C n s ++ replicate (m - n) d
  taken_all {out} {i} h t = let e : i ≡ n = omega arith in t.filled ∙ rw e
