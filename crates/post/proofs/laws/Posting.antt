-- Laws of what specs/Posting.antt defines.
use Prim.Native.Nat.{ℕ, zero, suc, ◌+◌, ◌-◌, ◌≤◌}
use mathlib.Core.Bool.{true, false}
use mathlib.Core.List.{List, ◌++◌}
use mathlib.Core.Logic.{◌⊎◌, inl, inr}
use mathlib.Core.Path.{◌≡◌, refl, sym, ap, ◌∙◌}
use native.Mathlib.Omega.{arith}
use lib.ListN.{length, take, drop, length-drop, drop_of_length-le}
use lib.Seq.{take_all, take-nil, drop-length}
use lib.Dec.{ltb}
use borrow.Author.Tests.{le-ltb, ltb-false}
use borrow.Rule.Slice.PartMut.{put_mid}
use Rattle.laws.specs.Choice.{pick}
use Rattle.laws.proofs.laws.Choice.{pick_true, pick_false, pick_when, look}
use Rattle.laws.proofs.laws.Fold.{upto_step}
use Rattle.laws.specs.Tray.{onto}
use Rattle.laws.proofs.laws.Tray.{rest_of}
use Rattle.house.specs.Limits.{most_post}
use Rattle.house.specs.declared.Plan.{Plan}
use Rattle.post.specs.Posting.{room_of, length_at, next_start, start_of, walk_from}

pub room_most : (s : List ℕ) → room_of s ≤ length s
unfolding room_of
room_most s = pick_when (λ n. n ≤ length s) (ltb (length s) most_post) (λ h. omega arith) (λ h. ltb-false (length s) most_post h)

-- ---- laws

pub start_none : (P : Plan) (s : List ℕ) (used : ℕ) → start_of P s used 0 ≡ 0
unfolding start_of
start_none P s used = refl

pub start_step : (P : Plan) (s : List ℕ) (used k : ℕ) → next_start P s used (start_of P s used k) ≡ start_of P s used (k + 1)
unfolding start_of
start_step P s used k = upto_step (λ (at i : ℕ). next_start P s used at) 0 k

pub walk_step : (P : Plan) (s : List ℕ) (used from k : ℕ) → next_start P s used (walk_from P s used from k) ≡ walk_from P s used from (k + 1)
walk_step P s used from k = upto_step (λ (at i : ℕ). next_start P s used at) from k

-- so many records on, and then k more
pub walk_more : (P : Plan) (s : List ℕ) (used from i k : ℕ) → walk_from P s used (walk_from P s used from i) k ≡ walk_from P s used from (i + k)
walk_more P s used from i zero = let e : i ≡ i + 0 = omega arith in ap (walk_from P s used from) e
walk_more P s used from i (suc k) =
    let e : (i + k) + 1 ≡ i + suc k = omega arith in
    ap (next_start P s used) (walk_more P s used from i k) ∙ walk_step P s used from (i + k) ∙ ap (walk_from P s used from) e

-- k records on from record i
pub start_more : (P : Plan) (s : List ℕ) (used i k : ℕ) → walk_from P s used (start_of P s used i) k ≡ start_of P s used (i + k)
unfolding start_of
start_more P s used i k = walk_more P s used 0 i k

-- behind the last record the walk stays
pub walk_stays : (P : Plan) (s : List ℕ) (used at k : ℕ) → used ≤ at → walk_from P s used at k ≡ at
unfolding next_start
walk_stays P s used at zero h = refl
walk_stays P s used at (suc k) h = ap (next_start P s used) (walk_stays P s used at k h) ∙ pick_false (at + length_at P s at) at (le-ltb at used h)

-- bytes written behind what is used
pub put_behind : (s bs : List ℕ) (n : ℕ) → put_mid n ((n + length bs) - n) s bs ≡ take n s ++ onto bs (drop n s)
unfolding onto
put_behind s bs n = let e : (n + length bs) - n ≡ length bs = omega arith in rw e

-- the part of a post that holds the record at a place, whichever the place
pub part_from : (s : List ℕ) (at n from end : ℕ) → from ≡ pick (ltb at (length s)) at (length s) → end ≡ pick (ltb (at + n) (length s)) (at + n) (length s)
    → take (end - from) (drop from s) ≡ take n (drop at s)
part_from s at n from end ef ee = go (look (ltb at (length s))) (look (ltb (at + n) (length s)))
  where
    go : (ltb at (length s) ≡ true) ⊎ (ltb at (length s) ≡ false) → (ltb (at + n) (length s) ≡ true) ⊎ (ltb (at + n) (length s) ≡ false)
        → take (end - from) (drop from s) ≡ take n (drop at s)
    go (inl h) (inl k) =
        let f : from ≡ at = ef ∙ pick_true at (length s) h in
        let m : end - from ≡ n = rw (ee ∙ pick_true (at + n) (length s) k, f) (omega arith) in
        rw (m, f)
    go (inl h) (inr k) =
        let f : from ≡ at = ef ∙ pick_true at (length s) h in
        let z : end ≡ length s = ee ∙ pick_false (at + n) (length s) k in
        let l = ltb-false (at + n) (length s) k in
        rw (z, f, rest_of at s) (sym (take_all n (drop at s) (rw length-drop (omega arith))))
    go (inr h) k =
        let f : from ≡ length s = ef ∙ pick_false at (length s) h in
        let l = ltb-false at (length s) h in
        rw (f, drop-length s, drop_of_length-le s {i = at} l, take-nil (end - length s)) (sym (take-nil n))
