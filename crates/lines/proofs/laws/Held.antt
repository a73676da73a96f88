-- The line that is coming: what is held of it, one byte more, and the order it makes.
-- `held p` is what is held when the bytes p of a line have come.
use Prim.Native.Nat.{ℕ, ◌+◌, ◌-◌, ◌≤◌, ◌<◌, min}
use mathlib.Core.Bool.{Bool, true, false}
use mathlib.Core.List.{List, [], ◌∷◌, ◌++◌, append-nil}
use mathlib.Core.Path.{◌≡◌, refl, sym, ◌∙◌}
use native.Mathlib.Omega.{arith}
use lib.ListN.{length, take, replicate, length-append, length-take}
use lib.Dec.{ltb, eqb}
use lib.Seq.{take_all, take-append-le, take-append_seam}
use borrow.Author.Tests.{lt-ltb, ltb-true, ltb-false, ne_eqb}
use Rattle.laws.proofs.laws.Choice.{pick_true, pick_false}
use Rattle.laws.proofs.laws.Codec.{fill_step}
use Rattle.lines.specs.declared.LineState.{LineState}
use Rattle.lines.specs.Orders.{longest, order_of_line}
use Rattle.lines.specs.Held.{no_line, pushed, order_held}

-- what is held of a line of which p has come
unfoldable pub held : List ℕ → LineState
held p = record { len = min (length p) 32; bytes = take 32 p ++ replicate (32 - length p) 0 }

pub held_none : held [] ≡ no_line
unfolding held
held_none = refl

-- nothing is held only of a line that has not begun
pub held_some : (b : ℕ) (p : List ℕ) → eqb (held (b ∷ p)).len 0 ≡ false
unfolding held
held_some b p = ne_eqb (min (length (b ∷ p)) 32) 0 (λ z. omega arith)

held_short : (p : List ℕ) → length p ≤ 32 → held p ≡ record { len = length p; bytes = p ++ replicate (32 - length p) 0 }
unfolding held
held_short p h =
    let m : min (length p) 32 ≡ length p = omega arith in
    rw (m, take_all 32 p h)

held_long : (p : List ℕ) → 32 ≤ length p → held p ≡ record { len = 32; bytes = take 32 p }
unfolding held
held_long p h =
    let m : min (length p) 32 ≡ 32 = omega arith in
    let z : 32 - length p ≡ 0 = omega arith in
    rw (m, z, append-nil)

-- a byte that comes is held
pub held_push : (p : List ℕ) (b : ℕ) → pushed (held p) b ≡ held (p ++ (b ∷ []))
unfolding pushed
held_push p b = go (ltb longest (length p)) refl
  where
    k : length (p ++ (b ∷ [])) ≡ length p + 1
    k = length-append p (b ∷ [])

    go : (t : Bool) → ltb longest (length p) ≡ t → pushed (held p) b ≡ held (p ++ (b ∷ []))
    go true e =
        let h : longest < length p = ltb-true longest (length p) e in
        rw (held_long p (omega arith), held_long (p ++ (b ∷ [])) (omega (arith, k))) (pick_true _ _ refl ∙ rw (take-append-le 32 p (b ∷ []) (omega arith)))
    go false e =
        let h : length p ≤ longest = ltb-false longest (length p) e in
        rw
        (held_short p (omega arith), held_short (p ++ (b ∷ [])) (omega (arith, k)))
        (pick_false _ _ e ∙ rw (k, fill_step p 32 (length p) 0 b refl (omega arith)))

-- the line held makes the order of the line
pub held_order : (p : List ℕ) → order_held (held p) ≡ order_of_line p
unfolding order_held order_of_line
held_order p = go (ltb longest (length p)) refl
  where
    go : (t : Bool) → ltb longest (length p) ≡ t → order_held (held p) ≡ order_of_line p
    go true e =
        let h : longest < length p = ltb-true longest (length p) e in
        let k : longest < length (take 32 (take 32 p)) = rw (length-take, length-take) (omega arith) in
        rw (held_long p (omega arith)) (pick_true _ _ (lt-ltb longest (length (take 32 (take 32 p))) k) ∙ sym (pick_true _ _ e))
    go false e =
        let h : length p ≤ longest = ltb-false longest (length p) e in
        rw (held_short p (omega arith)) (rw (take-append_seam p (replicate (32 - length p) 0)))
