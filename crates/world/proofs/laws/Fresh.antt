-- The fresh boxes of a world, by number.
use Prim.Native.Nat.{ℕ, zero, suc, ◌<◌}
use mathlib.Core.List.{[], ◌∷◌}
use mathlib.Core.Logic.{⊎_elim}
use mathlib.Core.Path.{◌≡◌, refl, ◌∙◌}
use native.Mathlib.Nat.{eq-or-lt_of_le}
use native.Mathlib.Omega.{arith}
use lib.ListN.{length, get_or, length-append, get_or-append}
use lib.Seq.{get_or_at}
use Rattle.house.specs.Pairs.{box_no}
use Rattle.boxes.specs.Box.{fresh}
use Rattle.world.specs.World.{fresh_boxes}

pub fresh_length : (n : ℕ) → length (fresh_boxes n) ≡ n
unfolding fresh_boxes
fresh_length zero = refl
fresh_length (suc n) = length-append (fresh_boxes n) (fresh (box_no n) ∷ []) ∙ (let e = fresh_length n in omega arith)

pub fresh_at : (n p : ℕ) → p < n → get_or (fresh_boxes n) p (fresh (box_no 0)) ≡ fresh (box_no p)
unfolding fresh_boxes
fresh_at zero p l = absurd (omega arith)
fresh_at (suc n) p l =
    ⊎_elim
    (λ (e : p ≡ n). rw e (get_or_at (fresh_boxes n) (fresh (box_no n)) [] (fresh (box_no 0)) n (fresh_length n)))
    (λ (h : p < n). get_or-append (fresh_boxes n) (fresh (box_no n) ∷ []) (fresh (box_no 0)) p (omega (arith, fresh_length n)) ∙ fresh_at n p h)
    (eq-or-lt_of_le {n = p} {m = n} (omega arith))
