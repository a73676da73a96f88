-- Laws of what specs/Head.antt defines.
use Prim.Native.Nat.{ℕ, ◌-◌}
use mathlib.Core.List.{List}
use mathlib.Core.Path.{◌≡◌, ap, ◌∙◌}
use lib.ListN.{length, take, drop, get_or}
use lib.Seq.{get_or-drop}
use Rattle.laws.proofs.laws.Tray.{rest_of}
use Rattle.house.specs.Pairs.{box_no}
use Rattle.reader.specs.declared.get.Head.{Head}
use Rattle.reader.specs.Head.{head_at}

-- behind the first count
pub head_behind : (s : List ℕ) {h : Head} → h ≡ head_at (take (length s - 1) (drop 1 s))
    → h ≡ record { kind = get_or s 1 0; from = box_no (get_or s 2 0); to = box_no (get_or s 3 0); job = get_or s 4 0 }
unfolding head_at
head_behind s e =
    e
    ∙ ap head_at (rest_of 1 s)
    ∙ (λ i. record { kind = get_or-drop 1 s 0 0 i; from = box_no (get_or-drop 1 s 1 0 i); to = box_no (get_or-drop 1 s 2 0 i); job = get_or-drop 1 s 3 0 i })

pub kind_behind : (s : List ℕ) {h : Head} → h ≡ head_at (take (length s - 1) (drop 1 s)) → h.kind ≡ get_or s 1 0
kind_behind s e = ap (λ (h : Head). h.kind) (head_behind s e)
