-- The lists in the report are the delivered lists of the boxes, so they stand in one order as these do.
use Prim.Native.Nat.{ℕ, zero, suc, ◌≤◌, ◌<◌}
use mathlib.Core.List.{List, [], ◌∷◌, ◌++◌}
use mathlib.Core.Logic.{⊎_elim}
use mathlib.Core.Path.{◌≡◌, refl, sym, subst, ◌∙◌}
use native.Mathlib.Nat.{eq-or-lt_of_le}
use native.Mathlib.Omega.{arith}
use lib.Dec.{ltb}
use lib.ListN.{length}
use borrow.Author.Tests.{ltb-true, ltb-false}
use Rattle.laws.proofs.laws.Choice.{pick_when}
use Rattle.laws.specs.Place.{At}
use Rattle.laws.proofs.laws.Place.{at_left, at_right, at_lt, at_unique}
use Rattle.house.specs.Limits.{most_jobs}
use Rattle.boxes.specs.Box.{listed_at}
use Rattle.boxes.specs.declared.BoxState.{BoxState}
use Rattle.rehearsal.specs.Night.{box_in}
use Rattle.rehearsal.specs.declared.Night.{Night}
use Rattle.closing.specs.Endings.{first_jobs, shown_of}
use Rattle.closing.proofs.laws.Laws.{first_jobs_length}
use Rattle.in_order.specs.Words.{SameOrder}
use Rattle.rehearsed.specs.ShownWords.{jobs_shown, InOneOrder}

-- ---- a list of jobs, place by place

jobs_at : (x : BoxState) (n i : ℕ) → i < n → At (first_jobs x n) i (listed_at x i).job
unfolding first_jobs
jobs_at x zero i h = absurd (omega arith)
jobs_at x (suc n) i h =
    ⊎_elim
    (λ (e : i ≡ n). last (first_jobs x n) (first_jobs_length x n) e)
    (λ l. at_left (first_jobs x n) ((listed_at x n).job ∷ []) i (jobs_at x n i l))
    (eq-or-lt_of_le {n = i} {m = n} (omega arith))
  where
    last : (l : List ℕ) → length l ≡ n → i ≡ n → At (l ++ ((listed_at x n).job ∷ [])) i (listed_at x i).job
    last l k e =
        rw (← e) (subst (λ (j : ℕ). At (l ++ ((listed_at x i).job ∷ [])) j (listed_at x i).job) (omega arith) (at_right l ((listed_at x i).job ∷ []) 0 refl))

-- no more of them are shown than there are on the list, nor than there are places
shown_most : (x : BoxState) → (shown_of x ≤ x.core.count) × (shown_of x ≤ most_jobs)
unfolding shown_of
shown_most x =
    pick_when (λ (n : ℕ). (n ≤ x.core.count) × (n ≤ most_jobs)) (ltb most_jobs x.core.count)
    (λ e. let h = ltb-true most_jobs x.core.count e in (omega arith, omega arith))
    (λ e. let h = ltb-false most_jobs x.core.count e in (omega arith, omega arith))

-- a job that is shown stands on the list of its box, at that place
record OnList (x : BoxState) (i m : ℕ) : Type 0 where
  pub inside : i < x.core.count
  pub job : (listed_at x i).job ≡ m

shown_list : (n : Night) (p i m : ℕ) → At (jobs_shown n p) i m → OnList (box_in n p) i m
unfolding jobs_shown
shown_list n p i m h =
    let x = box_in n p in
    let l : i < shown_of x = rw (first_jobs_length x (shown_of x)) at (at_lt (first_jobs x (shown_of x)) i h) in
    let c = (shown_most x).0 in
    record { inside = omega arith; job = at_unique (first_jobs x (shown_of x)) i (jobs_at x (shown_of x) i l) h }

pub same_shown : (a b : Night) (p q : ℕ) → SameOrder (box_in a p) (box_in b q) → InOneOrder (jobs_shown a p) (jobs_shown b q)
same_shown a b p q S =
    record {
      says = λ i j k n m l h ai aj bk bn.
          let x = shown_list a p i m ai in let y = shown_list a p j l aj in let z = shown_list b q k m bk in let u = shown_list b q n l bn in
          S.says i j k n h y.inside z.inside u.inside (x.job ∙ sym z.job) (y.job ∙ sym u.job);
    }
