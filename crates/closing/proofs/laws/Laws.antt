-- How long a list of jobs is, and what its jobs are; a night of which only the boxes are known.
use Prim.Native.Nat.{ℕ, zero, suc, ◌<◌, ◌≤◌}
use mathlib.Core.List.{List, [], ◌∷◌}
use mathlib.Core.Path.{◌≡◌, refl, ◌∙◌}
use native.Mathlib.Omega.{arith}
use lib.ListN.{length, take, get_or, length-append}
use lib.Seq.{take-suc}
use Rattle.boxes.specs.declared.BoxState.{BoxState}
use Rattle.boxes.specs.Box.{listed_at}
use Rattle.rehearsal.specs.declared.Night.{Night}
use Rattle.closing.specs.Endings.{first_jobs}

pub first_jobs_length : (x : BoxState) (n : ℕ) → length (first_jobs x n) ≡ n
unfolding first_jobs
first_jobs_length x zero = refl
first_jobs_length x (suc n) = length-append (first_jobs x n) ((listed_at x n).job ∷ []) ∙ rw (first_jobs_length x n) (omega arith)

-- a list that has these jobs place by place begins with the first jobs
pub jobs_are : (x : BoxState) (l : List ℕ) (n : ℕ) → n ≤ length l → ((i : ℕ) → i < n → get_or l i 0 ≡ (listed_at x i).job) → take n l ≡ first_jobs x n
unfolding first_jobs
jobs_are x l zero h f = refl
jobs_are x l (suc n) h f = take-suc l n 0 (omega arith) ∙ rw (f n (omega arith), jobs_are x l n (omega arith) (λ i b. f i (omega arith)))

-- a night with these boxes: what the report says of a night it says of its boxes
abbrev pub with_boxes : List BoxState → Night
with_boxes l = record { boxes = l; used = 0 }
