-- The best of the jobs gone through so far, told by a table and its flags alone, and what each job more makes of it.
use Prim.Native.Nat.{ℕ, ◌+◌, ◌≤◌, ◌<◌}
use mathlib.Core.Bool.{Bool, true, false, not, ◌&&◌}
use mathlib.Core.List.{List}
use mathlib.Core.Path.{◌≡◌, refl, sym, ◌∙◌}
use native.Mathlib.Omega.{arith}
use lib.Dec.{eqb}
use lib.ListN.{get_or}
use borrow.Author.Tests.{ne_eqb}
use Rattle.std.specs.Prelude.{Option, Some, None, IfSome}
use Rattle.std.specs.Option.{unwrap_or}
use Rattle.std.proofs.lemmas.Option.{IfSome_then}
use Rattle.laws.specs.Choice.{pick}
use Rattle.laws.proofs.laws.Choice.{pick_true, pick_false}
use Rattle.laws.proofs.laws.Fold.{upto_step}
use Rattle.house.specs.Limits.{no_job}
use Rattle.house.specs.Pairs.{no_row}
use Rattle.house.specs.declared.Row.{Row}
use Rattle.house.specs.declared.Plan.{Plan}
use Rattle.boxes.specs.Box.{row_at, sent_at}
use Rattle.boxes.specs.Ready.{open_above, ready, better, next_below}
use Rattle.boxes.specs.declared.BoxState.{BoxState}
use Rattle.sending.specs.Turns.{goes_before}

swap : (a b c : Bool) → (a && b) && c ≡ (a && c) && b
swap true true true = refl
swap true true false = refl
swap true false true = refl
swap true false false = refl
swap false b c = refl

next_more : (P : Plan) (x : BoxState) (j : ℕ) → next_below P x (j + 1) ≡ pick (ready P x j && better x (next_below P x j) j) j (next_below P x j)
unfolding next_below
next_more P x j = sym (upto_step (λ (best k : ℕ). pick (ready P x k && better x best k) k best) no_job j)

-- a job with this row and flag waits (phase 3, not flagged) and is before the best so far, which has this stamp
module _ (table : List Row) (sent : List Bool) (n : ℕ) where
  abbrev pub row : ℕ → Row
  row j = get_or table j no_row

  abbrev pub flag : ℕ → Bool
  flag j = get_or sent j false

  -- the best of the jobs below j
  pub record Best (j : ℕ) (best : Option ℕ) : Type 0 where
    pub low : IfSome best (λ b. b < j)
    pub next : (P : Plan) (x : BoxState) → P.jobs ≡ n → x.core.table ≡ table → x.core.sent ≡ sent → unwrap_or best no_job ≡ next_below P x j

  pub best_none : Best 0 None
  unfolding next_below
  best_none = record { low = tt; next = λ P x en et es. refl }

  -- job j waits, and is before the best so far
  abbrev pub waits : Option ℕ → ℕ → Bool
  waits best j = (eqb (row j).phase 3 && not (flag j)) && goes_before table best (row j)

  better_is : {j : ℕ} (best : Option ℕ) → IfSome best (λ b. b < j) → j ≤ 64 → (x : BoxState) → x.core.table ≡ table
      → better x (unwrap_or best no_job) j ≡ goes_before table best (row j)
  unfolding better row_at
  better_is None l m x et = refl
  better_is (Some b) l m x et = rw (et, ne_eqb b no_job (λ e. absurd (omega arith)))

  -- whether the next job is taken
  taken : {j : ℕ} {best : Option ℕ} → Best j best → j ≤ 64 → (P : Plan) (x : BoxState) → x.core.table ≡ table → x.core.sent ≡ sent
      → ready P x j && better x (unwrap_or best no_job) j ≡ waits best j && open_above P x (row j).global
  unfolding ready row_at sent_at
  taken {j} {best} b m P x et es =
      swap (eqb (row_at x j).phase 3 && not (sent_at x j)) (open_above P x (row_at x j).global) (better x (unwrap_or best no_job) j)
      ∙ rw (better_is best b.low m x et, et, es)

  pub best_taken : {j : ℕ} {best : Option ℕ} → Best j best → j < 64
      → ((P : Plan) (x : BoxState) → P.jobs ≡ n → x.core.table ≡ table → waits best j && open_above P x (row j).global ≡ true) → Best (j + 1) (Some j)
  best_taken {j} {best} b m o =
      record {
        low = omega arith;
        next =
            λ P x en et es.
            sym (next_more P x j ∙ rw (← b.next P x en et es) (pick_true j _ (taken b (omega arith) P x et es ∙ o P x en et)));
      }

  pub best_left : {j : ℕ} {best : Option ℕ} → Best j best → j < 64
      → ((P : Plan) (x : BoxState) → P.jobs ≡ n → x.core.table ≡ table → waits best j && open_above P x (row j).global ≡ false) → Best (j + 1) best
  best_left {j} {best} b m o =
      record {
        low = IfSome_then best b.low (λ k l. omega arith);
        next =
            λ P x en et es.
            sym (next_more P x j ∙ rw (← b.next P x en et es) (pick_false j _ (taken b (omega arith) P x et es ∙ o P x en et)));
      }
