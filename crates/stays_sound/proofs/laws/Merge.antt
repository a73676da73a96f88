-- A merge of sound votes gives a sound table without a proposed row, and a clock in range.
-- The votes at hand are the kept one, if any, and the new one.
use Prim.Native.Nat.{ℕ, ◌≤◌, ◌<◌}
use mathlib.Core.Bool.{Bool, true}
use mathlib.Core.List.{List, [], ◌∷◌}
use mathlib.Core.Logic.{◌⊎◌, inl, inr, ◌≢◌}
use mathlib.Core.Path.{◌≡◌, refl, ap, ◌∙◌}
use native.Mathlib.Omega.{arith}
use lib.ListN.{length, set, length-set}
use lib.Dec.{ltb}
use borrow.Author.Tests.{eqb-true}
use Rattle.laws.proofs.laws.Choice.{pick_when, pick_both, never, both}
use Rattle.laws.proofs.laws.Fold.{upto_keeps}
use Rattle.laws.specs.Place.{In}
use Rattle.laws.proofs.laws.Place.{in_one, in_head, in_tail, at_each}
use Rattle.house.specs.Limits.{most_jobs, most_time}
use Rattle.house.specs.Pairs.{no_row, same_ballot}
use Rattle.house.specs.declared.Ballot.{Ballot}
use Rattle.house.specs.declared.BoxNo.{BoxNo}
use Rattle.house.specs.declared.District.{District}
use Rattle.house.specs.declared.Row.{Row}
use Rattle.house.specs.Plan.{home_of, plan_sound}
use Rattle.house.proofs.laws.Says.{plan_says}
use Rattle.house.specs.declared.Plan.{Plan}
use Rattle.records.specs.Rec.{no_rows}
use Rattle.records.proofs.laws.Rows.{RowOk, at_start, TableOk, Unproposed, table_set, no_rows_ok}
use Rattle.boxes.specs.Box.{raised}
use Rattle.boxes.specs.NewleaderAck.{votes_with}
use Rattle.boxes.specs.Merge.{top_ballot, top_clock, vote_row, committed_at, accepted_at, first_row, merged_row, merged_table}
use Rattle.boxes.specs.declared.Vote.{Vote}
use Rattle.boxes.proofs.laws.Sound.{PaperOk, VoteOk, is_held, not_held}
use Rattle.stays_sound.proofs.laws.Fresh.{no_rows_lem}

pub raised_most : (c t : ℕ) → c ≤ most_time → t ≤ most_time → raised c t ≤ most_time
unfolding raised
raised_most c t hc ht = pick_both (λ q. q ≤ most_time) (ltb c t) ht hc

-- ---- votes

-- all votes are papers for the box's ballot
pub record Papers (P : Plan) (own : BoxNo) (b : Ballot) (l : List Vote) : Type 0 where
  pub each : (v : Vote) → In v l → PaperOk P own b v

papers_tail : {P : Plan} {own : BoxNo} {b : Ballot} {v : Vote} {l : List Vote} → Papers P own b (v ∷ l) → Papers P own b l
papers_tail K = record { each = λ w i. K.each w (in_tail i) }

papers_one : {P : Plan} {own : BoxNo} {b : Ballot} {v : Vote} → PaperOk P own b v → Papers P own b (v ∷ [])
papers_one {P} {own} {b} k = record { each = λ w i. rw (in_one i) k }

papers_two : {P : Plan} {own : BoxNo} {b : Ballot} {v u : Vote} → PaperOk P own b v → PaperOk P own b u → Papers P own b (v ∷ u ∷ [])
papers_two {P} {own} {b} {v} {u} k m = record { each = λ w i. go w (in_head i) }
  where
    go : (w : Vote) → (w ≡ v) ⊎ In w (u ∷ []) → PaperOk P own b w
    go w (inl e) = rw e k
    go w (inr i) = rw (in_one i) m

pub papers_with : {P : Plan} {own : BoxNo} {b : Ballot} (old new : Vote) → VoteOk P own b old → PaperOk P own b new → Papers P own b (votes_with old new)
unfolding votes_with
papers_with {P} {own} {b} old new o k =
    pick_when
    (Papers P own b)
    old.held
    (λ h. pick_both (Papers P own b) (ltb old.voter.0 new.voter.0) (papers_two (held h o) k) (papers_two k (held h o)))
    (λ h. papers_one k)
  where
    held : old.held ≡ true → VoteOk P own b old → PaperOk P own b old
    held h (is_held e q) = q
    held h (not_held e q) = never h e

-- ---- the merge

pub clock_most : {P : Plan} {own : BoxNo} {b : Ballot} (l : List Vote) → Papers P own b l → top_clock l ≤ most_time
unfolding top_clock
clock_most [] K = omega arith
clock_most (v ∷ l) K = raised_most v.clock (top_clock l) (K.each v (record { place = 0; there = refl })).clock (clock_most l (papers_tail K))

-- a row that a merge gives: sound and not proposed
record Settled (P : Plan) (d : District) (j : ℕ) (r : Row) : Type 0 where
  ok : RowOk P d j r
  unproposed : r.phase ≢ 1

-- the table that it gives
pub record MergedOk (P : Plan) (d : District) (t : List Row) : Type 0 where
  pub table : TableOk P d t
  pub size : length t ≡ most_jobs
  pub unproposed : Unproposed t

module _ {P : Plan} {own : BoxNo} {b : Ballot} where
  first_settled : (t : Vote → Bool) (j : ℕ) (l : List Vote) (r : Row) → j < most_jobs → Papers P own b l → ((v : Vote) → t v ≡ true → (vote_row v j).phase ≢ 1)
      → Settled P (home_of P own) j r → Settled P (home_of P own) j (first_row t j l r)
  unfolding first_row vote_row
  first_settled t j [] r h K n R = R
  first_settled t j (v ∷ l) r h K n R =
      pick_when (Settled P (home_of P own) j) (t v) (λ e. record { ok = (K.each v (record { place = 0; there = refl })).table.row j h; unproposed = n v e })
      (λ e. first_settled t j l r h (papers_tail K) n R)

  -- committed at a voter, else accepted at a voter of highest cballot, else start
  merged_settled : (l : List Vote) (j : ℕ) → j < most_jobs → Papers P own b l → Settled P (home_of P own) j (merged_row l j)
  unfolding merged_row committed_at accepted_at
  merged_settled l j h K =
      first_settled
      (committed_at j)
      j
      l
      (first_row (accepted_at (top_ballot l) j) j l no_row)
      h
      K
      (λ v e z. let q = eqb-true (vote_row v j).phase 3 e in omega arith)
      (first_settled
      (accepted_at (top_ballot l) j)
      j
      l
      no_row
      h
      K
      (λ v e z. let q = eqb-true (vote_row v j).phase 2 (both {a = same_ballot v.cballot (top_ballot l)} e).1 in omega arith)
      (record { ok = at_start refl; unproposed = λ z. omega arith }))

  pub merged_ok : (l : List Vote) → plan_sound P ≡ true → Papers P own b l → MergedOk P (home_of P own) (merged_table l P.jobs)
  unfolding merged_table
  merged_ok l s K =
      let m = (plan_says P s).jobs_most in
      upto_keeps (MergedOk P (home_of P own)) (λ t j. set t j (merged_row l j)) no_rows P.jobs
      (record {
        table = no_rows_ok P (home_of P own) no_rows no_rows_lem;
        size = refl;
        unproposed = record { row = λ j h e. let q = ap (λ (r : Row). r.phase) (no_rows_lem.row j h) in omega arith };
      })
      (λ t j h M. one t j (merged_settled l j (omega arith) K) (omega arith) M)
    where
      one : (t : List Row) (j : ℕ) → Settled P (home_of P own) j (merged_row l j) → j < most_jobs → MergedOk P (home_of P own) t
          → MergedOk P (home_of P own) (set t j (merged_row l j))
      one t j R h M =
          let n = M.size in
          record {
            table = table_set M.table j (merged_row l j) (omega arith) R.ok;
            size = length-set t j (merged_row l j) ∙ n;
            unproposed =
                record {
                  row = λ k g.
                      at_each (λ (q : Row). q.phase ≢ 1) t j k (merged_row l j) no_row (omega arith) (λ e. R.unproposed) (λ e. M.unproposed.row k g);
                };
          }
