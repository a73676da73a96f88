-- A quorum is more than one vote, so the merge has two of them; the highest ballot and the largest clock of two.
use Prim.Native.Nat.{ℕ, zero, suc, ◌<◌, ◌≤◌}
use mathlib.Core.Bool.{true, false, ◌&&◌}
use mathlib.Core.List.{List, [], ◌∷◌, map}
use mathlib.Core.Logic.{◌⊎◌, inl, inr, ⊎_elim}
use mathlib.Core.Path.{◌≡◌, ap, ◌∙◌}
use native.Mathlib.Omega.{arith}
use lib.ListN.{length, get_or, length-set}
use Rattle.std.specs.List.{range_with_len}
use Rattle.std.proofs.lemmas.List.{get_or-set_same, get_or-set_other, get_or-replicate, length-replicate}
use Rattle.std.proofs.lemmas.List.FromFn.{fill_by_all}
use native.Mathlib.Nat.{eq-or-lt_of_le}
use lib.Dec.{leb, ltb, eqb}
use borrow.Author.Tests.{leb-true, le-ltb, lt-ltb, ltb-true, ltb-false}
use Rattle.laws.specs.Choice.{pick}
use Rattle.laws.proofs.laws.Choice.{pick_false, look}
use Rattle.laws.proofs.laws.Fold.{upto_keeps}
use Rattle.laws.specs.Lex.{larger}
use Rattle.laws.specs.Majority.{majority}
use Rattle.house.specs.Limits.{most_jobs}
use Rattle.house.specs.Pairs.{no_ballot, no_row, same_ballot, higher_ballot}
use Rattle.house.proofs.laws.Orders.{ballot_order}
use Rattle.house.specs.declared.Ballot.{Ballot}
use Rattle.house.specs.declared.Row.{Row}
use Rattle.house.specs.Plan.{size_of, quorum_of}
use Rattle.house.specs.declared.Plan.{Plan}
use Rattle.records.specs.Rec.{no_rows}
use Rattle.boxes.specs.Box.{raised}
use Rattle.boxes.specs.NewleaderAck.{votes_count}
use Rattle.boxes.specs.Merge.{top_ballot, top_clock, vote_row, committed_at, accepted_at, first_row, merged_row, merged_table}
use Rattle.boxes.specs.declared.Vote.{Vote}

-- one vote is no quorum
pub quorum_more : (P : Plan) → 1 < quorum_of P
unfolding quorum_of majority size_of
quorum_more P = omega arith

-- so a vote that makes a quorum finds another one kept
pub quorum_held : (P : Plan) (v : Vote) → leb (quorum_of P) (votes_count v) ≡ true → v.held ≡ true
unfolding votes_count
quorum_held P v h = go (look v.held)
  where
    go : (v.held ≡ true) ⊎ (v.held ≡ false) → v.held ≡ true
    go (inl e) = e
    go (inr e) =
        let n : ◌≡◌ {A = ℕ} (pick v.held 2 1) 1 = pick_false 2 1 e in
        let l : quorum_of P ≤ pick v.held 2 1 = leb-true (quorum_of P) (pick v.held 2 1) h in
        absurd (omega (arith, quorum_more P))

pub top_of_two : (v w : Vote) → top_ballot (v ∷ w ∷ []) ≡ higher_ballot v.cballot w.cballot
unfolding top_ballot larger
top_of_two v w = ap (higher_ballot v.cballot) (pick_false no_ballot w.cballot (ballot_order.lowest w.cballot))

-- a row of two votes, by their cballots and their rows of the job
pub two_rows : (v w : Vote) (j : ℕ) (lo hi : Ballot) (a b : Row) → v.cballot ≡ lo → vote_row v j ≡ a → w.cballot ≡ hi → vote_row w j ≡ b
    → pick (eqb a.phase 3) a (pick (eqb b.phase 3) b
    (pick (same_ballot lo (higher_ballot lo hi) && eqb a.phase 2) a (pick (same_ballot hi (higher_ballot lo hi) && eqb b.phase 2) b no_row)))
    ≡ merged_row (v ∷ w ∷ []) j
unfolding merged_row first_row committed_at accepted_at vote_row
two_rows v w j lo hi a b ev ra ew rb = rw (top_of_two v w, ev, ra, ew, rb)

pub clock_of_two : (v w : Vote) → top_clock (v ∷ w ∷ []) ≡ raised v.clock w.clock
unfolding top_clock raised
clock_of_two v w = ap (raised v.clock) (pick_false 0 w.clock (le-ltb w.clock 0 (omega arith)))

-- the merged table, place by place: the rows of the first n jobs are merged, the others at their start
module _ (l : List Vote) where
  table_long : (n : ℕ) → length (merged_table l n) ≡ most_jobs
  unfolding merged_table
  table_long n = upto_keeps (λ (t : List Row). length t ≡ most_jobs) _ no_rows n (length-replicate most_jobs no_row) (λ t j h e. length-set t j _ ∙ e)

  row_next : (n k : ℕ) → k < most_jobs → get_or (merged_table l n) k no_row ≡ pick (ltb k n) (merged_row l k) no_row
      → (ltb k n ≡ true) ⊎ (ltb k n ≡ false) → get_or (merged_table l (suc n)) k no_row ≡ pick (ltb k (suc n)) (merged_row l k) no_row
  unfolding merged_table pick merged_row
  row_next n k h rest (inl e) =
      let m = ltb-true k n e in
      get_or-set_other (merged_table l n) n k (merged_row l n) no_row (λ q. absurd (omega (arith, q))) ∙ rest
      ∙ rw (e, lt-ltb k (suc n) (omega arith))
  row_next n k h rest (inr e) =
      let m = ltb-false k n e in
      ⊎_elim
      (λ q. let o = table_long n in rw (← q, lt-ltb n (suc n) (omega arith)) (get_or-set_same (merged_table l n) n (merged_row l n) no_row (omega (arith, q))))
      (λ q.
      get_or-set_other (merged_table l n) n k (merged_row l n) no_row (λ o. absurd (omega (arith, o))) ∙ rest
      ∙ rw (e, le-ltb k (suc n) (omega arith)))
      (eq-or-lt_of_le {n = n} {m = k} m)

  row_merged : (n k : ℕ) → k < most_jobs → get_or (merged_table l n) k no_row ≡ pick (ltb k n) (merged_row l k) no_row
  unfolding merged_table pick
  row_merged zero k h = rw (le-ltb k 0 (omega arith)) (get_or-replicate most_jobs k no_row no_row h)
  row_merged (suc n) k h = row_next n k h (row_merged n k h) (look (ltb k n))

  pub table_is : (n : ℕ) → merged_table l n ≡ map (λ k. pick (ltb k n) (merged_row l k) no_row) (range_with_len 0 most_jobs)
  table_is n = fill_by_all _ (merged_table l n) most_jobs no_row (table_long n) (row_merged n)
