-- Rules of the format's table, each one computed test over all kinds; and how long a record can be.
use Prim.Native.Nat.{ℕ, ◌+◌, ◌*◌, ◌≤◌}
use mathlib.Core.Bool.{Bool, true, false}
use mathlib.Core.Logic.{◌⊎◌, inl, inr}
use mathlib.Core.Path.{◌≡◌, refl}
use native.Mathlib.Omega.{arith}
use lib.ListN.{get_or-eq_default}
use lib.Dec.{leb, ltb, eqb}
use borrow.Author.Tests.{leb-true, ltb-true, ltb-false}
use Rattle.laws.specs.Choice.{pick}
use Rattle.laws.proofs.laws.Choice.{look}
use Rattle.laws.specs.Fold.{all_below}
use Rattle.laws.proofs.laws.Fold.{all_says}
use Rattle.house.specs.Limits.{most_districts, most_jobs}
use Rattle.house.specs.Plan.{plan_sound}
use Rattle.house.proofs.laws.Says.{plan_says}
use Rattle.house.specs.declared.Plan.{Plan}
use Rattle.records.specs.Format.{by_plan, format, entry, or_plan, ballots_in, stamps_in, rows_in}
use Rattle.records.specs.Bytes.{stamps_at, rows_at, length_of}

-- no kind beyond the table has an entry
pub entry_beyond : (k i : ℕ) → 9 ≤ k → entry k i ≡ 0
unfolding entry
entry_beyond k i h = get_or-eq_default format 0 {n = k * 4 + i} (omega arith)

-- a test that holds for the kinds of the table, and for a row of zeros, holds for every kind
pub table_rule : (t : ℕ → ℕ → ℕ → Bool) → t 0 0 0 ≡ true → all_below (λ k. t (entry k 0) (entry k 1) (entry k 2)) 9 ≡ true → (k : ℕ)
    → t (entry k 0) (entry k 1) (entry k 2) ≡ true
table_rule t z h k = go (look (ltb k 9))
  where
    go : (ltb k 9 ≡ true) ⊎ (ltb k 9 ≡ false) → t (entry k 0) (entry k 1) (entry k 2) ≡ true
    go (inl e) = all_says (λ i. t (entry i 0) (entry i 1) (entry i 2)) 9 h k (ltb-true k 9 e)
    go (inr e) =
        let b = ltb-false k 9 e in
        rw (entry_beyond k 0 b, entry_beyond k 1 b, entry_beyond k 2 b) z

-- a count by the table is no more than one by a larger plan
pub or_plan_most : (n m c : ℕ) → n ≤ m → or_plan n c ≤ or_plan m c
unfolding or_plan pick
or_plan_most n m c h = go (eqb c by_plan)
  where
    go : (t : Bool) → pick t n c ≤ pick t m c
    go true = h
    go false = omega arith

pub ballots_most : (P : Plan) (k : ℕ) → plan_sound P ≡ true → ballots_in P k ≤ most_districts
unfolding ballots_in or_plan pick all_below entry
ballots_most P k h =
    let m = or_plan_most P.districts most_districts (entry k 0) (plan_says P h).districts_most in
    let t = leb-true (or_plan most_districts (entry k 0)) most_districts (table_rule (λ b s r. leb (or_plan most_districts b) most_districts) refl refl k) in
    omega (arith, m, t)

pub stamps_most : (k : ℕ) → stamps_in k ≤ 2
unfolding stamps_in all_below entry
stamps_most k = leb-true (entry k 1) 2 (table_rule (λ b s r. leb s 2) refl refl k)

pub rows_most : (P : Plan) (k : ℕ) → plan_sound P ≡ true → rows_in P k ≤ most_jobs
unfolding rows_in or_plan pick all_below entry
rows_most P k h =
    let m = or_plan_most P.jobs most_jobs (entry k 2) (plan_says P h).jobs_most in
    let t = leb-true (or_plan most_jobs (entry k 2)) most_jobs (table_rule (λ b s r. leb (or_plan most_jobs r) most_jobs) refl refl k) in
    omega (arith, m, t)

-- the longest record, a NEWLEADER_ACK of 64 jobs, has 723 bytes
abbrev pub most_record : ℕ
most_record = 723

abbrev longest : ℕ → ℕ → ℕ → ℕ
longest b s r = 8 + or_plan most_districts b * 3 + s * 5 + or_plan most_jobs r * 11

pub length_most : (P : Plan) (k : ℕ) → plan_sound P ≡ true → length_of P k ≤ most_record
unfolding length_of rows_at stamps_at ballots_in stamps_in rows_in or_plan pick all_below entry
length_most P k h =
    let b = or_plan_most P.districts most_districts (entry k 0) (plan_says P h).districts_most in
    let r = or_plan_most P.jobs most_jobs (entry k 2) (plan_says P h).jobs_most in
    let t = leb-true (longest (entry k 0) (entry k 1) (entry k 2)) most_record (table_rule (λ x y z. leb (longest x y z) most_record) refl refl k) in
    omega (arith, b, r, t)
