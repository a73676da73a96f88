-- What the tests of a row and of a table say, and back: the phases' rules of document 01, 'A box'.
-- One fact for each of the 64 places: behind the plan's jobs no district is named, so the row is at its start.
use Prim.Native.Nat.{ℕ, ◌<◌, ◌≤◌}
use mathlib.Core.Bool.{true, false, not, ◌&&◌, ◌||◌}
use mathlib.Core.List.{List}
use mathlib.Core.Logic.{◌⊎◌, ◌≢◌, inl, inr}
use mathlib.Core.Path.{◌≡◌, refl, ap}
use native.Mathlib.Decide.{dec_lt}
use native.Mathlib.Omega.{arith}
use lib.ListN.{get_or, length, set}
use lib.Dec.{eqb, leb}
use borrow.Author.Tests.{eqb-true, eq-eqb, ne_eqb, not-true, leb-true, le-leb}
use Rattle.laws.proofs.laws.Choice.{never, or_cases, or_left, or_right, both, and_both, not_off}
use Rattle.laws.proofs.laws.Fold.{all_says, all_is, from_says, from_is}
use Rattle.laws.proofs.laws.Place.{at_each}
use Rattle.house.specs.Limits.{most_jobs, most_time}
use Rattle.house.specs.Pairs.{no_stamp, no_row, stamp_of, is_no_stamp, same_stamp, stamp, stamp_lt, time_fits}
use Rattle.house.specs.declared.District.{District}
use Rattle.house.specs.declared.Row.{Row}
use Rattle.house.specs.Plan.{names, plan_sound, stamp_named}
use Rattle.house.specs.declared.Plan.{Plan}
use Rattle.house.proofs.laws.Orders.{no_stamp_says, no_stamp_is}
use Rattle.house.proofs.laws.Says.{plan_says, names_job, no_name}
use Rattle.house.specs.declared.Stamp.{Stamp}
use Rattle.records.specs.Rules.{both_stamps, start_row, open_row, done_row, row_sound, rows_sound, none_proposed, is_no_row, spare_rows, clock_of}

-- a row of district d for job j
pub data RowOk (P : Plan) (d : District) (j : ℕ) (r : Row) : Type 0 where
  -- phase 0 has no stamps
  at_start : r ≡ no_row → RowOk P d j r
  -- 1 and 2 a local stamp only
  at_open : names P j d ≡ true → (r.phase ≡ 1) ⊎ (r.phase ≡ 2) → stamp_of d r.local ≡ true → r.global ≡ no_stamp → RowOk P d j r
  -- 3 both
  at_done : names P j d ≡ true → r.phase ≡ 3 → both_stamps P j d r.local r.global ≡ true → RowOk P d j r

-- ---- tables

-- the first n rows obey the rules
pub record RowsOk (P : Plan) (d : District) (t : List Row) (n : ℕ) : Type 0 where
  pub row : (j : ℕ) → j < n → RowOk P d j (get_or t j no_row)

-- every row does; a number that is no job has no row
abbrev pub TableOk : Plan → District → List Row → Type 0
TableOk P d t = RowsOk P d t most_jobs

-- no row at all
pub record NoRows (t : List Row) : Type 0 where
  pub row : (j : ℕ) → j < most_jobs → get_or t j no_row ≡ no_row

-- none of the first n rows is proposed
pub record NoneProposed (t : List Row) (n : ℕ) : Type 0 where
  pub row : (j : ℕ) → j < n → (get_or t j no_row).phase ≢ 1

-- no row is
abbrev pub Unproposed : List Row → Type 0
Unproposed t = NoneProposed t most_jobs

row_eta : (r : Row) → r.phase ≡ 0 → r.local ≡ no_stamp → r.global ≡ no_stamp → r ≡ no_row
row_eta r p l g = λ i. record { phase = p i; local = l i; global = g i }

pub start_says : (r : Row) → start_row r ≡ true → r ≡ no_row
unfolding start_row
start_says r h =
    let a = both h in let b = both a.1 in row_eta r (eqb-true r.phase 0 a.0) (no_stamp_says r.local b.0) (no_stamp_says r.global b.1)

start_is : start_row no_row ≡ true
unfolding start_row is_no_stamp same_stamp
start_is = refl

row_says : (P : Plan) (d : District) (j : ℕ) (r : Row) → row_sound P d j r ≡ true → RowOk P d j r
unfolding row_sound open_row done_row
row_says P d j r h = go (or_cases (start_row r) (names P j d && (open_row d r || done_row P j d r)) h)
  where
    phase : (eqb r.phase 1 ≡ true) ⊎ (eqb r.phase 2 ≡ true) → (r.phase ≡ 1) ⊎ (r.phase ≡ 2)
    phase (inl e) = inl (eqb-true r.phase 1 e)
    phase (inr e) = inr (eqb-true r.phase 2 e)

    on : names P j d ≡ true → (open_row d r ≡ true) ⊎ (done_row P j d r ≡ true) → RowOk P d j r
    on n (inl k) =
        let a = both k in let b = both a.1 in
        at_open n (phase (or_cases (eqb r.phase 1) (eqb r.phase 2) a.0)) b.0 (no_stamp_says r.global b.1)
    on n (inr k) = let a = both k in at_done n (eqb-true r.phase 3 a.0) a.1

    go : (start_row r ≡ true) ⊎ (names P j d && (open_row d r || done_row P j d r) ≡ true) → RowOk P d j r
    go (inl k) = at_start (start_says r k)
    go (inr k) = let a = both k in on a.0 (or_cases (open_row d r) (done_row P j d r) a.1)

row_is : (P : Plan) (d : District) (j : ℕ) (r : Row) → RowOk P d j r → row_sound P d j r ≡ true
unfolding row_sound open_row done_row
row_is P d j r (at_start e) = rw e (or_left (start_row no_row) (names P j d && (open_row d no_row || done_row P j d no_row)) start_is)
row_is P d j r (at_open n p l g) =
    or_right (start_row r) (names P j d && (open_row d r || done_row P j d r))
    (and_both (names P j d) (open_row d r || done_row P j d r) n
    (or_left (open_row d r) (done_row P j d r)
    (and_both (eqb r.phase 1 || eqb r.phase 2) (stamp_of d r.local && is_no_stamp r.global) (phase p)
    (and_both (stamp_of d r.local) (is_no_stamp r.global) l (rw g no_stamp_is)))))
  where
    phase : (r.phase ≡ 1) ⊎ (r.phase ≡ 2) → (eqb r.phase 1 || eqb r.phase 2) ≡ true
    phase (inl e) = or_left (eqb r.phase 1) (eqb r.phase 2) (eq-eqb r.phase 1 e)
    phase (inr e) = or_right (eqb r.phase 1) (eqb r.phase 2) (eq-eqb r.phase 2 e)
row_is P d j r (at_done n p b) =
    or_right (start_row r) (names P j d && (open_row d r || done_row P j d r))
    (and_both (names P j d) (open_row d r || done_row P j d r) n
    (or_right (open_row d r) (done_row P j d r)
    (and_both (eqb r.phase 3) (both_stamps P j d r.local r.global) (eq-eqb r.phase 3 p) b)))

-- both stamps of a committed row, or of a DELIVER
pub record BothOk (P : Plan) (j : ℕ) (d : District) (l g : Stamp) : Type 0 where
  pub local : stamp_of d l ≡ true
  pub global : stamp_named P j g ≡ true
  pub order : stamp_lt g l ≡ false

pub both_say : (P : Plan) (j : ℕ) (d : District) (l g : Stamp) → both_stamps P j d l g ≡ true → BothOk P j d l g
unfolding both_stamps
both_say P j d l g h = let a = both h in let b = both a.1 in record { local = a.0; global = b.0; order = not-true (stamp_lt g l) b.1 }

-- a clock's time is in range
pub clock_says : (d : District) (s : Stamp) → clock_of d s ≡ true → s.time ≤ most_time
unfolding clock_of time_fits
clock_says d s h = leb-true s.time most_time (both h).0

pub clock_is : (d : District) (n : ℕ) → n ≤ most_time → clock_of d (stamp n d.0) ≡ true
unfolding clock_of time_fits
clock_is d n h = and_both (leb n most_time) (eqb d.0 d.0) (le-leb n most_time h) (eq-eqb d.0 d.0 refl)

-- a row is in one of four phases
pub row_most : {P : Plan} {d : District} {j : ℕ} {r : Row} → RowOk P d j r → r.phase ≤ 3
row_most (at_start e) = omega (arith, ap (λ (q : Row). q.phase) e)
row_most (at_open a (inl q) l g) = omega arith
row_most (at_open a (inr q) l g) = omega arith
row_most (at_done a q b) = omega arith

-- a row past its start: the job names the district, the local stamp is of the district
pub row_begun : {P : Plan} {d : District} {j : ℕ} {r : Row} → RowOk P d j r → r.phase ≢ 0 → (names P j d ≡ true) × (stamp_of d r.local ≡ true)
row_begun (at_start e) n = absurd (n (ap (λ (q : Row). q.phase) e))
row_begun (at_open a p l g) n = (a, l)
row_begun {P} {d} {j} {r} (at_done a p b) n = (a, (both_say P j d r.local r.global b).local)

-- a committed row has both stamps
pub row_done : {P : Plan} {d : District} {j : ℕ} {r : Row} → RowOk P d j r → r.phase ≡ 3
    → (names P j d ≡ true) × (both_stamps P j d r.local r.global ≡ true)
row_done (at_start e) p = absurd (omega (arith, ap (λ (q : Row). q.phase) e))
row_done (at_open a (inl q) l g) p = absurd (omega arith)
row_done (at_open a (inr q) l g) p = absurd (omega arith)
row_done (at_done a q b) p = (a, b)

pub rows_say : (P : Plan) (d : District) (t : List Row) (n : ℕ) → rows_sound P d t n ≡ true → RowsOk P d t n
unfolding rows_sound
rows_say P d t n h = record { row = λ j l. row_says P d j (get_or t j no_row) (all_says (λ i. row_sound P d i (get_or t i no_row)) n h j l) }

-- the plan's rows, and nothing behind them
pub table_whole : (P : Plan) (d : District) (t : List Row) → RowsOk P d t P.jobs → spare_rows t P.jobs ≡ true → TableOk P d t
unfolding spare_rows is_no_row
table_whole P d t R s = record { row = λ j l. go j l (dec_lt j P.jobs) }
  where
    go : (j : ℕ) → j < most_jobs → Dec (j < P.jobs) → RowOk P d j (get_or t j no_row)
    go j l (yes e) = R.row j e
    go j l (no e) = at_start (start_says (get_or t j no_row) (from_says (λ i. start_row (get_or t i no_row)) P.jobs most_jobs s j (omega arith) l))

pub table_rows : (P : Plan) (d : District) (t : List Row) → plan_sound P ≡ true → TableOk P d t → rows_sound P d t P.jobs ≡ true
unfolding rows_sound
table_rows P d t s T =
    let m = (plan_says P s).jobs_most in
    all_is (λ i. row_sound P d i (get_or t i no_row)) P.jobs (λ j l. row_is P d j (get_or t j no_row) (T.row j (omega arith)))

-- a job that isn't named is at its start
unnamed : (P : Plan) (d : District) (j : ℕ) (r : Row) → RowOk P d j r → names P j d ≡ false → start_row r ≡ true
unnamed P d j r (at_start e) n = rw e start_is
unnamed P d j r (at_open a p l g) n = never a n
unnamed P d j r (at_done a p b) n = never a n

pub table_spare : (P : Plan) (d : District) (t : List Row) → TableOk P d t → spare_rows t P.jobs ≡ true
unfolding spare_rows is_no_row
table_spare P d t T = from_is (λ i. start_row (get_or t i no_row)) P.jobs most_jobs (λ j n l. unnamed P d j (get_or t j no_row) (T.row j l) (no_name P j d n))

pub no_rows_say : (t : List Row) → spare_rows t 0 ≡ true → NoRows t
unfolding spare_rows is_no_row
no_rows_say t h = record { row = λ j l. start_says (get_or t j no_row) (from_says (λ i. start_row (get_or t i no_row)) 0 most_jobs h j (omega arith) l) }

pub no_rows_are : (t : List Row) → NoRows t → spare_rows t 0 ≡ true
unfolding spare_rows is_no_row
no_rows_are t N = from_is (λ i. start_row (get_or t i no_row)) 0 most_jobs (λ j n l. rw (N.row j l) start_is)

-- a table without rows obeys the rules of every district
pub no_rows_ok : (P : Plan) (d : District) (t : List Row) → NoRows t → TableOk P d t
no_rows_ok P d t N = record { row = λ j l. at_start (N.row j l) }

-- one row set
pub table_set : {P : Plan} {d : District} {t : List Row} → TableOk P d t → (j : ℕ) (r : Row) → j < length t → RowOk P d j r → TableOk P d (set t j r)
table_set {P} {d} {t} T j r h R = record { row = λ k l. at_each (λ q. RowOk P d k q) t j k r no_row h (λ e. rw e R) (λ n. T.row k l) }

pub unproposed_say : (t : List Row) (n : ℕ) → none_proposed t n ≡ true → NoneProposed t n
unfolding none_proposed
unproposed_say t n h =
    record {
      row = λ j l e.
          never (eq-eqb (get_or t j no_row).phase 1 e)
          (not-true (eqb (get_or t j no_row).phase 1) (all_says (λ i. not (eqb (get_or t i no_row).phase 1)) n h j l));
    }

pub unproposed_whole : (P : Plan) (d : District) (t : List Row) → TableOk P d t → NoneProposed t P.jobs → Unproposed t
unproposed_whole P d t T U = record { row = λ j l e. U.row j (names_job P j d (row_begun (T.row j l) (λ z. omega arith)).0) e }

pub unproposed_is : (P : Plan) (t : List Row) → plan_sound P ≡ true → Unproposed t → none_proposed t P.jobs ≡ true
unfolding none_proposed
unproposed_is P t s U =
    let m = (plan_says P s).jobs_most in
    all_is (λ i. not (eqb (get_or t i no_row).phase 1)) P.jobs (λ j l. not_off (ne_eqb (get_or t j no_row).phase 1 (U.row j (omega arith))))
