-- The delivered list of a sound box with one job more.
-- Jobs on the list are different numbers below J, so there is always room for one that is not on it.
use Prim.Native.Nat.{ℕ, suc, ◌+◌, ◌<◌}
use mathlib.Core.Bool.{true}
use mathlib.Core.List.{List}
use mathlib.Core.Logic.{◌≢◌}
use mathlib.Core.Path.{◌≡◌, sym, ◌∙◌}
use native.Mathlib.Decide.{dec_lt}
use native.Mathlib.Omega.{arith}
use lib.ListN.{length, set}
use lib.Seq.{get_or-set_other}
use lib.Dec.{ltb}
use borrow.Author.Tests.{ltb-true, lt-ltb, le-ltb}
use Rattle.laws.specs.Choice.{pick}
use Rattle.laws.proofs.laws.Choice.{pick_true, pick_false, pick_when}
use Rattle.laws.proofs.laws.Place.{at_each}
use Rattle.house.specs.Limits.{most_jobs}
use Rattle.house.specs.Pairs.{stamp_lt}
use Rattle.house.specs.declared.Stamp.{Stamp}
use Rattle.house.specs.declared.District.{District}
use Rattle.house.specs.Plan.{names, stamp_named, plan_sound}
use Rattle.house.proofs.laws.Says.{plan_says, names_job}
use Rattle.house.specs.declared.Plan.{Plan}
use Rattle.boxes.specs.Box.{no_listed}
use Rattle.boxes.specs.declared.Listed.{Listed}
use Rattle.boxes.proofs.laws.Listing.{entry_at, ListOk}
use Rattle.stays_sound.proofs.laws.Laws.{distinct_most}

-- ---- one job more

-- what a job that may be added brings
pub record Addable (P : Plan) (d : District) (n : ℕ) (l : List Listed) (j : ℕ) (s : Stamp) : Type 0 where
  pub named : names P j d ≡ true
  pub stamped : stamp_named P j s ≡ true
  -- above the last
  pub above : (i : ℕ) → suc i ≡ n → stamp_lt (entry_at l i).stamp s ≡ true
  -- not on the list
  pub new : (i : ℕ) → i < n → (entry_at l i).job ≢ j

-- there is room for it
pub list_room : {P : Plan} {d : District} {n : ℕ} {l : List Listed} {j : ℕ} → plan_sound P ≡ true → ListOk P d n l → names P j d ≡ true
    → ((i : ℕ) → i < n → (entry_at l i).job ≢ j) → n < most_jobs
list_room {P} {d} {n} {l} {j} S L named new =
    let m = (plan_says P S).jobs_most in
    let r = distinct_most P.jobs (suc n) job low (λ i k hi hk e. apart i k hi hk e (dec_lt i n) (dec_lt k n)) in
    omega arith
  where
    job : ℕ → ℕ
    job i = pick (ltb i n) (entry_at l i).job j

    old : (i : ℕ) → i < n → job i ≡ (entry_at l i).job
    old i h = pick_true (entry_at l i).job j (lt-ltb i n h)

    last : (i : ℕ) → ¬ (i < n) → job i ≡ j
    last i h = pick_false (entry_at l i).job j (le-ltb i n (omega arith))

    low : (i : ℕ) → i < suc n → job i < P.jobs
    low i h = pick_when (λ q. q < P.jobs) (ltb i n) (λ e. names_job P (entry_at l i).job d (L.named i (ltb-true i n e))) (λ e. names_job P j d named)

    once : (i k : ℕ) → i < n → k < n → (entry_at l i).job ≡ (entry_at l k).job → Dec (i < k) → Dec (k < i) → i ≡ k
    once i k hi hk e (yes p) _ = absurd (L.once k i p hk e)
    once i k hi hk e (no p) (yes q) = absurd (L.once i k q hi (sym e))
    once i k hi hk e (no p) (no q) = omega arith

    apart : (i k : ℕ) → i < suc n → k < suc n → job i ≡ job k → Dec (i < n) → Dec (k < n) → i ≡ k
    apart i k hi hk e (yes p) (yes q) = once i k p q (sym (old i p) ∙ e ∙ old k q) (dec_lt i k) (dec_lt k i)
    apart i k hi hk e (yes p) (no q) = absurd (new i p (sym (old i p) ∙ e ∙ last k q))
    apart i k hi hk e (no p) (yes q) = absurd (new k q (sym (old k q) ∙ sym e ∙ last i p))
    apart i k hi hk e (no p) (no q) = omega arith

pub list_add : {P : Plan} {d : District} {n : ℕ} {l : List Listed} {j : ℕ} {s : Stamp} → plan_sound P ≡ true → length l ≡ most_jobs → ListOk P d n l
    → Addable P d n l j s
    → ListOk P d (n + 1) (set l n (record { job = j; stamp = s }))
list_add {P} {d} {n} {l} {j} {s} S len L A =
    record {
      most = omega (arith, room);
      named = λ i h. at_each (λ (e : Listed). names P e.job d ≡ true) l n i new no_listed fits (λ e. A.named) (λ q. L.named i (omega arith));
      stamped =
          λ i h. at_each (λ (e : Listed). stamp_named P e.job e.stamp ≡ true) l n i new no_listed fits (λ e. A.stamped) (λ q. L.stamped i (omega arith));
      rising = λ i h.
          rw (other i (omega arith))
          (at_each (λ (e : Listed). stamp_lt (entry_at l i).stamp e.stamp ≡ true) l n (suc i) new no_listed fits (λ e. A.above i e)
          (λ q. L.rising i (omega arith)));
      once = λ i k lt h.
          rw (other k (omega arith))
          (at_each (λ (e : Listed). (entry_at l k).job ≢ e.job) l n i new no_listed fits (λ e. A.new k (omega arith)) (λ q. L.once i k lt (omega arith)));
      behind = λ i ge h. rw (other i (omega arith)) (L.behind i (omega arith) h);
    }
  where
    new : Listed
    new = record { job = j; stamp = s }

    room : n < most_jobs
    room = list_room S L A.named A.new

    fits : n < length l
    fits = omega (arith, room)

    other : (i : ℕ) → i ≢ n → entry_at (set l n new) i ≡ entry_at l i
    other i q = get_or-set_other l n i new no_listed q
