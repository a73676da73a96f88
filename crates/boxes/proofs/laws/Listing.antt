-- The delivered list of a sound box: its facts, and the test both ways.
use Prim.Native.Nat.{ℕ, suc, ◌≤◌, ◌<◌, zero, ◌-◌}
use mathlib.Core.Bool.{true, false, ◌||◌}
use mathlib.Core.List.{List}
use mathlib.Core.Logic.{◌≢◌}
use mathlib.Core.Path.{◌≡◌, refl}
use native.Mathlib.Omega.{arith}
use lib.ListN.{get_or}
use lib.Dec.{leb, ltb, eqb}
use borrow.Author.Tests.{eqb-true, eq-eqb, ne_eqb, ltb-true, ltb-false, lt-ltb, le-ltb, leb-true, le-leb, not-true}
use Rattle.laws.specs.Choice.{pick}
use Rattle.laws.proofs.laws.Choice.{pick_true, pick_false, and_both, pick_when, never, or_right, or_other, both}
use Rattle.laws.specs.Fold.{all_below, some_below}
use Rattle.laws.proofs.laws.Fold.{all_says, all_is, some_is, none_below}
use Rattle.house.specs.Limits.{most_jobs}
use Rattle.house.specs.Pairs.{stamp_lt}
use Rattle.house.specs.declared.District.{District}
use Rattle.house.specs.Plan.{names, stamp_named}
use Rattle.house.specs.declared.Plan.{Plan}
use Rattle.house.proofs.laws.Orders.{no_stamp_says, no_stamp_is}
use Rattle.boxes.specs.Box.{no_listed, home_in, listed_at}
use Rattle.boxes.specs.declared.Listed.{Listed}
use Rattle.boxes.specs.Sound.{listed_sound, unlisted, list_sound}
use Rattle.boxes.specs.declared.BoxState.{BoxState}

abbrev pub entry_at : List Listed → ℕ → Listed
entry_at l i = get_or l i no_listed

-- n jobs with stamps
pub record ListOk (P : Plan) (d : District) (n : ℕ) (l : List Listed) : Type 0 where
  pub most : n ≤ most_jobs
  -- each names the district
  pub named : (i : ℕ) → i < n → names P (entry_at l i).job d ≡ true
  -- and has a stamp of a named district
  pub stamped : (i : ℕ) → i < n → stamp_named P (entry_at l i).job (entry_at l i).stamp ≡ true
  -- stamps rising
  pub rising : (i : ℕ) → suc i < n → stamp_lt (entry_at l i).stamp (entry_at l (suc i)).stamp ≡ true
  -- jobs distinct
  pub once : (i k : ℕ) → k < i → i < n → (entry_at l k).job ≢ (entry_at l i).job
  -- behind the list nothing is listed
  pub behind : (i : ℕ) → n ≤ i → i < most_jobs → entry_at l i ≡ no_listed

module _ (P : Plan) (x : BoxState) where
  -- one place of the list, as the test says it
  record EntryOk (i : ℕ) : Type 0 where
    named : names P (listed_at x i).job (home_in P x) ≡ true
    stamped : stamp_named P (listed_at x i).job (listed_at x i).stamp ≡ true
    rising : (eqb i 0 || stamp_lt (listed_at x (i - 1)).stamp (listed_at x i).stamp) ≡ true
    once : some_below (λ k. eqb (listed_at x k).job (listed_at x i).job) i ≡ false

  entry_says : (i : ℕ) → listed_sound P x i ≡ true → EntryOk i
  unfolding listed_sound
  entry_says i h =
      let a = both h in let b = both a.0 in let c = both a.1 in
      record { named = b.0; stamped = b.1; rising = c.0; once = not-true (some_below (λ k. eqb (listed_at x k).job (listed_at x i).job) i) c.1 }

  entry_is : (i : ℕ) → EntryOk i → listed_sound P x i ≡ true
  unfolding listed_sound
  entry_is i E = rw (E.named, E.stamped, E.rising, E.once)

  pub list_says : list_sound P x ≡ true → ListOk P (home_in P x) x.core.count x.core.list
  unfolding list_sound listed_at unlisted
  list_says h =
      record {
        most = most;
        named = λ i l. (entry i l).named;
        stamped = λ i l. (entry i l).stamped;
        rising = λ i l. up i (entry (suc i) l).rising;
        once =
            λ i k lt l e.
            never (some_is (λ q. eqb (listed_at x q).job (listed_at x i).job) i k lt (eq-eqb (listed_at x k).job (listed_at x i).job e)) (entry i l).once;
        behind = λ i ge l. nothing i (rw (pick_false (listed_sound P x i) (unlisted x i) (le-ltb i x.core.count ge)) at (place i l));
      }
    where
      most : x.core.count ≤ most_jobs
      most = leb-true x.core.count most_jobs (both h).0

      place : (i : ℕ) → i < most_jobs → pick (ltb i x.core.count) (listed_sound P x i) (unlisted x i) ≡ true
      place i l = all_says (λ k. pick (ltb k x.core.count) (listed_sound P x k) (unlisted x k)) most_jobs (both {a = leb x.core.count most_jobs} h).1 i l

      entry : (i : ℕ) → i < x.core.count → EntryOk i
      entry i l = let m = most in entry_says i (rw (pick_true (listed_sound P x i) (unlisted x i) (lt-ltb i x.core.count l)) at (place i (omega arith)))

      up : (i : ℕ) → (eqb (suc i) 0 || stamp_lt (listed_at x (suc i - 1)).stamp (listed_at x (suc i)).stamp) ≡ true
          → stamp_lt (listed_at x i).stamp (listed_at x (suc i)).stamp ≡ true
      up i r =
          let e : suc i - 1 ≡ i = omega arith in
          or_other (eqb (suc i) 0) (stamp_lt (listed_at x i).stamp (listed_at x (suc i)).stamp) (rw e at r) (ne_eqb (suc i) 0 (λ q. omega arith))

      nothing : (i : ℕ) → unlisted x i ≡ true → entry_at x.core.list i ≡ no_listed
      nothing i u =
          let a = both u in
          let p = eqb-true (listed_at x i).job 0 a.0 in
          let q = no_stamp_says (listed_at x i).stamp a.1 in
          λ k. record { job = p k; stamp = q k }

  pub list_is : ListOk P (home_in P x) x.core.count x.core.list → list_sound P x ≡ true
  unfolding list_sound listed_at unlisted
  list_is L =
      and_both
      (leb x.core.count most_jobs)
      (all_below (λ i. pick (ltb i x.core.count) (listed_sound P x i) (unlisted x i)) most_jobs)
      (le-leb x.core.count most_jobs L.most)
      (all_is (λ i. pick (ltb i x.core.count) (listed_sound P x i) (unlisted x i)) most_jobs
      (λ i l.
      pick_when (λ t. t ≡ true) (ltb i x.core.count) (λ e. entry_is i (entry i (ltb-true i x.core.count e)))
      (λ e. rw (L.behind i (ltb-false i x.core.count e) l, no_stamp_is))))
    where
      up : (i : ℕ) → i < x.core.count → (eqb i 0 || stamp_lt (listed_at x (i - 1)).stamp (listed_at x i).stamp) ≡ true
      up zero l = refl
      up (suc i) l =
          let e : suc i - 1 ≡ i = omega arith in rw e (or_right (eqb (suc i) 0) (stamp_lt (listed_at x i).stamp (listed_at x (suc i)).stamp) (L.rising i l))

      alone : (i : ℕ) → i < x.core.count → some_below (λ k. eqb (listed_at x k).job (listed_at x i).job) i ≡ false
      alone i l =
          none_below (λ k. eqb (listed_at x k).job (listed_at x i).job) i (λ k lt e. L.once i k lt l (eqb-true (listed_at x k).job (listed_at x i).job e))

      entry : (i : ℕ) → i < x.core.count → EntryOk i
      entry i l = record { named = L.named i l; stamped = L.stamped i l; rising = up i l; once = alone i l }
