-- The stamps kept for a job: which are there when all named districts are kept, and the largest of them.
-- The largest is not below the own one; so a commit's global stamp is not below its local one.
use Prim.Native.Nat.{ℕ, zero, suc, ◌≤◌, ◌<◌}
use mathlib.Core.Bool.{true, false, not, ◌||◌}
use mathlib.Core.Logic.{⊎_elim, ◌≢◌}
use mathlib.Core.Path.{◌≡◌, refl, sym, ap, ◌∙◌}
use native.Mathlib.Nat.{eq-or-lt_of_le}
use native.Mathlib.Omega.{arith}
use borrow.Author.Tests.{not-true}
use Rattle.laws.specs.Choice.{pick}
use Rattle.laws.proofs.laws.Choice.{pick_true, pick_when, never, or_other, not_of}
use Rattle.laws.proofs.laws.Fold.{upto_keeps, all_says}
use Rattle.laws.specs.Lex.{larger}
use Rattle.laws.proofs.laws.Lex.{larger_left, larger_right, le_trans, above_none}
use Rattle.house.specs.Limits.{most_time}
use Rattle.house.specs.Pairs.{district, no_stamp, no_ballot, stamp_lt, is_no_ballot, later_stamp, stamp_of}
use Rattle.house.proofs.laws.Orders.{stamp_order, stamp_of_says, no_ballot_is}
use Rattle.house.specs.declared.Stamp.{Stamp}
use Rattle.house.specs.declared.District.{District}
use Rattle.house.specs.Plan.{names, ballot_in, stamp_named}
use Rattle.house.proofs.laws.Says.{plan_says, names_job, names_district, stamp_named_says, stamp_named_is}
use Rattle.house.specs.declared.Plan.{Plan}
use Rattle.records.specs.Rules.{both_stamps}
use Rattle.boxes.specs.Box.{kept_ballot, kept_stamp}
use Rattle.boxes.specs.Accept.{kept_below, latest_kept}
use Rattle.boxes.specs.declared.BoxState.{BoxState}
use Rattle.boxes.proofs.laws.Parts.{KeptOk, not_kept, is_kept}
use Rattle.boxes.proofs.laws.Sound.{SoundBox}

-- an ACCEPT is there for job j and district d
pub record Holds (P : Plan) (x : BoxState) (j : ℕ) (d : District) : Type 0 where
  pub named : names P j d ≡ true
  pub ballot : ballot_in P d (kept_ballot x j d) ≡ true
  pub stamp : stamp_of d (kept_stamp x j d) ≡ true

-- none, or a stamp of a named district
pub data Latest (P : Plan) (j : ℕ) (s : Stamp) : Type 0 where
  no_latest : s ≡ no_stamp → Latest P j s
  a_latest : stamp_named P j s ≡ true → Latest P j s

module _ {P : Plan} {x : BoxState} (S : SoundBox P x) where
  -- what a sound box keeps for a job and a named district
  pub kept_pair : (j : ℕ) (d : District) → names P j d ≡ true → KeptOk P j d (kept_ballot x j d) (kept_stamp x j d)
  unfolding kept_ballot kept_stamp
  kept_pair j d n =
      let Q = plan_says P S.plan in
      let a = Q.jobs_most in let b = Q.districts_most in
      S.kept.pair j d.0 (omega (arith, names_job P j d n)) (omega (arith, names_district P j d S.plan n))

  -- a ballot that is kept is kept with its stamp
  pub holds : (j : ℕ) (d : District) → names P j d ≡ true → kept_ballot x j d ≢ no_ballot → Holds P x j d
  holds j d n h = go (kept_pair j d n)
    where
      go : KeptOk P j d (kept_ballot x j d) (kept_stamp x j d) → Holds P x j d
      go (not_kept e f) = absurd (h e)
      go (is_kept a b s) = record { named = a; ballot = b; stamp = s }

  -- where all named districts are kept, each one is
  pub kept_holds : (j : ℕ) (d : District) → kept_below P x j P.districts ≡ true → names P j d ≡ true → Holds P x j d
  unfolding kept_below
  kept_holds j d h n =
      holds j d n
      (λ e.
      never (rw e no_ballot_is)
      (not-true (is_no_ballot (kept_ballot x j d))
      (or_other (not (names P j d)) (not (is_no_ballot (kept_ballot x j d)))
      (all_says (λ e. not (names P j (district e)) || not (is_no_ballot (kept_ballot x j (district e)))) P.districts h d.0
      (names_district P j d S.plan n))
      (not_of n))))

  -- ---- the largest

  -- of what is kept for a district
  of_kept : (j : ℕ) (d : District) → names P j d ≡ true → Latest P j (kept_stamp x j d)
  of_kept j d n = go (kept_pair j d n)
    where
      go : KeptOk P j d (kept_ballot x j d) (kept_stamp x j d) → Latest P j (kept_stamp x j d)
      go (not_kept e f) = no_latest f
      go (is_kept a b s) = let r = stamp_of_says d (kept_stamp x j d) s in a_latest (stamp_named_is P j (kept_stamp x j d) r.0 (rw r.1 a))

  pub latest_ok : (j n : ℕ) → Latest P j (latest_kept P x j n)
  unfolding latest_kept larger
  latest_ok j n =
      upto_keeps (Latest P j) (λ s d. pick (names P j (district d)) (later_stamp s (kept_stamp x j (district d))) s) no_stamp n (no_latest refl)
      (λ s d l q.
      pick_when
      (Latest P j)
      (names P j (district d))
      (λ h. pick_when (Latest P j) (stamp_lt s (kept_stamp x j (district d))) (λ k. of_kept j (district d) h) (λ k. q))
      (λ h. q))

-- it is below none of them
pub latest_above : (P : Plan) (x : BoxState) (j n d : ℕ) → d < n → names P j (district d) ≡ true
    → stamp_lt (latest_kept P x j n) (kept_stamp x j (district d)) ≡ false
unfolding latest_kept
latest_above P x j zero d l h = absurd (omega arith)
latest_above P x j (suc n) d l h =
    ⊎_elim
    (λ e.
    rw
    (e, pick_true (later_stamp (latest_kept P x j n) (kept_stamp x j (district n))) (latest_kept P x j n) (rw e at h))
    (larger_right stamp_order (latest_kept P x j n) (kept_stamp x j (district n))))
    (λ b. le_trans stamp_order (kept_stamp x j (district d)) (latest_kept P x j n) (latest_kept P x j (suc n)) (latest_above P x j n d b h) up)
    (eq-or-lt_of_le {n = d} {m = n} (omega arith))
  where
    up : stamp_lt (latest_kept P x j (suc n)) (latest_kept P x j n) ≡ false
    up =
        pick_when
        (λ q. stamp_lt q (latest_kept P x j n) ≡ false)
        (names P j (district n))
        (λ k. larger_left stamp_order (latest_kept P x j n) (kept_stamp x j (district n)))
        (λ k. stamp_order.irrefl (latest_kept P x j n))

-- its time is in range
pub latest_low : {P : Plan} {j : ℕ} {s : Stamp} → Latest P j s → s.time ≤ most_time
latest_low (no_latest e) = let q = ap (λ (s : Stamp). s.time) e in omega arith
latest_low {P} {j} {s} (a_latest h) = (stamp_named_says P j s h).0.fits

-- where the own district is kept, its stamp and the largest are a commit's stamps
pub commit_stamps : {P : Plan} {x : BoxState} → SoundBox P x → (j : ℕ) (d : District) → Holds P x j d
    → both_stamps P j d (kept_stamp x j d) (latest_kept P x j P.districts) ≡ true
unfolding both_stamps
commit_stamps {P} {x} S j d H = rw (H.stamp, real (latest_ok S j P.districts), above)
  where
    l : Stamp
    l = kept_stamp x j d

    g : Stamp
    g = latest_kept P x j P.districts

    above : stamp_lt g l ≡ false
    above = latest_above P x j P.districts d.0 (names_district P j d S.plan H.named) H.named

    -- the own stamp is real, so the largest is not none
    some : l ≢ no_stamp
    some e = let r = (stamp_of_says d l H.stamp).0.some_time in let q = ap (λ (s : Stamp). s.time) e in omega arith

    real : Latest P j g → stamp_named P j g ≡ true
    real (no_latest e) = never (above_none stamp_order l some) (ap (λ (s : Stamp). stamp_lt s l) (sym e) ∙ above)
    real (a_latest h) = h
