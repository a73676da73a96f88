-- What the plan's tests say: a sound plan's ranges, where a box lives, which jobs name a district.
use Prim.Native.Nat.{ℕ, ◌+◌, ◌*◌, ◌^◌, ◌<◌, ◌≤◌}
use mathlib.Core.Bool.{true, false, ◌&&◌}
use mathlib.Core.Logic.{◌⊎◌, inl, inr}
use mathlib.Core.Path.{◌≡◌, ap}
use native.Mathlib.Nat.{div-lt_iff_lt-mul, div-eq_of_lt-le, div-mul-le_self, lt-div-mul-add, mul-le-mul_right, add-mul, one-mul}
use native.Mathlib.Omega.{arith}
use lib.ListN.{get_or}
use lib.Dec.{leb, ltb, eqb}
use borrow.Author.Tests.{leb-true, ltb-true, ltb-false, eqb-true, lt-ltb, eq-eqb}
use Rattle.laws.proofs.laws.Choice.{pick_true, pick_false, and_left, and_right, and_both, look, never, or_cases, not_so}
use Rattle.laws.proofs.laws.Fold.{all_says}
use Rattle.laws.specs.Digits.{digit}
use Rattle.laws.proofs.laws.Digits.{digit_zero, digit_beyond}
use Rattle.house.specs.Limits.{most_boxes, most_districts, most_jobs}
use Rattle.house.specs.Pairs.{district, box_no, no_ballot, is_no_ballot, real_stamp, real_ballot}
use Rattle.house.proofs.laws.Orders.{RealStamp, real_stamp_says, real_stamp_is, RealBallot, real_ballot_says, real_ballot_is, no_ballot_says}
use Rattle.house.specs.declared.District.{District}
use Rattle.house.specs.declared.BoxNo.{BoxNo}
use Rattle.house.specs.declared.Ballot.{Ballot}
use Rattle.house.specs.declared.Stamp.{Stamp}
use Rattle.house.specs.Plan.{size_of, boxes_of, home_of, is_box, is_job, same_home, mask_of}
use Rattle.house.specs.Plan.{names, ballot_in, none_or_in, stamp_named, mask_sound, counts_sound}
use Rattle.house.specs.Plan.{masks_sound, plan_sound}
use Rattle.house.specs.declared.Plan.{Plan}

pub size_real : (P : Plan) → 1 ≤ size_of P
unfolding size_of
size_real P = omega arith

-- a sound plan
pub record SoundPlan (P : Plan) : Type 0 where
  pub some_district : 1 ≤ P.districts
  pub districts_most : P.districts ≤ most_districts
  pub some_job : 1 ≤ P.jobs
  pub jobs_most : P.jobs ≤ most_jobs
  pub mask_real : (j : ℕ) → j < P.jobs → 1 ≤ get_or P.masks j 0
  pub mask_fits : (j : ℕ) → j < P.jobs → get_or P.masks j 0 < 2 ^ P.districts

pub plan_says : (P : Plan) → plan_sound P ≡ true → SoundPlan P
unfolding plan_sound counts_sound masks_sound mask_sound
plan_says P h =
    record {
      some_district = leb-true 1 P.districts (and_left (leb 1 P.districts) (leb P.districts most_districts) g);
      districts_most = leb-true P.districts most_districts (and_right (leb 1 P.districts) (leb P.districts most_districts) g);
      some_job = leb-true 1 P.jobs (and_left (leb 1 P.jobs) (leb P.jobs most_jobs) n);
      jobs_most = leb-true P.jobs most_jobs (and_right (leb 1 P.jobs) (leb P.jobs most_jobs) n);
      mask_real = λ j l. leb-true 1 (get_or P.masks j 0) (and_left (leb 1 (get_or P.masks j 0)) (ltb (get_or P.masks j 0) (2 ^ P.districts)) (m j l));
      mask_fits =
          λ j l.
          ltb-true (get_or P.masks j 0) (2 ^ P.districts) (and_right (leb 1 (get_or P.masks j 0)) (ltb (get_or P.masks j 0) (2 ^ P.districts)) (m j l));
    }
  where
    counts : counts_sound P ≡ true
    counts = and_left (counts_sound P) (masks_sound P P.jobs) h

    g : leb 1 P.districts && leb P.districts most_districts ≡ true
    g = and_left (leb 1 P.districts && leb P.districts most_districts) (leb 1 P.jobs && leb P.jobs most_jobs) counts

    n : leb 1 P.jobs && leb P.jobs most_jobs ≡ true
    n = and_right (leb 1 P.districts && leb P.districts most_districts) (leb 1 P.jobs && leb P.jobs most_jobs) counts

    m : (j : ℕ) → j < P.jobs → mask_sound P.districts (get_or P.masks j 0) ≡ true
    m = all_says (λ j. mask_sound P.districts (get_or P.masks j 0)) P.jobs (and_right (counts_sound P) (masks_sound P P.jobs) h)

-- no plan has more than 12 boxes today
pub boxes_most : (P : Plan) → plan_sound P ≡ true → boxes_of P ≤ most_boxes
unfolding boxes_of size_of
boxes_most P h = let S = plan_says P h in omega (arith, S.districts_most)

-- a sound plan has a box 0
pub some_box : (P : Plan) → plan_sound P ≡ true → 0 < boxes_of P
unfolding boxes_of size_of
some_box P h = let S = plan_says P h in omega (arith, S.some_district)

-- a box and its district
pub box_says : (P : Plan) (p : BoxNo) → is_box P p ≡ true → p.0 < boxes_of P
unfolding is_box
box_says P p h = ltb-true p.0 (boxes_of P) h

pub box_is : (P : Plan) (p : BoxNo) → p.0 < boxes_of P → is_box P p ≡ true
unfolding is_box
box_is P p h = lt-ltb p.0 (boxes_of P) h

pub home_low : (P : Plan) (p : BoxNo) → p.0 < boxes_of P → (home_of P p).0 < P.districts
unfolding home_of boxes_of
home_low P p h = (div-lt_iff_lt-mul (size_real P)).1 h

-- the boxes of a district stand together
pub home_from : (P : Plan) (p : BoxNo) → (home_of P p).0 * size_of P ≤ p.0
unfolding home_of
home_from P p = div-mul-le_self p.0 (size_of P)

pub home_to : (P : Plan) (p : BoxNo) → p.0 < (home_of P p).0 * size_of P + size_of P
unfolding home_of
home_to P p = lt-div-mul-add (size_real P)

-- box i of district d lives there, and is a box
pub home_is : (P : Plan) (d i : ℕ) → i < size_of P → home_of P (box_no (d * size_of P + i)) ≡ district d
unfolding home_of
home_is P d i h =
    let e = add-mul d 1 (size_of P) in let o = one-mul (size_of P) in
    ap district (div-eq_of_lt-le (size_of P) {m = d * size_of P + i} (omega arith) (omega arith))

pub home_box : (P : Plan) (d i : ℕ) → d < P.districts → i < size_of P → d * size_of P + i < boxes_of P
unfolding boxes_of
home_box P d i l h =
    let m = mul-le-mul_right {m = d + 1} {n = P.districts} (size_of P) (omega arith) in
    let e = add-mul d 1 (size_of P) in let o = one-mul (size_of P) in omega arith

pub same_home_says : (P : Plan) (p q : BoxNo) → same_home P p q ≡ true → home_of P p ≡ home_of P q
unfolding same_home
same_home_says P p q h = ap district (eqb-true (home_of P p).0 (home_of P q).0 h)

pub same_home_is : (P : Plan) (p q : BoxNo) → home_of P p ≡ home_of P q → same_home P p q ≡ true
unfolding same_home
same_home_is P p q e = eq-eqb (home_of P p).0 (home_of P q).0 (ap (λ (d : District). d.0) e)

-- what names a district is a job, and what is named is a district
pub names_job : (P : Plan) (j : ℕ) (d : District) → names P j d ≡ true → j < P.jobs
unfolding names mask_of is_job
names_job P j d h = go (look (ltb j P.jobs))
  where
    go : (ltb j P.jobs ≡ true) ⊎ (ltb j P.jobs ≡ false) → j < P.jobs
    go (inl e) = ltb-true j P.jobs e
    go (inr e) = never (rw (pick_false (get_or P.masks j 0) 0 e) at h) (digit_zero d.0)

pub names_district : (P : Plan) (j : ℕ) (d : District) → plan_sound P ≡ true → names P j d ≡ true → d.0 < P.districts
unfolding names mask_of is_job
names_district P j d s h = go (look (ltb d.0 P.districts))
  where
    l : j < P.jobs
    l = names_job P j d h

    h' : digit (get_or P.masks j 0) d.0 ≡ true
    h' = rw (pick_true (get_or P.masks j 0) 0 (lt-ltb j P.jobs l)) at h

    go : (ltb d.0 P.districts ≡ true) ⊎ (ltb d.0 P.districts ≡ false) → d.0 < P.districts
    go (inl e) = ltb-true d.0 P.districts e
    go (inr e) = never h' (digit_beyond (get_or P.masks j 0) P.districts d.0 ((plan_says P s).mask_fits j l) (ltb-false d.0 P.districts e))

-- a real ballot of a district
pub record BallotIn (P : Plan) (d : District) (b : Ballot) : Type 0 where
  pub real : RealBallot b
  pub owner_box : b.owner.0 < boxes_of P
  pub here : home_of P b.owner ≡ d

pub ballot_in_says : (P : Plan) (d : District) (b : Ballot) → ballot_in P d b ≡ true → BallotIn P d b
unfolding ballot_in
ballot_in_says P d b h =
    let t = and_right (real_ballot b) (is_box P b.owner && eqb (home_of P b.owner).0 d.0) h in
    record {
      real = real_ballot_says b (and_left (real_ballot b) (is_box P b.owner && eqb (home_of P b.owner).0 d.0) h);
      owner_box = box_says P b.owner (and_left (is_box P b.owner) (eqb (home_of P b.owner).0 d.0) t);
      here = ap district (eqb-true (home_of P b.owner).0 d.0 (and_right (is_box P b.owner) (eqb (home_of P b.owner).0 d.0) t));
    }

pub ballot_in_is : (P : Plan) (d : District) (b : Ballot) → BallotIn P d b → ballot_in P d b ≡ true
unfolding ballot_in
ballot_in_is P d b B =
    and_both (real_ballot b) (is_box P b.owner && eqb (home_of P b.owner).0 d.0) (real_ballot_is b B.real)
    (and_both
    (is_box P b.owner)
    (eqb (home_of P b.owner).0 d.0)
    (box_is P b.owner B.owner_box)
    (eq-eqb (home_of P b.owner).0 d.0 (ap (λ (e : District). e.0) B.here)))

pub none_or_in_says : (P : Plan) (d : District) (b : Ballot) → none_or_in P d b ≡ true → (b ≡ no_ballot) ⊎ BallotIn P d b
unfolding none_or_in
none_or_in_says P d b h = go (or_cases (is_no_ballot b) (ballot_in P d b) h)
  where
    go : (is_no_ballot b ≡ true) ⊎ (ballot_in P d b ≡ true) → (b ≡ no_ballot) ⊎ BallotIn P d b
    go (inl e) = inl (no_ballot_says b e)
    go (inr e) = inr (ballot_in_says P d b e)

-- a real stamp of a named district
pub stamp_named_says : (P : Plan) (j : ℕ) (s : Stamp) → stamp_named P j s ≡ true → RealStamp s × (names P j s.district ≡ true)
unfolding stamp_named
stamp_named_says P j s h =
    (real_stamp_says s (and_left (real_stamp s) (names P j s.district) h), and_right (real_stamp s) (names P j s.district) h)

pub stamp_named_is : (P : Plan) (j : ℕ) (s : Stamp) → RealStamp s → names P j s.district ≡ true → stamp_named P j s ≡ true
unfolding stamp_named
stamp_named_is P j s R n = and_both (real_stamp s) (names P j s.district) (real_stamp_is s R) n

-- a district behind the plan's is not named
pub no_district : (P : Plan) (j d : ℕ) → plan_sound P ≡ true → P.districts ≤ d → names P j (district d) ≡ false
no_district P j d s h = not_so (names P j (district d)) (λ n. omega (arith, names_district P j (district d) s n))

-- a number that is no job names nothing
pub no_name : (P : Plan) (j : ℕ) (d : District) → P.jobs ≤ j → names P j d ≡ false
no_name P j d h = not_so (names P j d) (λ n. omega (arith, names_job P j d n))
