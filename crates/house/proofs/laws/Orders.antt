-- Both orders are instances of one law of lexicographic pairs; each as one number; what the tests say.
use Prim.Native.Nat.{ℕ, ◌+◌, ◌*◌, ◌<◌, ◌≤◌}
use mathlib.Core.Bool.{true}
use mathlib.Core.Path.{◌≡◌, refl, ap}
use lib.Dec.{leb, eqb}
use borrow.Author.Tests.{leb-true, eqb-true, le-leb, eq-eqb}
use Rattle.laws.proofs.laws.Choice.{and_left, and_right, and_both}
use Rattle.laws.specs.Lex.{Order}
use Rattle.laws.proofs.laws.Lex.{lex_order, lex_rank}
use Rattle.house.specs.Limits.{most_time, most_number}
use Rattle.house.specs.Pairs.{district, box_no, no_stamp, no_ballot, stamp_lt, ballot_lt, same_stamp}
use Rattle.house.specs.Pairs.{same_ballot, is_no_stamp, is_no_ballot, time_fits, real_stamp}
use Rattle.house.specs.Pairs.{real_ballot, stamp_of, ballot_of}
use Rattle.house.specs.declared.Stamp.{Stamp}
use Rattle.house.specs.declared.District.{District}
use Rattle.house.specs.declared.Ballot.{Ballot}
use Rattle.house.specs.declared.BoxNo.{BoxNo}

stamp_ext : (a b : Stamp) → a.time ≡ b.time → a.district.0 ≡ b.district.0 → a ≡ b
stamp_ext a b p q = λ i. record { time = p i; district = record { 0 = q i } }

ballot_ext : (a b : Ballot) → a.number ≡ b.number → a.owner.0 ≡ b.owner.0 → a ≡ b
ballot_ext a b p q = λ i. record { number = p i; owner = record { 0 = q i } }

-- total, transitive, irreflexive, equality decided, 'none' lowest
pub stamp_order : Order Stamp stamp_lt same_stamp no_stamp
unfolding stamp_lt same_stamp
stamp_order = lex_order Stamp (λ s. s.time) (λ s. s.district.0) stamp_ext no_stamp refl refl

pub ballot_order : Order Ballot ballot_lt same_ballot no_ballot
unfolding ballot_lt same_ballot
ballot_order = lex_order Ballot (λ b. b.number) (λ b. b.owner.0) ballot_ext no_ballot refl refl

abbrev pub ballot_rank : Ballot → ℕ
ballot_rank b = b.number * 256 + b.owner.0

pub ballot_rank_lem : (a b : Ballot) → a.owner.0 < 256 → b.owner.0 < 256 → ballot_lt a b ≡ true → ballot_rank a < ballot_rank b
unfolding ballot_lt
ballot_rank_lem a b h k e = lex_rank 256 a.number a.owner.0 b.number b.owner.0 h k e

-- what a passed test says
pub no_stamp_says : (s : Stamp) → is_no_stamp s ≡ true → s ≡ no_stamp
unfolding is_no_stamp
no_stamp_says s h = stamp_order.eq_says s no_stamp h

pub no_stamp_is : is_no_stamp no_stamp ≡ true
unfolding is_no_stamp same_stamp
no_stamp_is = refl

pub no_ballot_says : (b : Ballot) → is_no_ballot b ≡ true → b ≡ no_ballot
unfolding is_no_ballot
no_ballot_says b h = ballot_order.eq_says b no_ballot h

pub no_ballot_is : is_no_ballot no_ballot ≡ true
unfolding is_no_ballot same_ballot
no_ballot_is = refl

pub record RealStamp (s : Stamp) : Type 0 where
  pub some_time : 1 ≤ s.time
  pub fits : s.time ≤ most_time

pub real_stamp_says : (s : Stamp) → real_stamp s ≡ true → RealStamp s
unfolding real_stamp time_fits
real_stamp_says s h =
    record {
      some_time = leb-true 1 s.time (and_left (leb 1 s.time) (leb s.time most_time) h);
      fits = leb-true s.time most_time (and_right (leb 1 s.time) (leb s.time most_time) h);
    }

pub real_stamp_is : (s : Stamp) → RealStamp s → real_stamp s ≡ true
unfolding real_stamp time_fits
real_stamp_is s R = and_both (leb 1 s.time) (leb s.time most_time) (le-leb 1 s.time R.some_time) (le-leb s.time most_time R.fits)

pub stamp_of_says : (d : District) (s : Stamp) → stamp_of d s ≡ true → RealStamp s × (s.district ≡ d)
unfolding stamp_of
stamp_of_says d s h = (
  real_stamp_says s (and_left (real_stamp s) (eqb s.district.0 d.0) h),
  ap district (eqb-true s.district.0 d.0 (and_right (real_stamp s) (eqb s.district.0 d.0) h)),
)

pub stamp_of_is : (d : District) (s : Stamp) → RealStamp s → s.district.0 ≡ d.0 → stamp_of d s ≡ true
unfolding stamp_of
stamp_of_is d s R e = and_both (real_stamp s) (eqb s.district.0 d.0) (real_stamp_is s R) (eq-eqb s.district.0 d.0 e)

pub record RealBallot (b : Ballot) : Type 0 where
  pub some_number : 1 ≤ b.number
  pub fits : b.number ≤ most_number

pub real_ballot_says : (b : Ballot) → real_ballot b ≡ true → RealBallot b
unfolding real_ballot
real_ballot_says b h =
    record {
      some_number = leb-true 1 b.number (and_left (leb 1 b.number) (leb b.number most_number) h);
      fits = leb-true b.number most_number (and_right (leb 1 b.number) (leb b.number most_number) h);
    }

pub real_ballot_is : (b : Ballot) → RealBallot b → real_ballot b ≡ true
unfolding real_ballot
real_ballot_is b R = and_both (leb 1 b.number) (leb b.number most_number) (le-leb 1 b.number R.some_number) (le-leb b.number most_number R.fits)

pub ballot_of_says : (p : BoxNo) (b : Ballot) → ballot_of p b ≡ true → RealBallot b × (b.owner ≡ p)
unfolding ballot_of
ballot_of_says p b h = (
  real_ballot_says b (and_left (real_ballot b) (eqb b.owner.0 p.0) h),
  ap box_no (eqb-true b.owner.0 p.0 (and_right (real_ballot b) (eqb b.owner.0 p.0) h)),
)

pub ballot_of_is : (p : BoxNo) (b : Ballot) → RealBallot b → b.owner.0 ≡ p.0 → ballot_of p b ≡ true
unfolding ballot_of
ballot_of_is p b R e = and_both (real_ballot b) (eqb b.owner.0 p.0) (real_ballot_is b R) (eq-eqb b.owner.0 p.0 e)
