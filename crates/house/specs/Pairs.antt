-- Stamps and ballots: 'none', the order by first part and then second, the larger of two, real or not.
use Rattle.std.specs.Prelude.{ℕ, Bool, ◌&&◌, List, leb, eqb}
use Rattle.laws.specs.Lex.{lex_lt, lex_eq, larger, largest}
use Rattle.house.specs.Limits.{most_time, most_number, start_phase}
use Rattle.house.specs.declared.Stamp.{Stamp}
use Rattle.house.specs.declared.District.{District}
use Rattle.house.specs.declared.Ballot.{Ballot}
use Rattle.house.specs.declared.BoxNo.{BoxNo}
use Rattle.house.specs.declared.Row.{Row}

-- a district and a box are different things with a number each
abbrev pub district : ℕ → District
district d = record { 0 = d }

abbrev pub box_no : ℕ → BoxNo
box_no p = record { 0 = p }

-- a stamp is (time, district), a ballot is (number, box)
abbrev pub stamp : ℕ → ℕ → Stamp
stamp t d = record { time = t; district = district d }

abbrev pub ballot : ℕ → ℕ → Ballot
ballot n p = record { number = n; owner = box_no p }

-- 'none' is (0, 0)
abbrev pub no_stamp : Stamp
no_stamp = stamp 0 0

abbrev pub no_ballot : Ballot
no_ballot = ballot 0 0

-- a job at its start
abbrev pub no_row : Row
no_row = record { phase = start_phase; local = no_stamp; global = no_stamp }

-- ordered by first part, then second
unfoldable pub stamp_lt : Stamp → Stamp → Bool
stamp_lt a b = lex_lt a.time a.district.0 b.time b.district.0

unfoldable pub ballot_lt : Ballot → Ballot → Bool
ballot_lt a b = lex_lt a.number a.owner.0 b.number b.owner.0

unfoldable pub same_stamp : Stamp → Stamp → Bool
same_stamp a b = lex_eq a.time a.district.0 b.time b.district.0

unfoldable pub same_ballot : Ballot → Ballot → Bool
same_ballot a b = lex_eq a.number a.owner.0 b.number b.owner.0

-- the larger of two, and the largest of several
abbrev pub later_stamp : Stamp → Stamp → Stamp
later_stamp a b = larger stamp_lt a b

abbrev pub latest_stamp : List Stamp → Stamp
latest_stamp l = largest stamp_lt no_stamp l

abbrev pub higher_ballot : Ballot → Ballot → Ballot
higher_ballot a b = larger ballot_lt a b

unfoldable pub is_no_stamp : Stamp → Bool
is_no_stamp s = same_stamp s no_stamp

unfoldable pub is_no_ballot : Ballot → Bool
is_no_ballot b = same_ballot b no_ballot

-- a clock's time: at most 1,000,000
unfoldable pub time_fits : ℕ → Bool
time_fits t = leb t most_time

-- a real stamp has a time of 1 to 1,000,000, a real ballot a number of 1 to 65,535
unfoldable pub real_stamp : Stamp → Bool
real_stamp s = leb 1 s.time && time_fits s.time

unfoldable pub real_ballot : Ballot → Bool
real_ballot b = leb 1 b.number && leb b.number most_number

-- a real stamp of district d
unfoldable pub stamp_of : District → Stamp → Bool
stamp_of d s = real_stamp s && eqb s.district.0 d.0

-- a real ballot of box p
unfoldable pub ballot_of : BoxNo → Ballot → Bool
ballot_of p b = real_ballot b && eqb b.owner.0 p.0
