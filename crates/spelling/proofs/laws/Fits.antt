-- Every number of a record that obeys the rules fits its bytes.
use Prim.Native.Nat.{ℕ, zero, suc, ◌^◌, ◌<◌}
use mathlib.Core.Bool.{true}
use mathlib.Core.Logic.{⊎_elim}
use mathlib.Core.Path.{◌≡◌, refl}
use native.Mathlib.Omega.{arith}
use lib.ListN.{get_or}
use lib.Dec.{leb}
use borrow.Author.Tests.{leb-true}
use Rattle.laws.specs.Choice.{pick}
use Rattle.laws.proofs.laws.Choice.{and_left, and_right}
use Rattle.house.specs.Pairs.{district, no_row, stamp_of, ballot_of}
use Rattle.house.proofs.laws.Orders.{stamp_of_says, ballot_of_says}
use Rattle.house.specs.declared.Stamp.{Stamp}
use Rattle.house.specs.declared.Ballot.{Ballot}
use Rattle.house.specs.declared.BoxNo.{BoxNo}
use Rattle.house.specs.declared.District.{District}
use Rattle.house.specs.declared.Row.{Row}
use Rattle.house.specs.Plan.{home_of, ballot_in, none_or_in, stamp_named}
use Rattle.house.proofs.laws.Says.{ballot_in_says, none_or_in_says, stamp_named_says}
use Rattle.house.specs.declared.Plan.{Plan}
use Rattle.records.specs.Format.{known, most_kind, entry, or_plan, ballots_in, stamps_in, rows_in}
use Rattle.records.specs.Rec.{meaning, ballot_no, stamp_no}
use Rattle.records.specs.Rules.{clock_of, both_stamps, rules}
use Rattle.records.proofs.laws.Kinds.{says_accept, says_accept_ack, says_deliver, says_newleader, says_newleader_ack, says_new_state, says_newstate_ack}
use Rattle.records.specs.declared.Record.{Record}
use Rattle.records.proofs.laws.Rows.{RowOk, at_start, at_open, at_done, both_say, clock_says}
use Rattle.records.proofs.laws.Obeys.{BallotFor, for_named, for_other, Told, rules_say}

-- a known kind is one of eight
each_kind : (C : ℕ → Type 0) → C 1 → C 2 → C 3 → C 4 → C 5 → C 6 → C 7 → C 8 → (k : ℕ) → known k ≡ true → C k
unfolding known
each_kind C a b c d e f g h zero q = absurd (omega (arith, leb-true 1 0 (and_left (leb 1 0) (leb 0 most_kind) q)))
each_kind C a b c d e f g h (suc zero) q = a
each_kind C a b c d e f g h (suc (suc zero)) q = b
each_kind C a b c d e f g h (suc (suc (suc zero))) q = c
each_kind C a b c d e f g h (suc (suc (suc (suc zero)))) q = d
each_kind C a b c d e f g h (suc (suc (suc (suc (suc zero))))) q = e
each_kind C a b c d e f g h (suc (suc (suc (suc (suc (suc zero)))))) q = f
each_kind C a b c d e f g h (suc (suc (suc (suc (suc (suc (suc zero))))))) q = g
each_kind C a b c d e f g h (suc (suc (suc (suc (suc (suc (suc (suc zero)))))))) q = h
each_kind C a b c d e f g h (suc (suc (suc (suc (suc (suc (suc (suc (suc k))))))))) q =
    let n = suc (suc (suc (suc (suc (suc (suc (suc (suc k)))))))) in
    absurd (omega (arith, leb-true n most_kind (and_right (leb 1 n) (leb n most_kind) q)))

-- a ballot's number fits two bytes, a stamp's time four
abbrev pub BallotFits : Ballot → Type 0
BallotFits b = b.number < 2 ^ 16

abbrev pub StampFits : Stamp → Type 0
StampFits s = s.time < 2 ^ 32

abbrev pub RowFits : Row → Type 0
RowFits r = StampFits r.local × StampFits r.global

ballot_of_fits : (p : BoxNo) (b : Ballot) → ballot_of p b ≡ true → BallotFits b
ballot_of_fits p b h = omega (arith, (ballot_of_says p b h).0.fits)

ballot_in_fits : (P : Plan) (d : District) (b : Ballot) → ballot_in P d b ≡ true → BallotFits b
ballot_in_fits P d b h = omega (arith, (ballot_in_says P d b h).real.fits)

none_or_in_fits : (P : Plan) (d : District) (b : Ballot) → none_or_in P d b ≡ true → BallotFits b
none_or_in_fits P d b h = ⊎_elim (λ e. rw e (omega arith)) (λ B. omega (arith, B.real.fits)) (none_or_in_says P d b h)

ballot_for_fits : (P : Plan) (j d : ℕ) (b : Ballot) → BallotFor P j d b → BallotFits b
ballot_for_fits P j d b (for_named n h) = ballot_in_fits P (district d) b h
ballot_for_fits P j d b (for_other n e) = rw e (omega arith)

stamp_of_fits : (d : District) (s : Stamp) → stamp_of d s ≡ true → StampFits s
stamp_of_fits d s h = omega (arith, (stamp_of_says d s h).0.fits)

stamp_named_fits : (P : Plan) (j : ℕ) (s : Stamp) → stamp_named P j s ≡ true → StampFits s
stamp_named_fits P j s h = omega (arith, (stamp_named_says P j s h).0.fits)

clock_fits : (d : District) (s : Stamp) → clock_of d s ≡ true → StampFits s
clock_fits d s h = omega (arith, clock_says d s h)

both_fit : (P : Plan) (j : ℕ) (d : District) (l g : Stamp) → both_stamps P j d l g ≡ true → StampFits l × StampFits g
both_fit P j d l g h = let B = both_say P j d l g h in (stamp_of_fits d l B.local, stamp_named_fits P j g B.global)

row_fits : (P : Plan) (d : District) (j : ℕ) (r : Row) → RowOk P d j r → RowFits r
row_fits P d j r (at_start e) = rw e (omega arith, omega arith)
row_fits P d j r (at_open n p l g) = (stamp_of_fits d r.local l, rw g (omega arith))
row_fits P d j r (at_done n p b) = both_fit P j d r.local r.global b

-- all numbers of a record of kind k
pub record FitAt (P : Plan) (r : Record) (k : ℕ) : Type 0 where
  pub ballots_fit : (i : ℕ) → i < ballots_in P k → BallotFits (ballot_no r i)
  pub stamps_fit : (i : ℕ) → i < stamps_in k → StampFits (stamp_no r i)
  pub table_fits : (i : ℕ) → i < rows_in P k → RowFits (get_or r.table i no_row)

none_below : (Q : ℕ → Type 0) (i : ℕ) → i < 0 → Q i
none_below Q i h = absurd (omega arith)

one_below : (Q : ℕ → Type 0) → Q 0 → (i : ℕ) → i < 1 → Q i
one_below Q a zero h = a
one_below Q a (suc i) h = absurd (omega arith)

two_below : (Q : ℕ → Type 0) → Q 0 → Q 1 → (i : ℕ) → i < 2 → Q i
two_below Q a b zero h = a
two_below Q a b (suc zero) h = b
two_below Q a b (suc (suc i)) h = absurd (omega arith)

module _ (P : Plan) (r : Record) where
  abbrev Bs : ℕ → Type 0
  Bs i = BallotFits (ballot_no r i)

  abbrev Ss : ℕ → Type 0
  Ss i = StampFits (stamp_no r i)

  abbrev Ts : ℕ → Type 0
  Ts i = RowFits (get_or r.table i no_row)

  abbrev home : District
  home = home_of P r.from

  -- what each kind's rules say of its numbers
  abbrev Part : ℕ → Type 0
  Part k = r.kind ≡ k → Told P (meaning r) → FitAt P r k

  fit_multicast : Part 1
  unfolding ballots_in stamps_in rows_in or_plan pick entry
  fit_multicast e h = record { ballots_fit = none_below Bs; stamps_fit = none_below Ss; table_fits = none_below Ts }

  fit_accept : Part 2
  unfolding ballots_in stamps_in rows_in or_plan pick entry
  fit_accept e h =
      let o = rw (says_accept r e) at h in
      record {
        ballots_fit = one_below Bs (ballot_of_fits r.from (ballot_no r 0) o.own_ballot);
        stamps_fit = one_below Ss (stamp_of_fits home (stamp_no r 0) o.home_stamp);
        table_fits = none_below Ts;
      }

  fit_accept_ack : Part 3
  unfolding ballots_in stamps_in rows_in or_plan pick entry
  fit_accept_ack e h =
      let o = rw (says_accept_ack r e) at h in
      record { ballots_fit = λ i l. ballot_for_fits P r.job i (ballot_no r i) (o.vector.place i l); stamps_fit = none_below Ss; table_fits = none_below Ts }

  fit_deliver : Part 4
  unfolding ballots_in stamps_in rows_in or_plan pick entry
  fit_deliver e h =
      let o = rw (says_deliver r e) at h in
      let f = both_fit P r.job home (stamp_no r 0) (stamp_no r 1) o.stamps in
      record {
        ballots_fit = one_below Bs (ballot_of_fits r.from (ballot_no r 0) o.own_ballot);
        stamps_fit = two_below Ss f.0 f.1;
        table_fits = none_below Ts;
      }

  fit_newleader : Part 5
  unfolding ballots_in stamps_in rows_in or_plan pick entry
  fit_newleader e h =
      let o = rw (says_newleader r e) at h in
      record { ballots_fit = one_below Bs (ballot_of_fits r.from (ballot_no r 0) o.own_ballot); stamps_fit = none_below Ss; table_fits = none_below Ts }

  fit_newleader_ack : Part 6
  unfolding ballots_in stamps_in rows_in or_plan pick entry
  fit_newleader_ack e h =
      let o = rw (says_newleader_ack r e) at h in
      record {
        ballots_fit = two_below Bs (ballot_of_fits r.to (ballot_no r 0) o.its_ballot) (none_or_in_fits P home (ballot_no r 1) o.cballot_home);
        stamps_fit = one_below Ss (clock_fits home (stamp_no r 0) o.clock);
        table_fits = λ i l. row_fits P home i (get_or r.table i no_row) (o.table.row i l);
      }

  fit_new_state : Part 7
  unfolding ballots_in stamps_in rows_in or_plan pick entry
  fit_new_state e h =
      let o = rw (says_new_state r e) at h in
      record {
        ballots_fit = one_below Bs (ballot_of_fits r.from (ballot_no r 0) o.own_ballot);
        stamps_fit = one_below Ss (clock_fits home (stamp_no r 0) o.clock);
        table_fits = λ i l. row_fits P home i (get_or r.table i no_row) (o.table.row i l);
      }

  fit_newstate_ack : Part 8
  unfolding ballots_in stamps_in rows_in or_plan pick entry
  fit_newstate_ack e h =
      let o = rw (says_newstate_ack r e) at h in
      record { ballots_fit = one_below Bs (ballot_of_fits r.to (ballot_no r 0) o.its_ballot); stamps_fit = none_below Ss; table_fits = none_below Ts }

  -- for a known kind
  pub rules_fit : known r.kind ≡ true → rules P (meaning r) ≡ true → FitAt P r r.kind
  rules_fit k h =
      each_kind Part fit_multicast fit_accept fit_accept_ack fit_deliver fit_newleader fit_newleader_ack fit_new_state fit_newstate_ack r.kind k refl
      (rules_say P (meaning r) h)
