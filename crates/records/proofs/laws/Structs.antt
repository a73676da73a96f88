-- A valid struct carries exactly the record that it says: behind its sections all is none, so nothing is lost.
-- So what holds of records holds of every struct that the code is given.
use Prim.Native.Nat.{ℕ, zero, suc, ◌+◌, ◌-◌, ◌≤◌, ◌<◌}
use mathlib.Core.Bool.{Bool, true, false, ◌||◌}
use mathlib.Core.List.{List, [], ◌∷◌, ◌++◌}
use mathlib.Core.Path.{◌≡◌, refl, sym, ap, ◌∙◌}
use native.Mathlib.Omega.{arith}
use lib.ListN.{length, get_or, take, drop, replicate, length-drop, length-replicate, get_or-replicate, take-append-drop}
use lib.Seq.{ext_get_or, get_or-drop, take-suc}
use lib.Dec.{ltb, eqb}
use borrow.Author.Tests.{eqb-true}
use Rattle.laws.specs.Choice.{pick}
use Rattle.laws.proofs.laws.Choice.{or_other}
use Rattle.laws.specs.Fold.{all_below}
use Rattle.laws.proofs.laws.Fold.{from_says}
use Rattle.house.specs.Limits.{most_districts, most_jobs, no_job}
use Rattle.house.specs.Pairs.{no_stamp, no_ballot, no_row, is_no_stamp, is_no_ballot}
use Rattle.house.proofs.laws.Orders.{no_stamp_says, no_ballot_says}
use Rattle.house.specs.declared.Stamp.{Stamp}
use Rattle.house.specs.declared.Ballot.{Ballot}
use Rattle.house.specs.declared.Row.{Row}
use Rattle.house.specs.Plan.{plan_sound}
use Rattle.house.specs.declared.Plan.{Plan}
use Rattle.records.specs.Format.{entry, or_plan, ballots_in, stamps_in, rows_in, has_job}
use Rattle.records.specs.Rec.{carried, meaning}
use Rattle.records.specs.Rules.{start_row, is_no_row, spare_ballots, spare_stamps, spare_rows, valid}
use Rattle.records.specs.declared.Record.{Record}
use Rattle.records.proofs.laws.Rows.{start_says}
use Rattle.records.proofs.laws.Obeys.{Obeys, Spare, valid_parts, valid_kind, valid_says}
use Rattle.records.proofs.laws.Lengths.{Arrays}

-- ---- a list with nothing behind its front

-- k elements, none from place n on
pub record Front {A : Type 0} (d : A) (l : List A) (n k : ℕ) : Type 0 where
  pub size : length l ≡ k
  pub none : (i : ℕ) → n ≤ i → i < k → get_or l i d ≡ d

module _ {A : Type 0} {d : A} {l : List A} where
  pub front_split : {n k : ℕ} → Front d l n k → n ≤ k → l ≡ take n l ++ replicate (k - n) d
  front_split {n} {k} F h = sym (take-append-drop n l) ∙ ap (λ (q : List A). take n l ++ q) rest
    where
      rest : drop n l ≡ replicate (k - n) d
      rest =
          let s = F.size in
          let a = length-drop n l in
          ext_get_or d (drop n l) (replicate (k - n) d) (a ∙ rw length-replicate (omega arith))
          (λ i lt. rw (get_or-drop n l i d, get_or-replicate (k - n) i d d (omega arith)) (F.none (n + i) (omega arith) (omega arith)))

  front_one : {k : ℕ} → Front d l 1 k → 1 ≤ k → l ≡ get_or l 0 d ∷ replicate (k - 1) d
  front_one {k} F h = let s = F.size in front_split F h ∙ ap (λ (q : List A). q ++ replicate (k - 1) d) (take-suc l 0 d (omega arith))

  front_two : {k : ℕ} → Front d l 2 k → 2 ≤ k → l ≡ get_or l 0 d ∷ get_or l 1 d ∷ replicate (k - 2) d
  front_two {k} F h =
      let s = F.size in
      front_split F h
      ∙ ap
      (λ (q : List A). q ++ replicate (k - 2) d)
      (take-suc l 1 d (omega arith) ∙ ap (λ (q : List A). q ++ (get_or l 1 d ∷ [])) (take-suc l 0 d (omega arith)))

-- the test that what stands behind a section is none
spare_front : {A : Type 0} (d : A) (is_no : A → Bool) → ((a : A) → is_no a ≡ true → a ≡ d) → (l : List A) (n k : ℕ) → length l ≡ k
    → all_below (λ i. ltb i n || is_no (get_or l i d)) k ≡ true
    → Front d l n k
spare_front d is_no says l n k e h =
    record { size = e; none = λ i m lt. says (get_or l i d) (from_says (λ q. is_no (get_or l q d)) n k h i m lt) }

-- ---- a struct

-- what stands behind the sections of a struct of kind k
pub record Behind (P : Plan) (r : Record) (k : ℕ) : Type 0 where
  pub ballots : Front no_ballot r.ballots (ballots_in P k) most_districts
  pub stamps : Front no_stamp r.stamps (stamps_in k) 2
  pub rows : Front no_row r.table (rows_in P k) most_jobs

pub behind : (P : Plan) (r : Record) → Arrays r → Spare P r → Behind P r r.kind
unfolding spare_ballots spare_stamps spare_rows is_no_row
behind P r Z S =
    record {
      ballots = spare_front no_ballot is_no_ballot no_ballot_says r.ballots (ballots_in P r.kind) most_districts Z.ballots S.ballots;
      stamps = spare_front no_stamp is_no_stamp no_stamp_says r.stamps (stamps_in r.kind) 2 Z.stamps S.stamps;
      rows = spare_front no_row start_row start_says r.table (rows_in P r.kind) most_jobs Z.table S.rows;
    }

no_job_lem : (r : Record) → has_job r.kind ≡ false → (has_job r.kind || eqb r.job no_job) ≡ true → r.job ≡ no_job
no_job_lem r n h = eqb-true r.job no_job (or_other (has_job r.kind) (eqb r.job no_job) h n)

-- equal fields, equal structs
same_fields : (r : Record) (k : ℕ) {j : ℕ} {bs : List Ballot} {ss : List Stamp} {t : List Row} → r.job ≡ j → r.ballots ≡ bs → r.stamps ≡ ss → r.table ≡ t
    → ◌≡◌ {A = Record} (record { kind = k; from = r.from; to = r.to; job = j; ballots = bs; stamps = ss; table = t })
    (record { kind = k; from = r.from; to = r.to; job = r.job; ballots = r.ballots; stamps = r.stamps; table = r.table })
same_fields r k ej eb es et = λ i. record { kind = k; from = r.from; to = r.to; job = sym ej i; ballots = sym eb i; stamps = sym es i; table = sym et i }

same_struct : (P : Plan) (r : Record) (k : ℕ) → r.kind ≡ k → Spare P r → Behind P r k → 1 ≤ k → k ≤ 8 → carried (meaning r) ≡ r
unfolding carried meaning pick ballots_in stamps_in rows_in entry or_plan has_job
same_struct P r zero e S B l h = absurd (omega arith)
same_struct P r (suc zero) e S B l h =
    rw e (same_fields r 1 refl (front_split B.ballots (omega arith)) (front_split B.stamps (omega arith)) (front_split B.rows (omega arith)))
same_struct P r (suc (suc zero)) e S B l h =
    rw e (same_fields r 2 refl (front_one B.ballots (omega arith)) (front_one B.stamps (omega arith)) (front_split B.rows (omega arith)))
same_struct P r (suc (suc (suc zero))) e S B l h =
    rw e (same_fields r 3 refl refl (front_split B.stamps (omega arith)) (front_split B.rows (omega arith)))
same_struct P r (suc (suc (suc (suc zero)))) e S B l h =
    rw e (same_fields r 4 refl (front_one B.ballots (omega arith)) (front_two B.stamps (omega arith)) (front_split B.rows (omega arith)))
same_struct P r (suc (suc (suc (suc (suc zero))))) e S B l h =
    rw
    e
    (same_fields
    r
    5
    (no_job_lem r (ap has_job e) S.job)
    (front_one B.ballots (omega arith))
    (front_split B.stamps (omega arith))
    (front_split B.rows (omega arith)))
same_struct P r (suc (suc (suc (suc (suc (suc zero)))))) e S B l h =
    rw e (same_fields r 6 (no_job_lem r (ap has_job e) S.job) (front_two B.ballots (omega arith)) (front_one B.stamps (omega arith)) refl)
same_struct P r (suc (suc (suc (suc (suc (suc (suc zero))))))) e S B l h =
    rw e (same_fields r 7 (no_job_lem r (ap has_job e) S.job) (front_one B.ballots (omega arith)) (front_one B.stamps (omega arith)) refl)
same_struct P r (suc (suc (suc (suc (suc (suc (suc (suc zero)))))))) e S B l h =
    rw
    e
    (same_fields
    r
    8
    (no_job_lem r (ap has_job e) S.job)
    (front_one B.ballots (omega arith))
    (front_split B.stamps (omega arith))
    (front_split B.rows (omega arith)))
same_struct P r (suc (suc (suc (suc (suc (suc (suc (suc (suc k))))))))) e S B l h = absurd (omega arith)

-- a valid struct is the struct of what it says
pub carried_meaning : (P : Plan) (r : Record) → Arrays r → valid P r ≡ true → carried (meaning r) ≡ r
carried_meaning P r Z h =
    let k = valid_kind P r h in
    let S = (valid_parts P r h).behind in
    same_struct P r r.kind refl S (behind P r Z S) k.0 k.1

-- two valid structs that say the same are the same
pub one_carrier : (P : Plan) (q r : Record) → Arrays q → Arrays r → valid P q ≡ true → valid P r ≡ true → meaning q ≡ meaning r → q ≡ r
one_carrier P q r A B v w e = sym (carried_meaning P q A v) ∙ ap carried e ∙ carried_meaning P r B w

-- what a valid struct says obeys the rules
pub struct_obeys : (P : Plan) (r : Record) → plan_sound P ≡ true → Arrays r → valid P r ≡ true → Obeys P (meaning r)
struct_obeys P r s Z h = valid_says P (meaning r) s (rw (carried_meaning P r Z h) h)
