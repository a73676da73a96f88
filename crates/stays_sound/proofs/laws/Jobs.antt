-- Kinds 1 to 4 keep a box sound and send good records: a job is proposed, accepted, committed, delivered.
-- Phase 3 keeps its row in kind 2; a commit's stamps both come from the kept ones.
use Prim.Native.Nat.{ℕ, zero, suc, ◌+◌, ◌-◌, ◌≤◌, ◌<◌}
use mathlib.Core.Bool.{true, false, not, ◌||◌}
use mathlib.Core.List.{List}
use mathlib.Core.Logic.{inl, inr, ◌≢◌}
use mathlib.Core.Path.{◌≡◌, refl, sym, ap, ◌∙◌}
use native.Mathlib.Omega.{arith}
use lib.ListN.{length, get_or}
use lib.Seq.{get_or-set_same}
use lib.Dec.{ltb, eqb}
use borrow.Author.Tests.{eqb-false, eq-eqb, ne_eqb, ltb-true, not-true}
use Rattle.laws.specs.Choice.{pick}
use Rattle.laws.proofs.laws.Choice.{pick_false, pick_when, pick_both, never, or_other, not_of, both}
use Rattle.laws.proofs.laws.Fold.{all_says, some_is}
use Rattle.house.specs.Limits.{most_districts, most_jobs, most_time}
use Rattle.house.specs.Pairs.{district, stamp, no_stamp, no_ballot, no_row, stamp_lt, same_ballot, stamp_of}
use Rattle.house.proofs.laws.Orders.{ballot_order, stamp_of_is}
use Rattle.house.specs.declared.Stamp.{Stamp}
use Rattle.house.specs.declared.Ballot.{Ballot}
use Rattle.house.specs.declared.BoxNo.{BoxNo}
use Rattle.house.specs.declared.District.{District}
use Rattle.house.specs.declared.Row.{Row}
use Rattle.house.specs.Plan.{home_of, names, stamp_named}
use Rattle.house.proofs.laws.Says.{plan_says, box_says, home_low, names_job, names_district, stamp_named_says, ballot_in_says}
use Rattle.house.specs.declared.Plan.{Plan}
use Rattle.house.specs.Marks.{no_marks, marked}
use Rattle.records.specs.Rec.{accept, accept_ack}
use Rattle.records.specs.declared.Proposal.{Proposal}
use Rattle.records.specs.declared.Handout.{Handout}
use Rattle.records.specs.Bytes.{encode_all}
use Rattle.records.specs.Rules.{both_stamps}
use Rattle.boxes.specs.Box.{is_leader, own_of, home_in, row_at, listed_at, kept_ballot, kept_stamp, marks_at, last_stamp, on_list, raised}
use Rattle.boxes.specs.Multicast.{proposed, accepts, on_multicast}
use Rattle.boxes.specs.Accept.{same_kept, kept, kept_below, all_kept, latest_kept, accepted_row, accepted}
use Rattle.boxes.specs.Accept.{kept_for, kept_vector, kept_leader, acks, when_kept, on_accept}
use Rattle.boxes.specs.AcceptAck.{agree_below, agree, enough, committed, when_marked, on_accept_ack}
use Rattle.boxes.specs.Deliver.{delivered, on_deliver}
use Rattle.boxes.specs.declared.BoxState.{BoxState}
use Rattle.boxes.proofs.laws.Answers.{under_or}
use Rattle.records.proofs.laws.Rows.{RowOk, at_open, at_done, row_begun}
use Rattle.records.proofs.laws.Obeys.{AcceptOk, AckOk, DeliverOk, BallotFor, for_named, for_other, Vector}
use Rattle.boxes.proofs.laws.Parts.{is_kept, MarkOk}
use Rattle.boxes.proofs.laws.Listing.{entry_at}
use Rattle.stays_sound.proofs.laws.Listing.{Addable}
use Rattle.stays_sound.proofs.laws.Fresh.{no_marks_ok}
use Rattle.stays_sound.proofs.laws.Merge.{raised_most}
use Rattle.stays_sound.proofs.laws.Leads.{own_home}
use Rattle.stays_sound.proofs.laws.KeptStamps.{Holds, holds, kept_holds, latest_ok, latest_low, commit_stamps}
use Rattle.stays_sound.proofs.laws.Sends.{Every, a_step, every_guard, AllGood, good_by, good_each}
use Rattle.stays_sound.specs.Size.{longest_output}
use Rattle.stays_sound.proofs.laws.Changes.{Fine, put_row_lem, put_listed_lem, put_kept_lem, put_marks_lem, marked_ok}
use Rattle.stays_sound.proofs.laws.Goods.{good_accept, good_ack, named_job, Keeps, keeps_on, keeps_quiet, every_on, fits_each}
use Rattle.stays_sound.proofs.laws.HandOut.{hand_out_keeps}

-- a job that names a district has a place in each array
low_job : {P : Plan} {x : BoxState} → Fine P x → (j : ℕ) (d : District) → names P j d ≡ true → j < most_jobs
low_job {P} F j d n = let m = (plan_says P F.sound.plan).jobs_most in omega (arith, names_job P j d n)

-- what its ACCEPTs say
abbrev proposal_of : BoxState → ℕ → Proposal
proposal_of x j = record { ballot = x.core.cballot; stamp = (row_at x j).local }

-- what a proposing leader has
record ProposedOk (P : Plan) (x : BoxState) (j : ℕ) (y : BoxState) : Type 0 where
  fine : Fine P y
  same : y.core.own ≡ x.core.own
  leads : is_leader y.core.status ≡ true
  begun : (row_at y j).phase ≢ 0

module _ {P : Plan} {x : BoxState} (F : Fine P x) where
  -- ACCEPTs of a job past its start
  accepts_good : (j : ℕ) → is_leader x.core.status ≡ true → j < most_jobs → (row_at x j).phase ≢ 0 → AllGood P x.core.own (accepts P x j)
  unfolding accepts row_at
  accepts_good j l h n =
      let S = F.sound in
      let r = row_begun (S.table.row j h) n in
      good_each (λ p. names P j (home_of P p)) (λ to. accept (own_of x) to j (proposal_of x j))
      (λ to k m.
      good_accept S.plan j (proposal_of x j)
      (record { sender = S.own; addressee = k; job = named_job P j (home_of P to) m; own_ballot = S.ballots.leader l; home_stamp = r.1; named = r.0 }) m)

  accepts_fit : (j : ℕ) → AllGood P x.core.own (accepts P x j) → length (encode_all P (accepts P x j)) ≤ longest_output
  unfolding accepts
  accepts_fit j G = fits_each (λ p. names P j (home_of P p)) (λ to. accept (own_of x) to j (proposal_of x j)) F.sound.plan G (λ to. omega arith)

  -- the leader has a stamp for the job, new or stored
  proposed_ok : (j : ℕ) → names P j (home_of P x.core.own) ≡ true → is_leader x.core.status ≡ true
      → (not (eqb (row_at x j).phase 0) || ltb x.core.clock most_time) ≡ true
      → ProposedOk P x j (proposed P x j)
  unfolding proposed row_at
  proposed_ok j n l c =
      pick_when (ProposedOk P x j) (eqb (row_at x j).phase 0)
      (λ e.
      let t = ltb-true x.core.clock most_time (or_other (not (eqb (row_at x j).phase 0)) (ltb x.core.clock most_time) c (not_of e)) in
      let h = low_job F j (home_of P x.core.own) n in
      let z = F.lengths.table in
      record {
        fine =
            put_row_lem F (x.core.clock + 1) j new (omega arith) h
            (at_open n (inl refl) (stamp_of_is (home_of P x.core.own) new.local (record { some_time = omega arith; fits = omega arith }) refl) refl);
        same = refl;
        leads = l;
        begun = rw (get_or-set_same x.core.table j new no_row (omega arith)) (λ q. omega arith);
      })
      (λ e. record { fine = F; same = refl; leads = l; begun = eqb-false (row_at x j).phase 0 e })
    where
      new : Row
      new = record { phase = 1; local = stamp (x.core.clock + 1) (home_in P x).0; global = no_stamp }

pub multicast_keeps : {P : Plan} {x : BoxState} (j : ℕ) → Fine P x → Every (Keeps P x) (on_multicast P x j)
unfolding on_multicast
multicast_keeps {P} {x} j F =
    simp under_or
    (every_guard _ _ _
    (λ n.
    every_guard _ _ _
    (λ l.
    every_guard _ _ _
    (λ c.
    let R = proposed_ok F j n l c in
    let g = accepts_good R.fine j R.leads (low_job F j (home_of P x.core.own) n) R.begun in
    a_step (record { fine = R.fine; same = R.same; good = good_by R.same g; fits = accepts_fit R.fine j g })))))

module _ {P : Plan} {x : BoxState} (F : Fine P x) where
  -- an ACCEPT that obeys the rules may be kept
  kept_fine : (from : BoxNo) (j : ℕ) (y : Proposal) {to : BoxNo} → AcceptOk P from to j y → Fine P (kept x j (home_of P from) y)
  unfolding kept marks_at
  kept_fine from j y O =
      let S = F.sound in
      let h = low_job F j (home_of P from) O.named in
      let m = (plan_says P S.plan).districts_most in
      put_kept_lem F j (home_of P from).0 y.ballot y.stamp (pick (same_kept x j (home_of P from) y) (marks_at x j) no_marks) h
      (omega (arith, home_low P from (box_says P from O.sender)))
      (is_kept O.named (own_home P from y.ballot O.sender O.own_ballot) O.home_stamp)
      (pick_both (MarkOk P j) (same_kept x j (home_of P from) y) (S.marks.job j h) (no_marks_ok P j))

  -- phase 3 stays; else the own stamp is stored
  accepted_row_lem : (j : ℕ) → j < most_jobs → Holds P x j (home_of P x.core.own)
      → RowOk P (home_of P x.core.own) j (accepted_row (row_at x j) (kept_stamp x j (home_of P x.core.own)))
  unfolding accepted_row row_at
  accepted_row_lem j h H =
      pick_both (RowOk P (home_of P x.core.own) j) (eqb (row_at x j).phase 3) (F.sound.table.row j h) (at_open H.named (inr refl) H.stamp refl)

  accepted_fine : (j : ℕ) → j < most_jobs → Holds P x j (home_of P x.core.own) → Fine P (accepted P x j)
  unfolding accepted
  accepted_fine j h H =
      let S = F.sound in
      put_row_lem F (raised x.core.clock (latest_kept P x j P.districts).time) j (accepted_row (row_at x j) (kept_stamp x j (home_in P x)))
      (raised_most x.core.clock (latest_kept P x j P.districts).time S.clock (latest_low (latest_ok S j P.districts))) h (accepted_row_lem j h H)

  -- the vector of the kept ballots
  vector_at : (j d : ℕ) → d < most_districts → get_or (kept_vector P x j) d no_ballot ≡ kept_for P x j d
  unfolding kept_vector
  vector_at j zero h = refl
  vector_at j (suc zero) h = refl
  vector_at j (suc (suc zero)) h = refl
  vector_at j (suc (suc (suc zero))) h = refl
  vector_at j (suc (suc (suc (suc d)))) h = absurd (omega arith)

  vector_ok : (j : ℕ) → kept_below P x j P.districts ≡ true → Vector P j (kept_vector P x j)
  unfolding kept_for
  vector_ok j k =
      record {
        place = λ d h.
            rw (vector_at j d h)
            (pick_when (BallotFor P j d) (names P j (district d))
            (λ n. for_named n (kept_holds F.sound j (district d) k n).ballot) (λ n. for_other n refl));
      }

  vector_size : (j : ℕ) → length (kept_vector P x j) ≡ most_districts
  unfolding kept_vector
  vector_size j = refl

  acks_good : (j : ℕ) → names P j (home_of P x.core.own) ≡ true → kept_below P x j P.districts ≡ true → AllGood P x.core.own (acks P x j)
  unfolding acks
  acks_good j n k =
      let S = F.sound in
      good_each (kept_leader P x j) (λ to. accept_ack (own_of x) to j (kept_vector P x j))
      (λ to h q.
      good_ack
      S.plan
      j
      (kept_vector P x j)
      (record { sender = S.own; addressee = h; job = named_job P j (home_of P x.core.own) n; named = n; vector = vector_ok j k })
      (vector_size j) (both q).0)

  acks_fit : (j : ℕ) → AllGood P x.core.own (acks P x j) → length (encode_all P (acks P x j)) ≤ longest_output
  unfolding acks
  acks_fit j G =
      let m = (plan_says P F.sound.plan).districts_most in
      fits_each (kept_leader P x j) (λ to. accept_ack (own_of x) to j (kept_vector P x j)) F.sound.plan G (λ to. omega arith)

-- the table and the clock are no part of what is kept
kept_still : (P : Plan) (x : BoxState) (j n : ℕ) → kept_below P (accepted P x j) j n ≡ kept_below P x j n
unfolding kept_below kept_ballot accepted
kept_still P x j n = refl

-- all named districts are kept, and the own one has cballot
when_kept_lem : {P : Plan} {x : BoxState} (j : ℕ) → Fine P x → names P j (home_of P x.core.own) ≡ true → Every (Keeps P x) (when_kept P x j)
unfolding when_kept all_kept accepted
when_kept_lem {P} {x} j F n =
    pick_when (Every (Keeps P x)) (all_kept P x j)
    (λ h.
    let k = (both {a = kept_below P x j P.districts} h).0 in
    let G = accepted_fine F j (low_job F j (home_of P x.core.own) n) (kept_holds F.sound j (home_of P x.core.own) k n) in
    let g = acks_good G j n (kept_still P x j P.districts ∙ k) in
    a_step (record { fine = G; same = refl; good = g; fits = acks_fit G j g }))
    (λ h. a_step (keeps_quiet F refl))

pub accept_keeps : {P : Plan} {x : BoxState} (from : BoxNo) (j : ℕ) (y : Proposal) → Fine P x → AcceptOk P from x.core.own j y
    → Every (Keeps P x) (on_accept P x from j y)
unfolding on_accept kept
accept_keeps {P} {x} from j y F O =
    simp under_or (every_guard _ _ _ (λ n. every_guard _ _ _ (λ r. every_guard _ _ _ (λ b. every_on refl (when_kept_lem j (kept_fine F from j y O) n)))))

-- the own district's ACCEPT is kept where the record agrees with it
agree_some : {P : Plan} {x : BoxState} (j : ℕ) (bs : List Ballot) → Fine P x → agree P x j bs ≡ true → Vector P j bs
    → names P j (home_of P x.core.own) ≡ true
    → kept_ballot x j (home_of P x.core.own) ≢ no_ballot
unfolding agree agree_below
agree_some {P} {x} j bs F h W n e =
    let S = F.sound in
    let d = home_of P x.core.own in
    let l = names_district P j d S.plan n in
    let m = (plan_says P S.plan).districts_most in
    let a = (both {a = agree_below P x j bs P.districts} h).0 in
    let q = or_other (not (names P j d)) (same_ballot (get_or bs d.0 no_ballot) (kept_ballot x j d))
    (all_says (λ e. not (names P j (district e)) || same_ballot (get_or bs e no_ballot) (kept_ballot x j (district e))) P.districts a d.0 l) (not_of n) in
    real (W.place d.0 (omega arith)) (ballot_order.eq_says (get_or bs d.0 no_ballot) (kept_ballot x j d) q ∙ e)
  where
    real : {b : Ballot} → BallotFor P j (home_of P x.core.own).0 b → b ≡ no_ballot → ⊥
    real {b} (for_named k i) z =
        let r = (ballot_in_says P (home_of P x.core.own) b i).real.some_number in let y = ap (λ (c : Ballot). c.number) z in omega arith
    real (for_other k i) z = never n k

-- phase 3: the stamps both come from the kept ones
committed_fine : {P : Plan} {x : BoxState} (j : ℕ) → Fine P x → Holds P x j (home_of P x.core.own) → Fine P (committed P x j)
unfolding committed
committed_fine {P} {x} j F H =
    put_row_lem F x.core.clock j (record { phase = 3; local = kept_stamp x j (home_in P x); global = latest_kept P x j P.districts }) F.sound.clock
    (low_job F j (home_of P x.core.own) H.named) (at_done H.named refl (commit_stamps F.sound j (home_of P x.core.own) H))

-- with the own mark and a quorum in every named district
when_marked_lem : {P : Plan} {x : BoxState} (j : ℕ) → Fine P x → names P j (home_of P x.core.own) ≡ true → is_leader x.core.status ≡ true
    → kept_ballot x j (home_of P x.core.own) ≢ no_ballot → Every (Keeps P x) (when_marked P x j)
unfolding when_marked committed
when_marked_lem {P} {x} j F n l k =
    pick_both (Every (Keeps P x)) (enough P x j)
    (a_step (keeps_on refl (hand_out_keeps (committed_fine j F (holds F.sound j (home_of P x.core.own) n k)) (F.sound.ballots.leader l))))
    (a_step (keeps_quiet F refl))

pub accept_ack_keeps : {P : Plan} {x : BoxState} (from : BoxNo) (j : ℕ) (bs : List Ballot) → Fine P x → AckOk P from x.core.own j bs
    → Every (Keeps P x) (on_accept_ack P x from j bs)
unfolding on_accept_ack marks_at kept_ballot
accept_ack_keeps {P} {x} from j bs F O =
    simp under_or
    (every_guard _ _ _
    (λ n.
    every_guard _ _ _
    (λ l.
    every_guard _ _ _
    (λ a.
    every_guard _ _ _
    (λ u.
    let h = low_job F j (home_of P x.core.own) n in
    let G = put_marks_lem F j (marked (marks_at x j) from) h (marked_ok P j (marks_at x j) from F.sound.plan (F.sound.marks.job j h) O.sender O.named) in
    every_on refl (when_marked_lem j G n l (agree_some j bs F a O.vector n)))))))

-- a job with a stamp above the last, not on the list
delivered_addable : (P : Plan) (x : BoxState) (j : ℕ) (s : Stamp) → names P j (home_of P x.core.own) ≡ true → stamp_named P j s ≡ true
    → stamp_lt (last_stamp x) s ≡ true
    → on_list x j ≡ false → Addable P (home_of P x.core.own) x.core.count x.core.list j s
unfolding last_stamp on_list listed_at
delivered_addable P x j s n r a o =
    record {
      named = n;
      stamped = r;
      above = λ i e.
          let z : x.core.count - 1 ≡ i = omega arith in
          let q : eqb x.core.count 0 ≡ false = ne_eqb x.core.count 0 (λ k. omega arith) in
          ap (λ (k : ℕ). stamp_lt (entry_at x.core.list k).stamp s) (sym z) ∙ rw (pick_false no_stamp (listed_at x (x.core.count - 1)).stamp q) at a;
      new = λ i l e. never (some_is (λ k. eqb (listed_at x k).job j) x.core.count i l (eq-eqb (listed_at x i).job j e)) o;
    }

-- the global stamp of phase 3 is of a named district
global_named : (P : Plan) (j : ℕ) (d : District) (l g : Stamp) → both_stamps P j d l g ≡ true → stamp_named P j g ≡ true
unfolding both_stamps
global_named P j d l g h = (both {b = not (stamp_lt g l)} (both {a = stamp_of d l} h).1).0

pub deliver_keeps : {P : Plan} {x : BoxState} (from : BoxNo) (j : ℕ) (y : Handout) → Fine P x → DeliverOk P from x.core.own j y
    → Every (Keeps P x) (on_deliver P x j y)
unfolding on_deliver delivered
deliver_keeps {P} {x} from j y F O =
    simp under_or
    (every_guard _ _ _ (λ n. every_guard _ _ _ (λ r. every_guard _ _ _ (λ b. every_guard _ _ _ (λ u. a_step (keeps_quiet (go n (both u)) refl))))))
  where
    stamps : both_stamps P j (home_of P x.core.own) y.local y.global ≡ true
    stamps = rw O.near.home at O.stamps

    go : names P j (home_of P x.core.own) ≡ true → (stamp_lt (last_stamp x) y.global ≡ true) × (not (on_list x j) ≡ true) → Fine P (delivered x j y)
    go n u =
        let s = global_named P j (home_of P x.core.own) y.local y.global stamps in
        let t = (stamp_named_says P j y.global s).0.fits in
        put_listed_lem
        (put_row_lem F (raised x.core.clock y.global.time) j (record { phase = 3; local = y.local; global = y.global })
        (raised_most x.core.clock y.global.time F.sound.clock t) (low_job F j (home_of P x.core.own) n) (at_done n refl stamps))
        j y.global (delivered_addable P x j y.global n s u.0 (not-true (on_list x j) u.1))
