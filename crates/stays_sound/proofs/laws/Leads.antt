-- Kinds 5 to 8 keep a box sound and send good records: standing, voting, merging, following, leading.
-- A merge of sound votes gives sound rows, none of them proposed.
use Prim.Native.Nat.{◌+◌, ◌*◌, ◌≤◌, ◌<◌}
use mathlib.Core.Bool.{Bool, true, false, not, ◌&&◌}
use mathlib.Core.List.{List, [], ◌∷◌}
use mathlib.Core.Path.{◌≡◌, refl, sym, ap, subst, ◌∙◌}
use native.Mathlib.Omega.{arith}
use lib.ListN.{length, replicate, get_or-replicate}
use lib.Dec.{leb, eqb}
use borrow.Author.Tests.{eqb-false, eq-eqb, le-leb, not-true}
use Rattle.laws.proofs.laws.Choice.{pick_both, never, or_right, both, and_both}
use Rattle.laws.proofs.laws.Lex.{lt_asym, le_lt}
use Rattle.house.specs.Limits.{most_jobs, most_time}
use Rattle.house.specs.Pairs.{ballot_lt, same_ballot, is_no_ballot, time_fits, ballot_of}
use Rattle.house.proofs.laws.Orders.{ballot_order, ballot_of_says}
use Rattle.house.specs.declared.Ballot.{Ballot}
use Rattle.house.specs.declared.BoxNo.{BoxNo}
use Rattle.house.specs.declared.District.{District}
use Rattle.house.specs.Plan.{boxes_of, quorum_of, is_box, home_of, same_home, ballot_in, none_or_in, plan_sound}
use Rattle.house.proofs.laws.Says.{plan_says, box_says, ballot_in_is, same_home_says}
use Rattle.house.specs.declared.Plan.{Plan}
use Rattle.records.specs.Rec.{new_state, newstate_ack}
use Rattle.records.specs.declared.Ballotpaper.{Ballotpaper}
use Rattle.records.specs.declared.NewState.{NewState}
use Rattle.records.specs.Rules.{clock_of}
use Rattle.records.specs.Bytes.{encode_all}
use Rattle.boxes.specs.Box.{own_of, no_vote, put_vote}
use Rattle.boxes.specs.Ready.{hand_out}
use Rattle.boxes.specs.Newleader.{joined, clock_stamp, vote_for, on_newleader}
use Rattle.boxes.specs.NewleaderAck.{vote_of, votes_with, votes_count, new_states, when_voted, on_newleader_ack}
use Rattle.boxes.specs.Merge.{top_clock, merged_table, merged}
use Rattle.boxes.specs.NewState.{followed, on_new_state}
use Rattle.boxes.specs.NewstateAck.{leading, on_newstate_ack}
use Rattle.boxes.specs.declared.BoxState.{BoxState}
use Rattle.boxes.proofs.laws.Answers.{under_or}
use Rattle.boxes.specs.declared.Vote.{Vote}
use Rattle.boxes.specs.declared.Status.TheVariants.{Follower, Leader, Recovering}
use Rattle.records.proofs.laws.Rows.{Unproposed, clock_says}
use Rattle.records.proofs.laws.Obeys.{Neighbours, NewleaderOk, NewleaderAckOk, NewStateOk, NewstateAckOk}
use Rattle.boxes.proofs.laws.Sound.{PaperOk, is_held}
use Rattle.stays_sound.proofs.laws.Fresh.{no_vote_ok}
use Rattle.stays_sound.proofs.laws.Merge.{Papers, papers_with, clock_most, merged_ok}
use Rattle.stays_sound.proofs.laws.Sends.{Every, a_step, every_guard, AllGood, good_one, good_each}
use Rattle.stays_sound.specs.Size.{longest_output}
use Rattle.stays_sound.proofs.laws.Changes.{Fine, put_mode_lem, put_table_lem, put_sent_lem, put_vote_lem}
use Rattle.stays_sound.proofs.laws.Goods.{good_newleader_ack, good_new_state, good_newstate_ack, Keeps, keeps_on, keeps_quiet, fits_one, fits_home}
use Rattle.stays_sound.proofs.laws.HandOut.{hand_out_keeps}

-- ---- shared facts

-- the other way round
pub back : {P : Plan} {p q : BoxNo} → Neighbours P p q → Neighbours P q p
back N = record { sender = N.addressee; addressee = N.sender; home = sym N.home }

-- a box's own ballot is of its district
pub own_home : (P : Plan) (p : BoxNo) (b : Ballot) → is_box P p ≡ true → ballot_of p b ≡ true → ballot_in P (home_of P p) b ≡ true
own_home P p b h o =
    let r = ballot_of_says p b o in
    let l = subst (λ (q : BoxNo). q.0 < boxes_of P) (sym r.1) (box_says P p h) in
    ballot_in_is P (home_of P p) b (record { real = r.0; owner_box = l; here = ap (home_of P) r.1 })

pub in_or_none : (P : Plan) (d : District) (b : Ballot) → ballot_in P d b ≡ true → none_or_in P d b ≡ true
unfolding none_or_in
in_or_none P d b h = or_right (is_no_ballot b) (ballot_in P d b) h

-- the clock as a stamp of the own district
clock_ok : {P : Plan} {x : BoxState} → Fine P x → clock_of (home_of P x.core.own) (clock_stamp P x) ≡ true
unfolding clock_of clock_stamp time_fits
clock_ok {P} {x} F =
    and_both
    (leb x.core.clock most_time)
    (eqb (home_of P x.core.own).0 (home_of P x.core.own).0)
    (le-leb x.core.clock most_time F.sound.clock)
    (eq-eqb (home_of P x.core.own).0 (home_of P x.core.own).0 refl)

-- a table has at most 64 rows
rows_short : (P : Plan) → plan_sound P ≡ true → 19 + P.jobs * 11 ≤ 723
rows_short P s = let m = (plan_says P s).jobs_most in omega arith

module _ {P : Plan} {x : BoxState} (F : Fine P x) where
  -- the new ballot is above the own one, so above cballot
  above_cballot : (b : Ballot) → ballot_lt x.core.ballot b ≡ true → ballot_lt x.core.cballot b ≡ true
  above_cballot b h = le_lt ballot_order x.core.cballot x.core.ballot b F.sound.ballots.at_most h

  joined_fine : (b : Ballot) → ballot_lt x.core.ballot b ≡ true → ballot_in P (home_of P x.core.own) b ≡ true → Fine P (joined x b)
  unfolding joined
  joined_fine b h o =
      put_mode_lem (put_vote_lem F no_vote (no_vote_ok P x.core.own x.core.ballot) refl) Recovering b x.core.cballot
      (record {
        at_most = lt_asym ballot_order x.core.cballot b (above_cballot b h);
        equal = λ e. never refl e;
        ballot_home = in_or_none P (home_of P x.core.own) b o;
        cballot_home = F.sound.ballots.cballot_home;
        leader = λ e. never e refl;
      })
      (no_vote_ok P x.core.own b)

  pub newleader_keeps : (from : BoxNo) (b : Ballot) → NewleaderOk P from x.core.own b → Every (Keeps P x) (on_newleader P x from b)
  unfolding on_newleader vote_for joined
  newleader_keeps from b O = simp under_or (every_guard _ _ _ (λ h. a_step (go h)))
    where
      paper : Ballotpaper
      paper = record { ballot = b; cballot = x.core.cballot; clock = clock_stamp P x; table = x.core.table }

      go : ballot_lt x.core.ballot b ≡ true → Keeps P x (joined x b) (vote_for P x from b ∷ [])
      go h =
          let S = F.sound in
          let g = good_one (good_newleader_ack S.plan paper
          (record {
            near = back O.near;
            its_ballot = O.own_ballot;
            lower = above_cballot b h;
            cballot_home = S.ballots.cballot_home;
            clock = clock_ok F;
            table = S.table;
          })
          F.lengths.table) in
          record {
            fine = joined_fine b h (rw O.near.home at (own_home P from b O.near.sender O.own_ballot));
            same = refl;
            good = g;
            fits = fits_one (vote_for P x from b) S.plan g (rows_short P S.plan);
          }

-- the other boxes of the district
abbrev mates : Plan → BoxState → BoxNo → Bool
mates P x p = same_home P p (own_of x) && not (eqb p.0 (own_of x).0)

-- what a NEW_STATE says
abbrev state_of : Plan → BoxState → NewState
state_of P x = record { ballot = x.core.ballot; clock = clock_stamp P x; table = x.core.table }

-- 7 to them
states_good : {P : Plan} {x : BoxState} → Fine P x → ballot_of x.core.own x.core.ballot ≡ true → Unproposed x.core.table
    → AllGood P x.core.own (new_states P x)
unfolding new_states
states_good {P} {x} F o u =
    let S = F.sound in
    good_each (mates P x) (λ to. new_state (own_of x) to (state_of P x))
    (λ to h k.
    let m = both k in
    let e = same_home_says P to x.core.own m.0 in
    let n = eqb-false to.0 x.core.own.0 (not-true (eqb to.0 x.core.own.0) m.1) in
    good_new_state S.plan (state_of P x)
    (record {
      other = record { near = record { sender = S.own; addressee = h; home = sym e }; apart = λ q. n (sym q) };
      own_ballot = o;
      clock = clock_ok F;
      table = S.table;
      unproposed = u;
    })
    F.lengths.table)

states_fit : {P : Plan} {x : BoxState} → Fine P x → AllGood P x.core.own (new_states P x) → length (encode_all P (new_states P x)) ≤ longest_output
unfolding new_states
states_fit {P} {x} F G =
    let s = F.sound.plan in
    let r = rows_short P s in
    fits_home (mates P x) (λ to. new_state (own_of x) to (state_of P x))
    (home_of P x.core.own) s G (λ p h. same_home_says P p x.core.own (both h).0) (λ to. omega arith)

module _ {P : Plan} {x : BoxState} (F : Fine P x) where
  -- the paper that is kept or merged
  paper_ok : (from : BoxNo) (y : Ballotpaper) → NewleaderAckOk P from x.core.own y → y.ballot ≡ x.core.ballot
      → PaperOk P x.core.own x.core.ballot (vote_of from y)
  unfolding vote_of
  paper_ok from y O e =
      record {
        near = O.near;
        own_ballot = rw e at O.its_ballot;
        lower = rw e at O.lower;
        cballot_home = rw O.near.home at O.cballot_home;
        clock = clock_says (home_of P from) y.clock O.clock;
        table = rw O.near.home at O.table;
      }

  -- the first vote is kept
  voted_fine : (from : BoxNo) (y : Ballotpaper) → PaperOk P x.core.own x.core.ballot (vote_of from y) → length y.table ≡ most_jobs
      → Fine P (put_vote x (vote_of from y))
  unfolding vote_of
  voted_fine from y p n = put_vote_lem F (vote_of from y) (is_held refl p) n

  -- merged: cballot is the ballot, nothing is flagged, no vote is kept
  merged_fine : (l : List Vote) → Papers P x.core.own x.core.ballot l → Fine P (merged P x l)
  unfolding merged
  merged_fine l K =
      let B = F.sound.ballots in
      let M = merged_ok l F.sound.plan K in
      let G = put_sent_lem (put_table_lem F (top_clock l) (merged_table l P.jobs) (clock_most l K) M.size M.table) (replicate most_jobs false) refl
      (record { behind = λ j n h. get_or-replicate most_jobs j false false h }) in
      put_mode_lem (put_vote_lem G no_vote (no_vote_ok P x.core.own x.core.ballot) refl) Recovering x.core.ballot x.core.ballot
      (record {
        at_most = ballot_order.irrefl x.core.ballot;
        equal = λ e. refl;
        ballot_home = B.ballot_home;
        cballot_home = B.ballot_home;
        leader = λ e. never e refl;
      })
      (no_vote_ok P x.core.own x.core.ballot)

  merged_keeps : (l : List Vote) → Papers P x.core.own x.core.ballot l → ballot_of x.core.own x.core.ballot ≡ true
      → Keeps P x (merged P x l) (new_states P (merged P x l))
  unfolding merged
  merged_keeps l K o =
      let G = merged_fine l K in
      let g = states_good G o (merged_ok l F.sound.plan K).unproposed in
      record { fine = G; same = refl; good = g; fits = states_fit G g }

  pub newleader_ack_keeps : (from : BoxNo) (y : Ballotpaper) → NewleaderAckOk P from x.core.own y → length y.table ≡ most_jobs
      → Every (Keeps P x) (on_newleader_ack P x from y)
  unfolding on_newleader_ack when_voted
  newleader_ack_keeps from y O n =
      simp under_or (every_guard _ _ _ (λ h. every_guard _ _ _ (λ k. every_guard _ _ _ (λ q. go (ballot_order.eq_says y.ballot x.core.ballot k)))))
    where
      v : Vote
      v = vote_of from y

      go : y.ballot ≡ x.core.ballot → Every (Keeps P x) (when_voted P x v)
      go e =
          let p = paper_ok from y O e in
          pick_both (Every (Keeps P x)) (leb (quorum_of P) (votes_count x.volatile.vote))
          (a_step (merged_keeps (votes_with x.volatile.vote v) (papers_with x.volatile.vote v F.sound.vote p) p.own_ballot))
          (a_step (keeps_quiet (voted_fine from y p n) refl))

  -- ---- 7 NEW_STATE

  followed_fine : (from : BoxNo) (y : NewState) → NewStateOk P from x.core.own y → length y.table ≡ most_jobs → y.ballot ≡ x.core.ballot
      → Fine P (followed x y)
  unfolding followed
  followed_fine from y O n e =
      let S = F.sound in
      let h = O.other.near.home in
      put_mode_lem
      (put_table_lem F y.clock.time y.table (clock_says (home_of P from) y.clock O.clock) n (rw h at O.table))
      Follower
      x.core.ballot
      y.ballot
      (record {
        at_most = rw e (ballot_order.irrefl x.core.ballot);
        equal = λ q. e;
        ballot_home = S.ballots.ballot_home;
        cballot_home = rw e S.ballots.ballot_home;
        leader = λ q. never q refl;
      })
      S.vote

  pub new_state_keeps : (from : BoxNo) (y : NewState) → NewStateOk P from x.core.own y → length y.table ≡ most_jobs
      → Every (Keeps P x) (on_new_state x from y)
  unfolding on_new_state followed
  new_state_keeps from y O n =
      simp under_or (every_guard _ _ _ (λ h. every_guard _ _ _ (λ k. a_step (go (ballot_order.eq_says y.ballot x.core.ballot k)))))
    where
      go : y.ballot ≡ x.core.ballot → Keeps P x (followed x y) (newstate_ack (own_of x) from y.ballot ∷ [])
      go e =
          let s = F.sound.plan in
          let N = O.other in
          let g =
          good_one
          (good_newstate_ack s y.ballot (record { other = record { near = back N.near; apart = λ q. N.apart (sym q) }; its_ballot = O.own_ballot })) in
          record { fine = followed_fine from y O n e; same = refl; good = g; fits = fits_one (newstate_ack (own_of x) from y.ballot) s g (omega arith) }

  -- ---- 8 NEWSTATE_ACK

  pub newstate_ack_keeps : (from : BoxNo) (b : Ballot) → NewstateAckOk P from x.core.own b → Every (Keeps P x) (on_newstate_ack P x b)
  unfolding on_newstate_ack leading
  newstate_ack_keeps from b O = simp under_or (every_guard _ _ _ (λ h. every_guard _ _ _ (λ k. a_step (go (both k)))))
    where
      go : (same_ballot b x.core.ballot ≡ true) × (same_ballot b x.core.cballot ≡ true)
          → Keeps P x (hand_out P (leading x)).box (hand_out P (leading x)).sent
      go k =
          let S = F.sound in
          let e = ballot_order.eq_says b x.core.ballot k.0 in
          let f = ballot_order.eq_says b x.core.cballot k.1 in
          let o : ballot_of x.core.own x.core.cballot ≡ true = rw f at O.its_ballot in
          let G = put_mode_lem F Leader x.core.ballot x.core.cballot
          (record {
            at_most = S.ballots.at_most;
            equal = λ q. sym f ∙ e;
            ballot_home = S.ballots.ballot_home;
            cballot_home = S.ballots.cballot_home;
            leader = λ q. o;
          })
          S.vote
          in
          keeps_on refl (hand_out_keeps G o)
