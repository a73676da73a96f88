-- Handing out: which job is next, which records go out and in which order, which flags are set; rows stay.
-- A job that is ready at the start, with a smaller global stamp, goes out before.
use Prim.Native.Nat.{ℕ, zero, suc, ◌≤◌, ◌<◌}
use mathlib.Core.Bool.{Bool, true, false, not, ◌&&◌, ◌||◌}
use mathlib.Core.List.{List, [], ◌++◌}
use mathlib.Core.Logic.{◌⊎◌, inl, inr, ◌≢◌}
use mathlib.Core.Path.{◌≡◌, refl, ◌∙◌}
use native.Mathlib.Decide.{ℕ_discrete}
use native.Mathlib.Omega.{arith}
use lib.Dec.{eqb}
use lib.ListN.{length, get_or, set, length-set}
use lib.Seq.{get_or-set_same, get_or-set_other}
use borrow.Author.Tests.{eqb-true, eqb-false, eq-eqb, ne_eqb, not-true}
use Rattle.laws.proofs.laws.Choice.{look, never, pick_when, and_fails, or_fails, or_left, or_right, or_other, not_of, and_left, and_right, and_both, not_off}
use Rattle.laws.proofs.laws.Fold.{upto_keeps, all_says, all_is}
use Rattle.laws.specs.Place.{At, In}
use Rattle.laws.proofs.laws.Place.{Side, before, after, at_nil, at_left, at_lt, at_side, in_left, in_right}
use Rattle.house.specs.Limits.{most_jobs, no_job}
use Rattle.house.specs.Pairs.{stamp_lt}
use Rattle.house.proofs.laws.Orders.{stamp_order}
use Rattle.house.specs.declared.Stamp.{Stamp}
use Rattle.house.specs.declared.BoxNo.{BoxNo}
use Rattle.house.specs.Plan.{boxes_of, same_home}
use Rattle.house.proofs.laws.Says.{same_home_is}
use Rattle.house.specs.declared.Plan.{Plan}
use Rattle.records.specs.Rec.{Rec, deliver}
use Rattle.records.specs.declared.Handout.{Handout}
use Rattle.boxes.specs.Box.{own_of, row_at, sent_at, put_sent}
use Rattle.boxes.specs.Ready.{is_open, open_above, ready, better, next_below, next_ready, delivers, flagged, Handing, hand_next, hand_turns, hand_out}
use Rattle.boxes.specs.declared.BoxState.{BoxState}
use Rattle.in_order.proofs.laws.Compare.{Sooner, Until, le_refl, lt_to_le, le_le, lt_not}
use Rattle.in_order.proofs.laws.Laws.{more_below}
use Rattle.in_order.proofs.laws.Notions.{DelAt}
use Rattle.in_order.proofs.laws.Sends.{in_each, each_in}

-- ---- the next ready job

pub data Best (P : Plan) (x : BoxState) (n b : ℕ) : Type 0 where
  nobody : b ≡ no_job → ((k : ℕ) → k < n → ready P x k ≡ false) → Best P x n b
  best : b < n → ready P x b ≡ true → ((k : ℕ) → k < n → ready P x k ≡ true → Until (row_at x b).global (row_at x k).global) → Best P x n b

-- one job more
module _ (P : Plan) (x : BoxState) (n : ℕ) (few : n ≤ most_jobs) where
  -- a better one
  turn_new : (b : ℕ) → Best P x n b → ready P x n ≡ true → better x b n ≡ true → Best P x (suc n) n
  unfolding better
  turn_new b (nobody e f) r t = best (omega arith) r (more_below (λ k l h. never h (f k l)) (λ _. le_refl stamp_order))
  turn_new b (best l q f) r t =
      let s : stamp_lt (row_at x n).global (row_at x b).global ≡ true = or_other (eqb b no_job) _ t (ne_eqb b no_job (omega arith)) in
      best (omega arith) r (more_below (λ k i h. le_le stamp_order (lt_to_le stamp_order (record { says = s })) (f k i h)) (λ _. le_refl stamp_order))

  -- none better
  turn_old : (b : ℕ) → Best P x n b → (ready P x n && better x b n) ≡ false → Best P x (suc n) b
  unfolding better
  turn_old b (nobody e f) t = nobody e (more_below f (go (and_fails (ready P x n) _ t)))
    where
      go : (ready P x n ≡ false) ⊎ ((eqb b no_job || stamp_lt (row_at x n).global (row_at x b).global) ≡ false) → ready P x n ≡ false
      go (inl h) = h
      go (inr h) = absurd (eqb-false b no_job (or_fails (eqb b no_job) _ h).0 e)
  turn_old b (best l q f) t = best (omega arith) q (more_below f (λ r. go r (and_fails (ready P x n) _ t)))
    where
      go : ready P x n ≡ true → (ready P x n ≡ false) ⊎ ((eqb b no_job || stamp_lt (row_at x n).global (row_at x b).global) ≡ false)
          → Until (row_at x b).global (row_at x n).global
      go r (inl h) = never r h
      go r (inr h) = record { says = (or_fails (eqb b no_job) _ h).1 }

next_best : (P : Plan) (x : BoxState) (n : ℕ) → n ≤ most_jobs → Best P x n (next_below P x n)
unfolding next_below
next_best P x zero few = nobody refl (λ k l. absurd (omega arith))
next_best P x (suc n) few =
    let b = next_below P x n in
    let B = next_best P x n (omega arith) in
    pick_when (λ c. Best P x (suc n) c) (ready P x n && better x b n)
    (λ t. turn_new P x n (omega arith) b B (and_left (ready P x n) (better x b n) t) (and_right (ready P x n) (better x b n) t))
    (λ t. turn_old P x n (omega arith) b B t)

-- ---- what ready says

pub record Ready (P : Plan) (x : BoxState) (j : ℕ) : Type 0 where
  pub phase : (row_at x j).phase ≡ 3
  pub fresh : sent_at x j ≡ false
  pub above : open_above P x (row_at x j).global ≡ true

pub ready_says : (P : Plan) (x : BoxState) (j : ℕ) → ready P x j ≡ true → Ready P x j
unfolding ready
ready_says P x j h =
    let l = and_left (eqb (row_at x j).phase 3 && not (sent_at x j)) _ h in
    record {
      phase = eqb-true (row_at x j).phase 3 (and_left (eqb (row_at x j).phase 3) _ l);
      fresh = not-true (sent_at x j) (and_right (eqb (row_at x j).phase 3) _ l);
      above = and_right (eqb (row_at x j).phase 3 && not (sent_at x j)) _ h;
    }

pub ready_is : (P : Plan) (x : BoxState) (j : ℕ) → Ready P x j → ready P x j ≡ true
unfolding ready
ready_is P x j R =
    and_both (eqb (row_at x j).phase 3 && not (sent_at x j)) _
    (and_both (eqb (row_at x j).phase 3) _ (eq-eqb (row_at x j).phase 3 R.phase) (not_off R.fresh))
    R.above

-- an open job's local stamp is above
pub above_says : (P : Plan) (x : BoxState) (s : Stamp) → open_above P x s ≡ true → (k : ℕ) → k < P.jobs → is_open x k ≡ true → Sooner s (row_at x k).local
unfolding open_above
above_says P x s h k l o =
    record { says = or_other (not (is_open x k)) _ (all_says (λ i. not (is_open x i) || stamp_lt s (row_at x i).local) P.jobs h k l) (not_of o) }

-- a smaller stamp has all open jobs above it too
pub above_down : (P : Plan) (x : BoxState) (s t : Stamp) → open_above P x t ≡ true → Sooner s t → open_above P x s ≡ true
unfolding open_above
above_down P x s t h l = all_is (λ i. not (is_open x i) || stamp_lt s (row_at x i).local) P.jobs (λ k i. go k i (look (is_open x k)))
  where
    go : (k : ℕ) → k < P.jobs → (is_open x k ≡ true) ⊎ (is_open x k ≡ false) → (not (is_open x k) || stamp_lt s (row_at x k).local) ≡ true
    go k i (inl o) =
        let u = or_other (not (is_open x k)) _ (all_says (λ i. not (is_open x i) || stamp_lt t (row_at x i).local) P.jobs h k i) (not_of o) in
        or_right (not (is_open x k)) _ (stamp_order.trans s t (row_at x k).local l.says u)
    go k i (inr o) = or_left (not (is_open x k)) _ (not_off o)

pub open_is : (x : BoxState) (k : ℕ) → (row_at x k).phase ≢ 0 → (row_at x k).phase ≢ 3 → (row_at x k).phase ≤ 3 → is_open x k ≡ true
unfolding is_open
open_is x k n u l = go (ℕ_discrete (row_at x k).phase 1)
  where
    go : Dec ((row_at x k).phase ≡ 1) → (eqb (row_at x k).phase 1 || eqb (row_at x k).phase 2) ≡ true
    go (yes e) = or_left (eqb (row_at x k).phase 1) _ (eq-eqb (row_at x k).phase 1 e)
    go (no e) = or_right (eqb (row_at x k).phase 1) _ (eq-eqb (row_at x k).phase 2 (omega arith))

-- ---- the turns

-- a box with other flags: all else as before
flags_only : (P : Plan) (x : BoxState) (l : List Bool) (j : ℕ) → ready P (put_sent x l) j ≡ true → sent_at x j ≡ false → ready P x j ≡ true
unfolding ready open_above is_open row_at
flags_only P x l j h f =
    let g = and_left (eqb (row_at x j).phase 3 && not (sent_at (put_sent x l) j)) _ h in
    and_both (eqb (row_at x j).phase 3 && not (sent_at x j)) _
    (and_both (eqb (row_at x j).phase 3) _ (and_left (eqb (row_at x j).phase 3) _ g) (not_off f))
    (and_right (eqb (row_at x j).phase 3 && not (sent_at (put_sent x l) j)) _ h)

flags_back : (P : Plan) (x : BoxState) (l : List Bool) (j : ℕ) → ready P x j ≡ true → sent_at (put_sent x l) j ≡ false → ready P (put_sent x l) j ≡ true
unfolding ready open_above is_open row_at
flags_back P x l j h f =
    let g = and_left (eqb (row_at x j).phase 3 && not (sent_at x j)) _ h in
    and_both (eqb (row_at x j).phase 3 && not (sent_at (put_sent x l) j)) _
    (and_both (eqb (row_at x j).phase 3) _ (and_left (eqb (row_at x j).phase 3) _ g) (not_off f))
    (and_right (eqb (row_at x j).phase 3 && not (sent_at x j)) _ h)

-- what is sent for job j, from x's rows
abbrev pub handout : BoxState → ℕ → Handout
handout x j = record { ballot = x.core.cballot; local = (row_at x j).local; global = (row_at x j).global }

-- a record at place i of what was sent: of a job that was ready, and behind those of smaller stamps that were
pub record Gone (P : Plan) (x : BoxState) (l : List Rec) (i : ℕ) (r : Rec) : Type 0 where
  pub job : ℕ
  pub low : job < P.jobs
  pub ready_it : ready P x job ≡ true
  pub to : BoxNo
  pub is : r ≡ deliver (own_of x) to job (handout x job)
  pub first : (k : ℕ) → k < P.jobs → ready P x k ≡ true → Sooner (row_at x k).global (row_at x job).global
      → (i' : ℕ) × (i' < i) × DelAt l i' k x.core.cballot (row_at x k).local (row_at x k).global

pub record Turned (P : Plan) (x : BoxState) (l : List Bool) (s : List Rec) : Type 0 where
  pub size : length l ≡ length x.core.sent
  pub stays : (m : ℕ) → sent_at x m ≡ true → get_or l m false ≡ true
  -- a flag set is of a job that went out
  pub set_for : (m : ℕ) → get_or l m false ≡ true → (sent_at x m ≡ true) ⊎ In (deliver (own_of x) (own_of x) m (handout x m)) s
  -- what went out was ready, in order, and is flagged
  pub gone : (i : ℕ) (r : Rec) → At s i r → Gone P x s i r
  pub flags : (i : ℕ) {from to : BoxNo} {m : ℕ} {y : Handout} → At s i (deliver from to m y) → get_or l m false ≡ true

-- the flags set and the records sent after some turns
pub record Handed (P : Plan) (x : BoxState) (h : Handing) : Type 0 where
  pub flags : List Bool
  pub box_is : h.box ≡ put_sent x flags
  pub turned : Turned P x flags h.sent

-- one turn more, with job j next
module _ (P : Plan) (x : BoxState) (known : (own_of x).0 < boxes_of P) (long : length x.core.sent ≡ most_jobs) (few : P.jobs ≤ most_jobs)
    (l : List Bool) (s : List Rec) (T : Turned P x l s) (j : ℕ) (low : j < P.jobs) (r : ready P (put_sent x l) j ≡ true)
    (least : (k : ℕ) → k < P.jobs → ready P (put_sent x l) k ≡ true → Until (row_at (put_sent x l) j).global (row_at (put_sent x l) k).global) where
  goes : List Rec
  goes = delivers P (put_sent x l) j

  unflagged : get_or l j false ≡ false
  unfolding sent_at
  unflagged = (ready_says P (put_sent x l) j r).fresh

  was_ready : ready P x j ≡ true
  was_ready = flags_only P x l j r (go (look (sent_at x j)))
    where
      go : (sent_at x j ≡ true) ⊎ (sent_at x j ≡ false) → sent_at x j ≡ false
      go (inl e) = never (T.stays j e) unflagged
      go (inr e) = e

  in_goes : {q : Rec} → In q goes → (to : BoxNo) × (q ≡ deliver (own_of x) to j (handout x j))
  unfolding goes delivers row_at
  in_goes h = let z = in_each h in (z.to, z.is)

  own_goes : In (deliver (own_of x) (own_of x) j (handout x j)) goes
  unfolding goes delivers row_at
  own_goes =
      each_in
      P
      (λ p. same_home P p (own_of x))
      (λ to. deliver (own_of x) to j (record { ballot = x.core.cballot; local = (row_at x j).local; global = (row_at x j).global }))
      (own_of x)
      known
      (same_home_is P (own_of x) (own_of x) refl)

  -- jobs of smaller stamps that were ready went out before
  went : (k : ℕ) → k < P.jobs → ready P x k ≡ true → Sooner (row_at x k).global (row_at x j).global → In (deliver (own_of x) (own_of x) k (handout x k)) s
  unfolding row_at sent_at
  went k lk rk e = go (look (get_or l k false))
    where
      flagged_it : (sent_at x k ≡ true) ⊎ In (deliver (own_of x) (own_of x) k (handout x k)) s → In (deliver (own_of x) (own_of x) k (handout x k)) s
      flagged_it (inl t) = never t (ready_says P x k rk).fresh
      flagged_it (inr i) = i

      go : (get_or l k false ≡ true) ⊎ (get_or l k false ≡ false) → In (deliver (own_of x) (own_of x) k (handout x k)) s
      go (inl t) = flagged_it (T.set_for k t)
      go (inr t) = lt_not stamp_order e (least k lk (flags_back P x l k rk t))

  turned : Turned P x (set l j true) (s ++ goes)
  turned =
      record {
        size = length-set l j true ∙ T.size;
        stays = λ m h. at_flag m (λ _. refl) (λ _. T.stays m h);
        set_for = λ m h. set_for m h (ℕ_discrete m j);
        gone = λ i q h. gone i q (at_side s goes i h);
        flags = λ i h. flags i (at_side s goes i h);
      }
    where
      inside : j < length l
      inside = let e = T.size in omega arith

      at_flag : (m : ℕ) → (m ≡ j → true ≡ true) → (m ≢ j → get_or l m false ≡ true) → get_or (set l j true) m false ≡ true
      at_flag m f g = go (ℕ_discrete m j)
        where
          go : Dec (m ≡ j) → get_or (set l j true) m false ≡ true
          go (yes e) = rw (e, get_or-set_same l j true false inside)
          go (no e) = rw (get_or-set_other l j m true false e) (g e)

      set_for : (m : ℕ) → get_or (set l j true) m false ≡ true → Dec (m ≡ j)
          → (sent_at x m ≡ true) ⊎ In (deliver (own_of x) (own_of x) m (handout x m)) (s ++ goes)
      set_for m h (yes e) = inr (in_right s goes (rw e own_goes))
      set_for m h (no e) = old (T.set_for m (rw (get_or-set_other l j m true false e) at h))
        where
          old : (sent_at x m ≡ true) ⊎ In (deliver (own_of x) (own_of x) m (handout x m)) s
              → (sent_at x m ≡ true) ⊎ In (deliver (own_of x) (own_of x) m (handout x m)) (s ++ goes)
          old (inl t) = inl t
          old (inr i) = inr (in_left s goes i)

      gone : (i : ℕ) (q : Rec) → Side s goes i q → Gone P x (s ++ goes) i q
      gone i q (before h) =
          let G = T.gone i q h in
          record {
            job = G.job;
            low = G.low;
            ready_it = G.ready_it;
            to = G.to;
            is = G.is;
            first =
                λ k lk rk e.
                let z = G.first k lk rk e in (z.0, z.1, record { from = z.2.from; to = z.2.to; there = at_left s goes z.0 z.2.there });
          }
      gone i q (after n e h) =
          let z = in_goes (record { place = n; there = h }) in
          record {
            job = j;
            low = low;
            ready_it = was_ready;
            to = z.0;
            is = z.1;
            first = λ k lk rk o. let W = went k lk rk o in
                let b = at_lt s W.place W.there in
                (W.place, omega arith, record { from = own_of x; to = own_of x; there = at_left s goes W.place W.there });
          }

      flags : (i : ℕ) {from to : BoxNo} {m : ℕ} {y : Handout} → Side s goes i (deliver from to m y) → get_or (set l j true) m false ≡ true
      flags i {m = m} (before h) = at_flag m (λ _. refl) (λ _. T.flags i h)
      flags i {m = m} (after n e h) =
          let z = in_goes (record { place = n; there = h }) in let q = z.1 in let em : m ≡ j = cc in at_flag m (λ _. refl) (λ d. absurd (d em))

hand_next_lem : (P : Plan) (x : BoxState) → (own_of x).0 < boxes_of P → length x.core.sent ≡ most_jobs → P.jobs ≤ most_jobs → (h : Handing) → Handed P x h
    → Handed P x (hand_next P h)
unfolding hand_next flagged goes
hand_next_lem P x known long few h H =
    pick_when (λ c. Handed P x c) (eqb (next_ready P h.box) no_job) (λ _. H)
    (λ t. step h.box H.box_is t)
  where
    turn : (j : ℕ) → eqb j no_job ≡ false → Best P (put_sent x H.flags) P.jobs j
        → Turned P x (set H.flags j true) (h.sent ++ delivers P (put_sent x H.flags) j)
    turn j t (nobody e f) = absurd (eqb-false j no_job t e)
    turn j t (best low r f) = turned P x known long few H.flags h.sent H.turned j low r f

    step : (y : BoxState) → y ≡ put_sent x H.flags → eqb (next_ready P y) no_job ≡ false
        → Handed P x (record { box = flagged y (next_ready P y); sent = h.sent ++ delivers P y (next_ready P y) })
    step y e t =
        let z = put_sent x H.flags in
        let j = next_ready P z in
        let T = turn j (rw e at t) (next_best P z P.jobs few) in
        rw e (record { flags = set H.flags j true; box_is = flag z j; turned = T })
      where
        flag : (z : BoxState) (j : ℕ) → flagged z j ≡ put_sent z (set z.core.sent j true)
        flag z j = refl

pub hand_out_lem : (P : Plan) (x : BoxState) → (own_of x).0 < boxes_of P → length x.core.sent ≡ most_jobs → P.jobs ≤ most_jobs → Handed P x (hand_out P x)
unfolding hand_turns sent_at
hand_out_lem P x known long few =
    upto_keeps (λ h. Handed P x h) (λ h i. hand_next P h) (record { box = x; sent = [] }) P.jobs
    (record {
      flags = x.core.sent;
      box_is = refl;
      turned
          =
          record
          { size = refl; stays = flag_is; set_for = λ m e. inl (is_flag m e); gone = λ i r a. absurd (at_nil i a); flags = λ i a. absurd (at_nil i a) };
    })
    (λ h i _ H. hand_next_lem P x known long few h H)
  where
    flag_is : (m : ℕ) → sent_at x m ≡ true → get_or x.core.sent m false ≡ true
    flag_is m e = e

    is_flag : (m : ℕ) → get_or x.core.sent m false ≡ true → sent_at x m ≡ true
    is_flag m e = e
