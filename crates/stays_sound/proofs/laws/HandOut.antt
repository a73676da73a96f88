-- A hand-out keeps the box sound: each turn sets the flag of one job below J and sends its DELIVERs to the own district.
-- All its records together have at most 4,032 bytes.
use Prim.Native.Nat.{ℕ, zero, suc, ◌*◌, ◌≤◌, ◌<◌}
use mathlib.Core.Bool.{true, false, ◌&&◌}
use mathlib.Core.List.{◌++◌}
use mathlib.Core.Logic.{◌⊎◌, inl, inr, ◌≢◌}
use mathlib.Core.Path.{◌≡◌, refl, sym, ◌∙◌}
use native.Mathlib.Nat.{suc-mul}
use native.Mathlib.Omega.{arith}
use lib.ListN.{length, get_or, set, length-append, length-set}
use lib.Seq.{get_or-set_other}
use lib.Dec.{eqb}
use borrow.Author.Tests.{eqb-true, eqb-false}
use Rattle.laws.specs.Choice.{pick}
use Rattle.laws.proofs.laws.Choice.{pick_when, both}
use Rattle.laws.proofs.laws.Fold.{upto_keeps}
use Rattle.laws.specs.Place.{In}
use Rattle.laws.proofs.laws.Place.{in_nil, in_cases}
use Rattle.house.specs.Limits.{no_job}
use Rattle.house.specs.Pairs.{no_row, ballot_of}
use Rattle.house.specs.Plan.{size_of, home_of, same_home}
use Rattle.house.proofs.laws.Says.{plan_says, same_home_says}
use Rattle.house.specs.declared.Plan.{Plan}
use Rattle.records.specs.Rec.{Rec, deliver}
use Rattle.records.specs.declared.Handout.{Handout}
use Rattle.records.proofs.laws.Rows.{row_done}
use Rattle.boxes.specs.Box.{own_of, row_at}
use Rattle.boxes.specs.Ready.{ready, better, next_below, next_ready, delivers, flagged, Handing, hand_next, hand_turns, hand_out}
use Rattle.boxes.specs.declared.BoxState.{BoxState}
use Rattle.stays_sound.proofs.laws.Sends.{AllGood, good_nil, good_by, good_append, good_each, in_each, home_most}
use Rattle.stays_sound.proofs.laws.Size.{size_of_rec, hand_out_most}
use Rattle.stays_sound.proofs.laws.Changes.{Fine, put_sent_lem}
use Rattle.stays_sound.proofs.laws.Goods.{good_deliver, named_job, fits_few, Keeps}

-- the next ready job: none, or a job below n that is ready
pub data Next (P : Plan) (x : BoxState) (n j : ℕ) : Type 0 where
  none_next : j ≡ no_job → Next P x n j
  is_next : j < n → ready P x j ≡ true → Next P x n j

pub next_says : (P : Plan) (x : BoxState) (n : ℕ) → Next P x n (next_below P x n)
unfolding next_below
next_says P x n =
    upto_keeps (Next P x n) (λ best j. pick (ready P x j && better x best j) j best) no_job n (none_next refl)
    (λ best j l q. pick_when (Next P x n) (ready P x j && better x best j) (λ h. is_next l (both h).0) (λ h. q))

-- ---- one job goes out

-- what its DELIVERs say
abbrev handout_of : BoxState → ℕ → Handout
handout_of x j = record { ballot = x.core.cballot; local = (row_at x j).local; global = (row_at x j).global }

-- the flag of a job
flagged_fine : {P : Plan} {x : BoxState} (j : ℕ) → Fine P x → j < P.jobs → Fine P (flagged x j)
unfolding flagged
flagged_fine {P} {x} j F l =
    put_sent_lem F (set x.core.sent j true) (length-set x.core.sent j true ∙ F.lengths.sent)
    (record { behind = λ k n m. get_or-set_other x.core.sent j k true false (λ e. omega arith) ∙ F.sound.sent.behind k n m })

-- its DELIVERs: phase 3 has both stamps, and the job names the district
delivers_good : {P : Plan} {x : BoxState} (j : ℕ) → Fine P x → ballot_of x.core.own x.core.cballot ≡ true → j < P.jobs → ready P x j ≡ true
    → AllGood P x.core.own (delivers P x j)
unfolding delivers ready row_at
delivers_good {P} {x} j F b l r =
    let S = F.sound in
    let m = (plan_says P S.plan).jobs_most in
    let p = eqb-true (get_or x.core.table j no_row).phase 3 (both (both r).0).0 in
    let d = row_done (S.table.row j (omega arith)) p in
    good_each (λ p. same_home P p (own_of x)) (λ to. deliver (own_of x) to j (handout_of x j))
    (λ to h k.
    let e = same_home_says P to x.core.own k in
    good_deliver S.plan j (handout_of x j)
    (record {
      near = record { sender = S.own; addressee = h; home = sym e };
      job = named_job P j (home_of P x.core.own) d.0;
      own_ballot = b;
      stamps = d.1;
    })
    (rw e d.0))

delivers_few : (P : Plan) (x : BoxState) (j : ℕ) → length (delivers P x j) ≤ size_of P
unfolding delivers
delivers_few P x j =
    home_most P (λ p. same_home P p (own_of x)) (λ to. deliver (own_of x) to j (handout_of x j)) (home_of P x.core.own)
    (λ p h. same_home_says P p x.core.own h)

delivers_short : (P : Plan) (x : BoxState) (j : ℕ) (m : Rec) → In m (delivers P x j) → size_of_rec P m ≤ 21
unfolding delivers
delivers_short P x j m i =
    let z = in_each P (λ p. same_home P p (own_of x)) (λ to. deliver (own_of x) to j (handout_of x j)) i in
    rw z.is (omega arith)

-- ---- all turns

-- a box while it hands out, after i turns from x on
pub record Handed (P : Plan) (x : BoxState) (i : ℕ) (h : Handing) : Type 0 where
  pub fine : Fine P h.box
  pub same : h.box.core.own ≡ x.core.own
  pub leads : ballot_of h.box.core.own h.box.core.cballot ≡ true
  pub good : AllGood P x.core.own h.sent
  pub few : length h.sent ≤ i * size_of P
  pub short : (m : Rec) → In m h.sent → size_of_rec P m ≤ 21

module _ {P : Plan} {x : BoxState} where
  hand_one : (i : ℕ) (h : Handing) (j : ℕ) → Handed P x i h → j < P.jobs → ready P h.box j ≡ true
      → Handed P x (suc i) (record { box = flagged h.box j; sent = h.sent ++ delivers P h.box j })
  unfolding flagged
  hand_one i h j H l r =
      record {
        fine = flagged_fine j H.fine l;
        same = H.same;
        leads = H.leads;
        good = good_append H.good (good_by H.same (delivers_good j H.fine H.leads l r));
        few = let a = H.few in let b = delivers_few P h.box j in rw (length-append, suc-mul) (omega arith);
        short = λ m i. shorter m (in_cases h.sent (delivers P h.box j) i);
      }
    where
      shorter : (m : Rec) → In m h.sent ⊎ In m (delivers P h.box j) → size_of_rec P m ≤ 21
      shorter m (inl i) = H.short m i
      shorter m (inr i) = delivers_short P h.box j m i

  -- a turn, whether or not a job is ready
  hand_next_lem : (i : ℕ) (h : Handing) → Handed P x i h → Handed P x (suc i) (hand_next P h)
  unfolding hand_next
  hand_next_lem i h H =
      pick_when (Handed P x (suc i)) (eqb (next_ready P h.box) no_job)
      (λ e. record { fine = H.fine; same = H.same; leads = H.leads; good = H.good; few = let a = H.few in rw suc-mul (omega arith); short = H.short })
      (λ e. go (eqb-false (next_ready P h.box) no_job e) (next_says P h.box P.jobs))
    where
      j : ℕ
      j = next_ready P h.box

      go : j ≢ no_job → Next P h.box P.jobs j → Handed P x (suc i) (record { box = flagged h.box j; sent = h.sent ++ delivers P h.box j })
      go n (none_next e) = absurd (n e)
      go n (is_next l r) = hand_one i h j H l r

  hand_turns_lem : Fine P x → ballot_of x.core.own x.core.cballot ≡ true → (n : ℕ) → Handed P x n (hand_turns P x n)
  unfolding hand_turns
  hand_turns_lem F b zero = record { fine = F; same = refl; leads = b; good = good_nil; few = omega arith; short = λ m i. absurd (in_nil i) }
  hand_turns_lem F b (suc n) = hand_next_lem n (hand_turns P x n) (hand_turns_lem F b n)

  -- a whole hand-out: at most as many turns as jobs, each to the boxes of one district
  pub hand_out_keeps : Fine P x → ballot_of x.core.own x.core.cballot ≡ true → Keeps P x (hand_out P x).box (hand_out P x).sent
  hand_out_keeps F b =
      let s = F.sound.plan in
      let H = hand_turns_lem F b P.jobs in
      let r = fits_few 21 (P.jobs * size_of P) (hand_out P x).sent s H.good H.few H.short in
      record { fine = H.fine; same = H.same; good = H.good; fits = omega (arith, hand_out_most P s) }
