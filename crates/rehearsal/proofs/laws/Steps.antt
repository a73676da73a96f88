-- Laws of what specs/Steps.antt defines.
use Rattle.std.specs.Prelude.{Result, Err, Ok}
use Prim.Native.Nat.{ℕ, ◌+◌, ◌-◌, ◌≤◌, ◌<◌}
use mathlib.Core.Bool.{true, false}
use mathlib.Core.List.{List}
use mathlib.Core.Path.{◌≡◌, refl, sym, ap, subst, ◌∙◌}
use native.Mathlib.Omega.{arith}
use lib.ListN.{length, take, drop, get_or}
use lib.Dec.{ltb}
use borrow.Author.Tests.{le-leb, ltb-true}
use Rattle.laws.specs.Choice.{pick}
use Rattle.laws.proofs.laws.Choice.{pick_when, and_right}
use Rattle.house.specs.Limits.{most_jobs, least_tray}
use Rattle.house.specs.Plan.{boxes_of, is_job, plan_sound}
use Rattle.house.proofs.laws.Says.{plan_says}
use Rattle.house.specs.declared.Plan.{Plan}
use Rattle.house.specs.declared.Order.{Order}
use Rattle.house.specs.declared.Order.TheVariants.{Post, Stand, Retry, Cut, Carry}
use Rattle.records.specs.Answers.{Answer, done}
use Rattle.records.specs.declared.answers.Refusal.TheVariants.{NotSound, SmallTray, NoSuch}
use Rattle.records.specs.Bytes.{length_of}
use Rattle.records.specs.Rec.{meaning}
use Rattle.records.specs.declared.Record.{Record}
use Rattle.records.specs.declared.answers.Refusal.{Refusal}
use Rattle.records.proofs.laws.Answers.{no_done, no_is, ok_is}
use Rattle.records.proofs.laws.Outcome.{with_value}
use Rattle.post.specs.Posting.{length_at, start_of, bytes_from}
use Rattle.post.proofs.laws.Posting.{part_from}
use Rattle.boxes.specs.Sound.{sound}
use Rattle.boxes.specs.Out.{Out, refused, does, under}
use Rattle.boxes.specs.Retry.{retry}
use Rattle.boxes.specs.Stand.{stand}
use Rattle.boxes.specs.Promise.{was_done, box_after}
use Rattle.boxes.specs.Step.{receives, retried, stood, cut_off}
use Rattle.boxes.specs.declared.BoxState.{BoxState}
use Rattle.stays_sound.proofs.laws.Sends.{Every, no_step, a_step}
use Rattle.boxes.specs.Lengths.{Lengths}
use Rattle.boxes.proofs.laws.Sound.{sound_is}
use Rattle.stays_sound.proofs.laws.Goods.{Keeps}
use Rattle.stays_sound.proofs.laws.Steps.{retried_every, stood_every, cut_off_every, posts_fit}
use Rattle.steps.proofs.laws.Acting.{every_fits, guard_on}
use Rattle.steps.proofs.laws.Judged.{judged_done}
use Rattle.steps.specs.Judging.{Judging}
use Rattle.steps.proofs.laws.Judging.{guard_off, receives_every}
use Rattle.rehearsal.specs.Night.{exists, if_fits}
use Rattle.rehearsal.specs.Alone.{here, acts_on, alone}
use Rattle.rehearsal.specs.Steps.{step_of, Can, Goes, Judges}

-- ---- refused, or not

pub judges_no : {P : Plan} {used : ℕ} {x : BoxState} {s : List ℕ} {o : Order} (why : Refusal) → alone P used x s o ≡ refused why
    → Judges P used x s o (Err why)
judges_no why e = record { refuse = λ m q. e ∙ ap refused (no_is q); go = λ r q. no_done q }

pub judges_go : {P : Plan} {used : ℕ} {x : BoxState} {s : List ℕ} {o : Order} {r : Record} → Goes P used x s o r → Judges P used x s o (Ok r)
judges_go {P} {used} {x} {s} {o} {r} g =
    record { refuse = λ m q. no_done (sym q); go = λ v q. subst (Goes P used x s o) (ok_is q) g }

pub judges_as : {P : Plan} {used : ℕ} {x : BoxState} {s : List ℕ} {o p : Order} {a : Result Record Refusal} → o ≡ p → Judges P used x s p a
    → Judges P used x s o a
judges_as e J = rw e J

module _ (P : Plan) (used : ℕ) (x : BoxState) (s : List ℕ) (o : Order) where
  pub plan_off : plan_sound P ≡ false → alone P used x s o ≡ refused NotSound
  plan_off h = guard_off NotSound _ h

  pub none_such : plan_sound P ≡ true → exists P (here used) s o ≡ false → alone P used x s o ≡ refused NoSuch
  none_such p h = guard_on NotSound _ p ∙ guard_off NoSuch _ h

  pub some_such : plan_sound P ≡ true → exists P (here used) s o ≡ true → alone P used x s o ≡ if_fits P (here used) s (acts_on P used x s o)
  some_such p h = guard_on NotSound _ p ∙ guard_on NoSuch _ h

  -- the box refuses it
  pub acts_no : (why : Refusal) → plan_sound P ≡ true → exists P (here used) s o ≡ true → acts_on P used x s o ≡ refused why → alone P used x s o ≡ refused why
  acts_no why p h e = some_such p h ∙ ap (if_fits P (here used) s) e

  -- the box does it
  pub acts_on_lem : (r : Record) → plan_sound P ≡ true → exists P (here used) s o ≡ true → acts_on P used x s o ≡ step_of P x o r
      → alone P used x s o ≡ if_fits P (here used) s (step_of P x o r)
  acts_on_lem r p h e = some_such p h ∙ ap (if_fits P (here used) s) e

every_stays : (P : Plan) (x : BoxState) (o : Out) → Every (Keeps P x) o → sound P x ≡ true → sound P (box_after x o) ≡ true
every_stays P x (refused why) no_step h = h
every_stays P x (does y l d) (a_step K) h = sound_is P y K.fine.sound

-- a step that keeps the box sound goes
module _ {P : Plan} {used : ℕ} {x : BoxState} {s : List ℕ} {o : Order} {r : Record} where
  pub goes_kept : plan_sound P ≡ true → exists P (here used) s o ≡ true → Can P x o r → was_done (step_of P x o r) ≡ true
      → acts_on P used x s o ≡ step_of P x o r
      → Every (Keeps P x) (acts_on P used x s o)
      → Goes P used x s o r
  goes_kept p h c d e K =
      let K' : Every (Keeps P x) (step_of P x o r) = rw (← e) K in
      record {
        plan_is_sound = p;
        there = h;
        can = c;
        done = d;
        fits = every_fits K';
        is = acts_on_lem P used x s o r p h e;
        stays =
            every_stays P x (step_of P x o r) K';
      }

-- the answer is that of its box
pub answers : {P : Plan} {used : ℕ} {x : BoxState} {s : List ℕ} {o : Order} (r : Record) → plan_sound P ≡ true → exists P (here used) s o ≡ true
    → (a : Answer) → acts_on P used x s o ≡ under a (step_of P x o r)
    → (a ≡ done → Can P x o r) → was_done (step_of P x o r) ≡ true → Every (Keeps P x) (acts_on P used x s o)
    → Judges P used x s o (with_value r a)
answers {P} {used} {x} {s} {o} r p h (Err why) e c d K = judges_no why (acts_no P used x s o why p h e)
answers {P} {used} {x} {s} {o} r p h (Ok u) e c d K = judges_go (goes_kept p h (c refl) d e K)

-- ---- each order

-- a job of the plan has a place in each array
pub job_low : (P : Plan) (j : ℕ) → plan_sound P ≡ true → is_job P j ≡ true → j < most_jobs
unfolding is_job
job_low P j p h = omega (arith, ltb-true j P.jobs h, (plan_says P p).jobs_most)

-- post: no box is asked
pub goes_post : (P : Plan) (used : ℕ) (x : BoxState) (s : List ℕ) (j : ℕ) (r : Record) → plan_sound P ≡ true → exists P (here used) s (Post j) ≡ true
    → Goes P used x s (Post j) r
unfolding acts_on exists
goes_post P used x s j r p h =
    let f = posts_fit P j p in
    record {
      plan_is_sound = p;
      there = h;
      can = job_low P j p h;
      done = refl;
      fits = omega arith;
      is = acts_on_lem P used x s (Post j) r p h refl;
      stays = λ q. q;
    }

pub retry_low : (P : Plan) (used : ℕ) (s : List ℕ) (p j : ℕ) → plan_sound P ≡ true → exists P (here used) s (Retry p j) ≡ true → j < most_jobs
unfolding exists
retry_low P used s p j h e = job_low P j h (and_right (ltb p (boxes_of P)) (is_job P j) e)

-- a box that is not sound answers 1
module _ (P : Plan) (used : ℕ) (x : BoxState) (s : List ℕ) (h : sound P x ≡ false) where
  pub stand_unsound : (p : ℕ) → acts_on P used x s (Stand p) ≡ refused NotSound
  unfolding acts_on stood
  stand_unsound p = guard_off NotSound _ h

  pub retry_unsound : (p j : ℕ) → acts_on P used x s (Retry p j) ≡ refused NotSound
  unfolding acts_on retried
  retry_unsound p j = guard_off NotSound _ h

  pub cut_unsound : (p : ℕ) → acts_on P used x s (Cut p) ≡ refused NotSound
  unfolding acts_on cut_off
  cut_unsound p = guard_off NotSound _ h

  pub carry_unsound : (k : ℕ) → acts_on P used x s (Carry k) ≡ refused NotSound
  unfolding acts_on receives
  carry_unsound k = guard_off NotSound _ h

-- a sound box, with a tray of the rehearsal's own
module _ (P : Plan) (used : ℕ) (x : BoxState) (s : List ℕ) (h : sound P x ≡ true) where
  pub stand_acts : (p : ℕ) → acts_on P used x s (Stand p) ≡ stand P x
  unfolding acts_on stood
  stand_acts p = guard_on NotSound _ h ∙ guard_on SmallTray (stand P x) (le-leb least_tray least_tray (omega arith))

  pub retry_acts : (p j : ℕ) → acts_on P used x s (Retry p j) ≡ retry P x j
  unfolding acts_on retried
  retry_acts p j = guard_on NotSound _ h ∙ guard_on SmallTray (retry P x j) (le-leb least_tray least_tray (omega arith))

  pub cut_acts : (p : ℕ) (r : Record) → acts_on P used x s (Cut p) ≡ step_of P x (Cut p) r
  unfolding acts_on cut_off
  cut_acts p r = guard_on NotSound _ h

  module _ (L : Lengths x) where
    pub stand_keeps : (p : ℕ) → Every (Keeps P x) (acts_on P used x s (Stand p))
    unfolding acts_on
    stand_keeps p = stood_every P x least_tray L

    pub retry_keeps : (p j : ℕ) → Every (Keeps P x) (acts_on P used x s (Retry p j))
    unfolding acts_on
    retry_keeps p j = retried_every P x j least_tray L

    pub cut_keeps : (p : ℕ) → Every (Keeps P x) (acts_on P used x s (Cut p))
    unfolding acts_on
    cut_keeps p = cut_off_every P x L

-- a carry: what the box answered to the record's bytes
pub carry_judges : (P : Plan) (used : ℕ) (x : BoxState) (s : List ℕ) (k : ℕ) (a : Result Record Refusal) → plan_sound P ≡ true
    → exists P (here used) s (Carry k) ≡ true → Lengths x
    → Judging P x (bytes_from P s (start_of P s used k)) a → Judges P used x s (Carry k) a
unfolding acts_on
carry_judges P used x s k a p h L J =
    record {
      refuse = λ why q. acts_no P used x s (Carry k) why p h (J.refuse why q least_tray (omega arith));
      go =
          λ r q.
          let g = J.go r q least_tray (omega arith) in
          goes_kept
          p
          h
          (g.1, J.taken r q)
          (judged_done P x (meaning r) (J.taken r q))
          g.0
          (receives_every P x least_tray (bytes_from P s (start_of P s used k)) L);
    }

-- the bytes of the record that is carried
pub carry_bytes : (P : Plan) (used : ℕ) (s : List ℕ) (k start from end kind len : ℕ) → start ≡ start_of P s used k
    → kind ≡ get_or s (start + 1) 0 → len ≡ length_of P kind
    → from ≡ pick (ltb start (length s)) start (length s) → end ≡ pick (ltb (start + len) (length s)) (start + len) (length s)
    → take (end - from) (drop from s) ≡ bytes_from P s (start_of P s used k)
unfolding bytes_from length_at
carry_bytes P used s k start from end kind len es ek el ef ee = part_from s start len from end ef ee ∙ rw (el, ek, es)

pub part_up : (at n m f e : ℕ) → f ≤ m → f ≤ at → e ≡ pick (ltb (at + n) m) (at + n) m → f ≤ e
part_up at n m f e hl ha ee = rw ee (pick_when (λ k. f ≤ k) (ltb (at + n) m) (λ h. omega arith) (λ h. hl))
