-- `sending::handing::hand_out` meets its contract.
use Prim.Native.Nat.{ℕ, ◌+◌, ◌-◌, ◌≤◌, ◌<◌}
use mathlib.Core.Bool.{Bool}
use mathlib.Core.List.{List}
use mathlib.Core.Path.{◌≡◌, refl, sym, ap, ◌∙◌}
use native.Mathlib.Omega.{arith}
use lib.ListN.{get_or, length-drop}
use Rattle.laws.specs.Tray.{onto}
use Rattle.laws.proofs.laws.Tray.{onto_nil, rest_of, behind}
use Rattle.house.specs.Limits.{no_job}
use Rattle.house.specs.Pairs.{no_row}
use Rattle.house.specs.declared.Plan.{Plan}
use Rattle.house.proofs.laws.Says.{plan_says}
use Rattle.records.specs.Bytes.{encode_all}
use Rattle.records.specs.Rec.{Rec}
use Rattle.records.proofs.laws.Bytes.{encode_none}
use Rattle.boxes.specs.Box.{put_sent}
use Rattle.boxes.specs.Ready.{next_ready, hand_turns, hand_out}
use Rattle.boxes.specs.declared.BoxState.{BoxState}
use Rattle.boxes.specs.declared.Core.{Core}
use Rattle.boxes.specs.declared.Volatile.{Volatile}
use Rattle.sending.specs.Turns.{box_of, delivers_from}
use Rattle.sending.proofs.laws.Turns.{turn_none, turns_stay, Turn, turn}
use borrow.Author.Rules.{rules}
use Rattle.sending.proofs.handing.hand_out.Goals as goal

-- one turn with ready job j, of a box with this core: what next_ready says of any such box
turning : (P : Plan) (c : Core) (v : Volatile) (i : ℕ) (sent : List Bool) (j : ℕ) → put_sent (box_of c v) sent ≡ (hand_turns P (box_of c v) i).box
    → ((Q : Plan) (x : BoxState) → Q.jobs ≡ P.jobs → x.core.table ≡ c.table → x.core.sent ≡ sent → j ≡ next_ready Q x)
    → j < P.jobs → P.jobs ≤ 64 → i < P.jobs
    → Turn P (box_of c v) i P.jobs sent j (delivers_from P c.own c.cballot (get_or c.table j no_row) j)
turning P c v i sent j held says low most l =
    turn P (box_of c v) i P.jobs sent j held (says P (put_sent (box_of c v) sent) refl refl refl) (λ e. omega arith) l

pub loop-init : goal.loop-init
loop-init c =
    let a = c.args in
    let S = plan_says a.plan c.requires.0 in (
      S.jobs_most,
      refl,
      search rules,
      search rules,
      λ v. let z = turn_none a.plan (box_of a.c v) in let e = encode_none a.plan in
          (rw z, rw (z, e), rw z, rw (z, e) (sym (onto_nil a.t.now))),
    )

pub hand_job-s-requires : goal.hand_job-s-requires
hand_job-s-requires c =
    let a = c.args in
    let l = c.loop in let i = l.invariant in
    let r = c.requires.1 in
    let p = i.4 r.0 in
    let g = turning a.plan a.c r.0 l.counter l.sent _ p.0 c.in-Some.ensures.job c.in-Some.ensures.low i.0 c.loop-test.true in
    (c.requires.0, rw (rest_of l.used l.t, length-drop) (omega (arith, g.fits, p.1, r.1, i.1)))

pub overflow_add-used : goal.overflow_add-used
overflow_add-used c =
    let a = c.args in
    let l = c.loop in let i = l.invariant in
    let r = c.requires.1 in
    let p = i.4 r.0 in
    let g = turning a.plan a.c r.0 l.counter l.sent _ p.0 c.in-Some.ensures.job c.in-Some.ensures.low i.0 c.loop-test.true in
    omega (arith, g.fits, p.1, r.1, c.hand_job-s.ensures.0)

pub loop-preserved : goal.loop-preserved
loop-preserved c =
    let a = c.args in
    let l = c.loop in let i = l.invariant in
    let q = c.hand_job-s in
    let j = c.in-Some.job in
    let more : List Rec = delivers_from a.plan a.c.own a.c.cballot (get_or a.c.table j no_row) j in
    let go = λ (v : Volatile). turning a.plan a.c v l.counter l.sent j (i.4 v).0 c.in-Some.ensures.job c.in-Some.ensures.low i.0 c.loop-test.true in
    let r = c.requires.1 in (
      i.0,
      search rules,
      omega (arith, q.ensures.3, i.2),
      omega (arith, (go r.0).fits, (i.4 r.0).1, r.1, q.ensures.0),
      λ v.
          let g = go v in let p = i.4 v in let old = encode_all a.plan (hand_turns a.plan (box_of a.c v) l.counter).sent in (
            g.box,
            rw (p.1, q.ensures.0) g.count,
            rw (p.2, q.ensures.1) g.number,
            behind old (encode_all a.plan more) a.t.now l.t q.new.t l.used p.1 p.3 q.ensures.2
                ∙ ap (λ (bs : List ℕ). onto bs a.t.now) g.bytes,
          ),
    )

-- once no job is ready, the turns that are left change nothing
pub returns-in_default : goal.returns-in_default
returns-in_default c =
    let a = c.args in
    let l = c.loop in λ v.
    let q = l.invariant.4 v in let x = box_of a.c v in
    let none : next_ready a.plan (hand_turns a.plan x l.counter).box ≡ no_job =
    rw (← q.0) (sym (c.in_default.ensures.job a.plan (put_sent x l.sent) refl refl refl)) in
    let s : l.counter + (a.plan.jobs - l.counter) ≡ a.plan.jobs = omega (arith, c.loop-test.true) in
    let z : hand_out a.plan x ≡ hand_turns a.plan x l.counter =
    sym (ap (hand_turns a.plan x) s) ∙ turns_stay a.plan x l.counter (a.plan.jobs - l.counter) none in
    (rw z q.0, rw z q.1, rw z q.2, rw z q.3)
