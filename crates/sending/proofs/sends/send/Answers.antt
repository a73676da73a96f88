-- `sending::sends::send` meets its contract.
use lib.ListN.{length-drop, length, length-append}
use Rattle.laws.proofs.laws.Tray.{rest_of, onto_nil, for_step, for_none, behind}
use Rattle.laws.specs.Tray.{onto, all_for}
use Rattle.sending.specs.Sends.{addressed, sent_to, sent_bytes, sent_count, meant_below}
use Rattle.sending.proofs.laws.Sends.{sent_meant, sent_spared, addressed_same, copy_sent, copy_fits}
use Rattle.house.proofs.laws.Says.{boxes_most}
use Rattle.house.specs.Plan.{boxes_of}
use Rattle.house.specs.Pairs.{box_no}
use native.Mathlib.Omega.{arith}
use mathlib.Core.Path.{◌≡◌, refl, sym, ap, ◌∙◌}
use mathlib.Core.List.{List}
use Prim.Native.Nat.{ℕ}
use borrow.Author.Rules.{rules}
use Rattle.sending.proofs.sends.send.Goals as goal
use Rattle.sending.proofs.sends.send.Goals.{then-has_mark, else-has_mark}

pub loop-p-init : goal.loop-p-init
unfolding sent_bytes meant_below addressed
loop-p-init c =
    let a = c.args in let e = c.boxes_of-p-end.ensures.0 in
    let z = for_none (sent_to a.plan a.meant a.r) in
    let most = boxes_most a.plan c.requires.0 in let fit = c.requires.1 in
    (search rules, e, rw e most, refl, rw e fit, rw z, refl, search rules, rw z (sym (onto_nil a.t.now)), omega arith, refl)

pub put_record-used-requires : goal.put_record-used-requires
unfolding addressed
put_record-used-requires c =
    let a = c.args in
    let l = c.loop-p in
    let i = l.invariant in
    let e = copy_sent a.plan a.meant a.r l.r l.p (sym c.has_mark.ensures ∙ c.if-has_mark.true) i.10 in
    let f = copy_fits a.plan a.meant a.r l.r c.boxes_of-p-end.result l.p l.used (length a.t.now) e c.loop-p-test.true i.5 i.4 in
    (c.requires.0, rw (rest_of l.used l.t, length-drop) (omega (arith, f, i.3)))

pub overflow_add-used : goal.overflow_add-used
unfolding addressed
overflow_add-used c =
    let a = c.args in
    let l = c.loop-p in
    let i = l.invariant in
    let e = copy_sent a.plan a.meant a.r l.r l.p (sym c.has_mark.ensures ∙ c.if-has_mark.true) i.10 in
    let f = copy_fits a.plan a.meant a.r l.r c.boxes_of-p-end.result l.p l.used (length a.t.now) e c.loop-p-test.true i.5 i.4 in
    omega (arith, f, c.put_record-used.ensures.0)

pub loop-p-preserved : goal.loop-p-preserved
unfolding addressed
loop-p-preserved c =
    let a = c.args in
    let l = c.loop-p in
    let i = l.invariant in
    let f = sent_to a.plan a.meant a.r in
    elim c.if-has_mark.branch [
      | then-has_mark w ↦
          let marked = sym c.has_mark.ensures ∙ w.if-has_mark.true in
          let e = copy_sent a.plan a.meant a.r l.r l.p marked i.10 in
          let room = copy_fits a.plan a.meant a.r l.r c.boxes_of-p-end.result l.p l.used (length a.t.now) e c.loop-p-test.true i.5 i.4 in
          let s = for_step f l.p in
          let q = w.put_record-used in
          let n : q.result ≡ length (f l.p) = q.ensures.0 ∙ ap length (sym e) in
          let m = (sent_meant a.plan a.meant a.r l.p marked).1 in (
            omega arith,
            i.1,
            i.2,
            rw w.t-is (search rules),
            i.4,
            w.used-is ∙ rw (← s, length-append, n, i.5),
            w.records-is ∙ rw (m, i.6),
            rw w.records-is (omega (arith, i.7)),
            w.t-is ∙ behind (all_for f l.p) (f l.p) a.t.now l.t q.new.t l.used i.5 i.8 (rw e q.ensures.1)
                ∙ ap (λ (bs : List ℕ). onto bs a.t.now) s,
            rw w.used-is (omega (arith, room, q.ensures.0)),
            rw w.r-is (addressed_same a.r l.r (box_no l.p) i.10),
          )
      | else-has_mark w ↦
          let m = sent_spared a.plan a.meant a.r l.p (sym c.has_mark.ensures ∙ w.if-has_mark.false) in
          rw (w.t-is, w.r-is, w.used-is, w.records-is, m.0, m.1) (omega arith, i.1, i.2, i.3, i.4, i.5, i.6, omega (arith, i.7), i.8, i.9, i.10)
    ]

pub returns : goal.returns
unfolding sent_bytes sent_count
returns c =
    let a = c.args in
    let l = c.loop-p in
    let e : l.p ≡ boxes_of a.plan = omega (arith, l.invariant.1) in
    let f = all_for (sent_to a.plan a.meant a.r) in (
      l.invariant.5 ∙ ap (λ (n : ℕ). length (f n)) e,
      l.invariant.6 ∙ ap (meant_below a.meant) e,
      l.invariant.8 ∙ ap (λ (n : ℕ). onto (f n) a.t.now) e,
      omega (arith, l.invariant.7, l.invariant.2),
    )
