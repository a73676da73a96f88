-- `closing::closing::put_boxes` meets its contract.
use Rattle.closing.specs.Closing.{box_report}
use Rattle.closing.specs.Endings.{jobs_of, shown_of}
use Rattle.closing.specs.Ends.{AllEnded}
use Rattle.closing.proofs.laws.Ends.{none_ended, of_boxes}
use Rattle.closing.proofs.laws.Laws.{with_boxes}
use Rattle.rehearsal.specs.Night.{box_in}
use Rattle.boxes.specs.declared.BoxState.{BoxState}
use Rattle.report.specs.Report.{box_text}
use Rattle.laws.specs.Tray.{onto, all_for}
use Rattle.laws.proofs.laws.Tray.{onto_nil, then, for_step}
use Rattle.std.proofs.Common.{rules, arith, ℕ, ◌≡◌, ◌-◌, ◌<◌, refl, sym, ap, subst, ◌∙◌, List, length}
use Rattle.std.proofs.lemmas.List.{get_or-take, get_or_default}
use borrow.Rule.Slice.PartMut.{mid_of}
use Rattle.closing.proofs.closing.put_boxes.Invariants.{lines}
use Rattle.closing.proofs.closing.put_boxes.Goals as goal

pub loop-i-init : goal.loop-i-init
unfolding all_for
loop-i-init c =
    (search rules, refl, sym (onto_nil _), rw c.no_ends-ends.ensures (none_ended (with_boxes c.args.night.boxes)))

pub loop-i-preserved : goal.loop-i-preserved
unfolding box_report box_in
loop-i-preserved c =
    let a = c.args in
    let l = c.loop-i in
    let q = c.put_box-used in
    let N = with_boxes a.night.boxes in
    let low : l.i < a.n = search rules in
    let same = get_or-take a.n a.night.boxes l.i _ low ∙ get_or_default a.night.boxes l.i _ _ (search rules) in
    let v = ap (λ (x : BoxState). box_text l.i (jobs_of x) (shown_of x)) same in
    let s = for_step (box_report N) l.i in
    let k =
    then (lines a.night.boxes l.i) (box_report N l.i) a.t.now _ _ _ _ l.invariant.1 l.invariant.2
    (q.ensures.1 ∙ ap length v)
    (q.ensures.2 ∙ ap (λ (bs : List ℕ). onto bs (mid_of l.used (length l.t - l.used) l.t)) v) in (
      omega (arith, q.ensures.0),
      k.0 ∙ ap length s,
      k.1 ∙ ap (λ (bs : List ℕ). onto bs a.t.now) s,
      c.with_box.ensures N (search rules) (sym same) l.invariant.3,
    )

pub returns : goal.returns
unfolding box_report box_in
returns c =
    let a = c.args in
    let l = c.loop-i in
    let e : l.i ≡ a.n = search rules in
    let u = l.invariant.1 ∙ ap (λ (n : ℕ). length (lines a.night.boxes n)) e in
    let w = l.invariant.2 ∙ ap (λ (n : ℕ). onto (lines a.night.boxes n) a.t.now) e in
    let d = subst (λ (n : ℕ). AllEnded (with_boxes a.night.boxes) n l.ends) e l.invariant.3 in
    (search rules, u, w, of_boxes a.night a.n l.ends d)
