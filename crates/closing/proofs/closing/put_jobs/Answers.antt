-- `closing::closing::put_jobs` meets its contract.
use Rattle.closing.specs.Closing.{job_report}
use Rattle.closing.specs.Holders.{Ended}
use Rattle.closing.specs.Ends.{no_end}
use Rattle.closing.specs.declared.endings.JobEnd.{JobEnd}
use Rattle.house.specs.Plan.{boxes_of}
use Rattle.laws.specs.Tray.{onto, all_for}
use Rattle.laws.proofs.laws.Tray.{onto_nil, then, for_step}
use Rattle.std.proofs.Common.{rules, arith, ℕ, ◌<◌, refl, sym, ap, subst, ◌∙◌, List, length}
use Rattle.std.proofs.lemmas.List.{get_or-take, get_or_default}
use Rattle.closing.proofs.closing.put_jobs.Invariants.{lines}
use Rattle.closing.proofs.closing.put_jobs.Goals as goal

pub loop-j-init : goal.loop-j-init
unfolding all_for
loop-j-init c = (search rules, λ night d. (refl, sym (onto_nil _)))

pub loop-j-preserved : goal.loop-j-preserved
loop-j-preserved c =
    let a = c.args in
    let l = c.loop-j in
    let q = c.put_job-used in
    let low : l.j < a.n = search rules in
    let same = get_or-take a.n a.ends l.j _ low ∙ get_or_default a.ends l.j _ no_end (search rules) in (
      omega (arith, q.ensures.0),
      λ night d.
          let i = l.invariant.1 night d in
          let v = q.ensures.1 night (subst (λ (e : JobEnd). Ended night l.j (boxes_of a.plan) e) (sym same) (d l.j (search rules))) in
          let s = for_step (job_report a.plan night) l.j in
          let k = then (lines a.plan night l.j) (job_report a.plan night l.j) a.t.now _ _ _ _ i.0 i.1 v.0 v.1 in
          (k.0 ∙ ap length s, k.1 ∙ ap (λ (bs : List ℕ). onto bs a.t.now) s),
    )
