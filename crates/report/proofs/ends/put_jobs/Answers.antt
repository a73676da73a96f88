-- `report::ends::put_jobs` meets its contract.
use Rattle.report.specs.Texts.{item}
use Rattle.report.specs.Report.{jobs_text}
use Rattle.laws.specs.Tray.{onto, all_for}
use Rattle.laws.proofs.laws.Tray.{onto_nil, then, for_step}
use Rattle.std.proofs.Common.{rules, arith, refl, sym, ap, ◌∙◌, ℕ, List, length, get_or}
use Rattle.std.proofs.lemmas.List.{get_or-take}
use Rattle.report.proofs.ends.put_jobs.Goals as goal

pub loop-job-init : goal.loop-job-init
unfolding jobs_text all_for
loop-job-init c = (search rules, refl, sym (onto_nil _))

pub loop-job-preserved : goal.loop-job-preserved
unfolding jobs_text
loop-job-preserved c =
    let a = c.args in
    let l = c.loop-job in
    let q = c.put_item-used in
    let same = get_or-take a.count a.list l.job-index 0 (search rules) in
    let s = for_step (λ (i : ℕ). item (get_or a.list i 0)) l.job-index in
    let k = then (jobs_text a.list l.job-index) _ a.t.now _ _ _ _ l.invariant.1 l.invariant.2 (rw same at q.ensures.1) (rw same at q.ensures.2) in
    (omega (arith, q.ensures.0), k.0 ∙ ap length s, k.1 ∙ ap (λ (bs : List ℕ). onto bs a.t.now) s)
