-- `collector::post_job` meets its contract.
use Rattle.std.proofs.Common.{rules, arith, length, ◌≡◌, Err}
use Rattle.records.specs.Answers.{done}
use Rattle.boxes.specs.Step.{may_post}
use Rattle.stays_sound.proofs.laws.Steps.{posts_fit}
use Rattle.collector.proofs.laws.Face.{may_post_says}
use Rattle.collector.proofs.laws.Promises.{job_posted, job_refused}
use Rattle.collector.proofs.post_job.Goals as goal

pub returns-in_err-may_post : goal.returns-in_err-may_post
returns-in_err-may_post c =
    let a = c.args in
    let e : may_post a.plan a.job (length a.tray.now) ≡ Err c.in_err-may_post.field-0.0 = search rules in
    let f : c.from_residual.result ≡ Err c.in_err-may_post.field-0.0 = search rules in
    rw f (job_refused e)

pub do_post-requires : goal.do_post-requires
do_post-requires c =
    let a = c.args in
    let e : may_post a.plan a.job (length a.tray.now) ≡ done = search rules in
    let g = may_post_says a.plan a.job _ e in
    (g.0, omega (arith, posts_fit a.plan a.job g.0, g.1))

pub returns : goal.returns
returns c =
    let a = c.args in
    let e : may_post a.plan a.job (length a.tray.now) ≡ done = search rules in
    job_posted e c.do_post.ensures
