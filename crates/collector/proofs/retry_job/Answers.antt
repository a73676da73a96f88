-- `collector::retry_job` meets its contract.
use Rattle.std.proofs.Common.{rules, arith, ◌≡◌, ◌∙◌}
use Rattle.records.specs.Answers.{done}
use Rattle.boxes.proofs.laws.Promise.{stepped}
use Rattle.collector.proofs.laws.Face.{refusing, answered_no, answered_done, retries_fit}
use Rattle.collector.proofs.retry_job.Goals as goal

pub returns-in-Err : goal.returns-in-Err
returns-in-Err c = refusing c.refused.ensures (answered_no c.judge_retry.ensures c.in-Err.is)

pub do_retry-s-requires : goal.do_retry-s-requires
do_retry-s-requires c =
    let a = c.args in
    let told : c.judge_retry.result ≡ done = search rules in
    let g = c.judge_retry.ensures.allowed told in
    (g.0, omega (arith, retries_fit a.plan a.x a.job g.0, g.1))

pub returns : goal.returns
returns c =
    let told : c.judge_retry.result ≡ done = search rules in
    let e = answered_done c.judge_retry.ensures told in
    let q = c.do_retry-s.ensures in
    stepped (c.done.ensures ∙ rw (e, q.used, q.records)) (rw e q.tray)
