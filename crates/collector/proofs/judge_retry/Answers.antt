-- `collector::judge_retry` meets its contract.
use Rattle.std.proofs.Common.{rules, ◌≡◌, Err}
use Rattle.boxes.specs.Sound.{sound}
use Rattle.records.specs.Answers.{done}
use Rattle.collector.specs.Face.{admission}
use Rattle.collector.proofs.laws.Face.{retry_no, retry_on}
use Rattle.collector.proofs.judge_retry.Goals as goal

pub returns-in_err-admit : goal.returns-in_err-admit
returns-in_err-admit c =
    let a = c.args in
    let e : admission (sound a.plan a.x.now) a.room ≡ Err c.in_err-admit.field-0.0 = search rules in
    let f : c.from_residual.result ≡ Err c.in_err-admit.field-0.0 = search rules in
    rw f (retry_no a.plan a.x.now a.job e)

pub returns : goal.returns
returns c =
    let a = c.args in
    let e : admission (sound a.plan a.x.now) a.room ≡ done = search rules in
    retry_on a.plan a.x.now a.job e c.decide_retry.ensures
