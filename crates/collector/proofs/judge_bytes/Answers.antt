-- `collector::judge_bytes` meets its contract.
use Rattle.std.proofs.Common.{rules, ◌≡◌, Err}
use Rattle.boxes.specs.Sound.{sound}
use Rattle.records.specs.Answers.{done}
use Rattle.collector.specs.Face.{admission}
use Rattle.collector.proofs.laws.Face.{two_go, receiving_no, receiving}
use Rattle.collector.proofs.judge_bytes.Goals as goal

pub returns-in_err-admit : goal.returns-in_err-admit
returns-in_err-admit c =
    let a = c.args in
    let e : admission (sound a.plan a.x.now) a.room ≡ Err c.in_err-admit.field-0.0 = search rules in
    let f : c.from_residual.result ≡ Err c.in_err-admit.field-0.0 = search rules in
    rw f (receiving_no a.plan a.x.now a.room a.bytes.now e)

pub judge_bytes-requires : goal.judge_bytes-requires
judge_bytes-requires c =
    let e : admission (sound c.args.plan c.args.x.now) c.args.room ≡ done = search rules in
    (two_go c.args.room e).0

pub returns : goal.returns
returns c =
    let a = c.args in
    let e : admission (sound a.plan a.x.now) a.room ≡ done = search rules in
    receiving a.plan a.x.now a.room a.bytes.now e c.judge_bytes.ensures
