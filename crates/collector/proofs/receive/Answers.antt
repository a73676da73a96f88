-- `collector::receive` meets its contract.
use Rattle.collector.proofs.laws.Face.{refusing}
use Rattle.boxes.proofs.laws.Promise.{stepped}
use Rattle.collector.proofs.receive.Goals as goal

pub act-requires : goal.act-requires
act-requires c = let q = c.judge_bytes.ensures.go _ c.in-Ok.is in (q.1, q.2)

pub returns-in-Ok : goal.returns-in-Ok
returns-in-Ok c =
    let e = (c.judge_bytes.ensures.go _ c.in-Ok.is).0 in
    stepped (rw e c.act.ensures.0) (rw e c.act.ensures.1)

pub returns-in-Err : goal.returns-in-Err
returns-in-Err c = refusing c.refused.ensures (c.judge_bytes.ensures.refuse _ c.in-Err.is)
