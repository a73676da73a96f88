-- `collector::stand_up` meets its contract.
use Rattle.std.proofs.Common.{rules, arith, ◌≡◌, ◌∙◌}
use Rattle.records.specs.Answers.{done}
use Rattle.boxes.proofs.laws.Promise.{stepped}
use Rattle.collector.proofs.laws.Face.{refusing, answered_no, answered_done, standing_fits}
use Rattle.collector.proofs.stand_up.Goals as goal

pub returns-in-Err : goal.returns-in-Err
returns-in-Err c = refusing c.refused.ensures (answered_no c.judge_stand.ensures.0 c.in-Err.is)

pub do_stand-s-requires : goal.do_stand-s-requires
do_stand-s-requires c =
    let a = c.args in
    let told : c.judge_stand.result ≡ done = search rules in
    let g = c.judge_stand.ensures.0.allowed told in
    (g.0, c.judge_stand.ensures.1 told, omega (arith, standing_fits a.plan a.x g.0, g.1))

pub returns : goal.returns
returns c =
    let told : c.judge_stand.result ≡ done = search rules in
    let e = answered_done c.judge_stand.ensures.0 told in
    let q = c.do_stand-s.ensures in
    stepped (c.done.ensures ∙ rw (e, q.used, q.records)) (rw e q.tray)
