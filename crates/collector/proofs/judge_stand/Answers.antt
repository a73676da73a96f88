-- `collector::judge_stand` meets its contract.
use Rattle.std.proofs.Common.{rules, sym, ◌≡◌, ◌∙◌, Err}
use Rattle.boxes.specs.Sound.{sound}
use Rattle.records.specs.Answers.{done}
use Rattle.records.proofs.laws.Answers.{no_done}
use Rattle.collector.specs.Face.{admission}
use Rattle.collector.proofs.laws.Face.{stand_no, stand_on}
use Rattle.leaders.proofs.laws.Room.{stand_room}
use Rattle.collector.proofs.judge_stand.Goals as goal

pub returns-in_err-admit : goal.returns-in_err-admit
returns-in_err-admit c =
    let a = c.args in
    let e : admission (sound a.plan a.x.now) a.room ≡ Err c.in_err-admit.field-0.0 = search rules in
    let f : c.from_residual.result ≡ Err c.in_err-admit.field-0.0 = search rules in
    rw f (stand_no a.plan a.x.now e, λ q. no_done q)

pub returns : goal.returns
returns c =
    let a = c.args in
    let e : admission (sound a.plan a.x.now) a.room ≡ done = search rules in
    (stand_on a.plan a.x.now e c.decide_stand.ensures, λ q. stand_room a.x.now (sym c.decide_stand.ensures ∙ q))
