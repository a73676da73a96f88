-- `rehearsal::nights::rehearse` meets its contract.
use Rattle.std.proofs.Common.{arith, ◌∙◌}
use Rattle.rehearsal.specs.Night.{box_in}
use Rattle.rehearsal.specs.Steps.{Judges}
use Rattle.rehearsal.proofs.laws.Alone.{alone_is, found_stands}
use Rattle.rehearsal.proofs.laws.Settled.{rehearsed_no}
use Rattle.rehearsal.proofs.nights.rehearse.Goals as goal

pub find-place-requires : goal.find-place-requires
find-place-requires c = let a = c.args in c.new-index.ensures.0 (omega arith) a.plan a.post.now a.night.used

pub box_at-x-requires : goal.box_at-x-requires
box_at-x-requires c = c.find-place.ensures.at_low

pub judge-requires : goal.judge-requires
judge-requires c =
    let F = c.find-place.ensures in (c.is_sound-known.ensures, F.start_low, F.starts)

pub carry_out-requires : goal.carry_out-requires
carry_out-requires c =
    let a = c.args in let F = c.find-place in
    let J : Judges a.plan a.night.used (box_in a.night F.result.at) a.post.now a.order c.judge.result = rw (← c.box_at-x.ensures) c.judge.ensures in
    (F.ensures.at_low, J.go _ c.in-Ok.is)

pub returns-in-Ok : goal.returns-in-Ok
returns-in-Ok c =
    let a = c.args in let F = c.find-place in
    c.carry_out.ensures (found_stands a.plan _ a.night a.post.now a.order _ F.result _ F.ensures)

pub returns-in-Err : goal.returns-in-Err
returns-in-Err c =
    let a = c.args in let F = c.find-place in
    let J : Judges a.plan a.night.used (box_in a.night F.result.at) a.post.now a.order c.judge.result = rw (← c.box_at-x.ensures) c.judge.ensures in
    let T = found_stands a.plan _ a.night a.post.now a.order _ F.result _ F.ensures in
    rehearsed_no _ (alone_is a.plan a.night.used (box_in a.night F.result.at) a.post.now a.order a.night F.result.at T ∙ J.refuse _ c.in-Err.is)
