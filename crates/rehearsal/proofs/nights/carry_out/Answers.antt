-- `rehearsal::nights::carry_out` meets its contract.
use Rattle.std.proofs.Common.{rules}
use Rattle.rehearsal.specs.Alone.{Stands}
use Rattle.rehearsal.specs.Steps.{Goes, step_of}
use Rattle.rehearsal.proofs.laws.Settled.{wrote, turned_does, turned_full}
use Rattle.rehearsal.proofs.nights.carry_out.Goals as goal

pub step-out-requires : goal.step-out-requires
step-out-requires c =
    let a = c.args in
    let G : Goes a.plan a.night.used c.box_at-x.result a.post.now a.order a.r = rw c.box_at-x.ensures c.requires.1 in
    (G.plan_is_sound, G.can, G.fits, search rules)

pub settle-requires : goal.settle-requires
settle-requires c =
    let a = c.args in let x = c.box_at-x.result in let q = c.step-out in
    (wrote a.plan x (step_of a.plan x a.order a.r) _ _ q.result q.ensures.0 q.ensures.1 q.auto.tray).0

pub returns-in-Some : goal.returns-in-Some
returns-in-Some c T =
    let a = c.args in let x = c.box_at-x in let q = c.step-out in
    let G : Goes a.plan a.night.used x.result a.post.now a.order a.r = rw x.ensures c.requires.1 in
    let U : Stands a.plan a.night.used x.result a.post.now a.order a.night a.at = rw x.ensures T in
    let W = wrote a.plan x.result (step_of a.plan x.result a.order a.r) _ _ q.result q.ensures.0 q.ensures.1 q.auto.tray in
    let is = c.in-Some.is in
    rw c.put_box.ensures (rw is at (turned_does G q.result q.ensures.0 a.night a.at U _ _ W.1 c.settle.result c.settle.ensures (rw is)))

pub returns-in-None : goal.returns-in-None
returns-in-None c T =
    let a = c.args in let x = c.box_at-x in let q = c.step-out in
    let G : Goes a.plan a.night.used x.result a.post.now a.order a.r = rw x.ensures c.requires.1 in
    let U : Stands a.plan a.night.used x.result a.post.now a.order a.night a.at = rw x.ensures T in
    let W = wrote a.plan x.result (step_of a.plan x.result a.order a.r) _ _ q.result q.ensures.0 q.ensures.1 q.auto.tray in
    turned_full G q.result q.ensures.0 a.night a.at U _ _ W.1 c.settle.result c.settle.ensures (rw c.in-None.is)
