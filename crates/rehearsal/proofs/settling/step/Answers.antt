-- `rehearsal::settling::step` meets its contract.
use Rattle.laws.proofs.laws.Tray.{onto_nil}
use Rattle.records.proofs.laws.Bytes.{encode_none}
use native.Mathlib.Omega.{arith}
use mathlib.Core.Path.{sym, ◌∙◌}
use Rattle.rehearsal.proofs.settling.step.Goals as goal

pub overflow_cast-j : goal.overflow_cast-j
overflow_cast-j c = let l = rw c.in-Post.is at c.requires.1 in omega (arith, l)

pub do_post-s-requires : goal.do_post-s-requires
do_post-s-requires c =
    let p = c.requires in let e = c.in-Post.is in
    (p.0, rw p.3 (rw e at p.2))

pub do_stand-s-requires : goal.do_stand-s-requires
do_stand-s-requires c =
    let p = c.requires in let e = c.in-Stand.is in
    (p.0, rw e at p.1, rw p.3 (rw e at p.2))

pub overflow_cast-j-in-Retry : goal.overflow_cast-j-in-Retry
overflow_cast-j-in-Retry c = let l = rw c.in-Retry.is at c.requires.1 in omega (arith, l)

pub do_retry-s-requires : goal.do_retry-s-requires
do_retry-s-requires c =
    let p = c.requires in let e = c.in-Retry.is in
    (p.0, rw p.3 (rw e at p.2))

pub act-requires : goal.act-requires
act-requires c =
    let p = c.requires in let e = c.in-Carry.is in
    rw p.3 (rw e at p.1)

pub returns-in-Post : goal.returns-in-Post
returns-in-Post c =
    let e = c.in-Post.is in
    let q = c.do_post-s.ensures in
    rw e (c.done.ensures ∙ rw (q.used, q.records), q.tray)

pub returns-in-Stand : goal.returns-in-Stand
returns-in-Stand c =
    let e = c.in-Stand.is in
    let q = c.do_stand-s.ensures in
    rw e (c.done-in-Stand.ensures ∙ rw (q.used, q.records), q.tray)

pub returns-in-Retry : goal.returns-in-Retry
returns-in-Retry c =
    let e = c.in-Retry.is in
    let q = c.do_retry-s.ensures in
    rw e (c.done-in-Retry.ensures ∙ rw (q.used, q.records), q.tray)

pub returns-in-Cut : goal.returns-in-Cut
returns-in-Cut c =
    let a = c.args in
    let e = c.in-Cut.is in
    rw e (c.cut_only.ensures a.plan, rw (encode_none a.plan) (sym (onto_nil a.tray.now)))

pub returns-in-Carry : goal.returns-in-Carry
returns-in-Carry c =
    let e = c.in-Carry.is in
    rw e c.act.ensures
