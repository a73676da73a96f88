-- What each kind's step asks for: the record is told so and its step's records fit, in the words of what it says.
use Rattle.std.proofs.Common.{rules, ◌≡◌, ◌∙◌, sym, ap}
use Rattle.laws.proofs.laws.Tray.{onto_nil}
use Rattle.records.specs.Rec.{meaning, multicast, accept, accept_ack, deliver, newleader, newleader_ack, new_state, newstate_ack}
use Rattle.records.proofs.laws.Bytes.{encode_none}
use Rattle.records.proofs.laws.Obeys.{valid_kind}
use Rattle.boxes.specs.Out.{result_of}
use Rattle.boxes.specs.Step.{react}
use Rattle.boxes.proofs.laws.Answers.{deliver_is}
use Rattle.steps.specs.Judged.{judged}
use Rattle.steps.specs.Said.{says}
use Rattle.steps.proofs.laws.Acting.{box, told, job_low, home_place, room_listed}
use Rattle.steps.proofs.acting.act.Goals as goal

pub said_by-requires : goal.said_by-requires
said_by-requires c = valid_kind c.args.plan c.args.r c.requires.0.is_valid

pub do_multicast-requires : goal.do_multicast-requires
unfolding says judged react
do_multicast-requires c =
    let a = c.args in let A = c.requires.0 in let k = c.in-Multicast in
    let e : meaning a.r ≡ multicast a.r.from a.r.to k.job = search rules in
    let O = rw e at (told A) in
    ((box A).plan, job_low a.plan k.job (box A).plan O.job, (box A).clock, rw e at A.fits, rw e at c.requires.1)

pub do_accept-requires : goal.do_accept-requires
unfolding says judged react
do_accept-requires c =
    let a = c.args in let A = c.requires.0 in let k = c.in-Accept in
    let e : meaning a.r ≡ accept a.r.from a.r.to k.job k.y = search rules in
    let O = rw e at (told A) in (
      (box A).plan,
      job_low a.plan k.job (box A).plan O.job,
      home_place a.plan a.r.from (box A).plan O.sender,
      rw e at A.fits,
      rw e at c.requires.1,
    )

pub do_accept_ack-requires : goal.do_accept_ack-requires
unfolding says judged react
do_accept_ack-requires c =
    let a = c.args in let A = c.requires.0 in let k = c.in-AcceptAck in
    let e : meaning a.r ≡ accept_ack a.r.from a.r.to k.job k.ballots = search rules in
    let O = rw e at (told A) in
    ((box A).plan, job_low a.plan k.job (box A).plan O.job, rw e at A.fits, rw e at c.requires.1)

pub do_deliver-requires : goal.do_deliver-requires
unfolding says judged react
do_deliver-requires c =
    let a = c.args in let A = c.requires.0 in let k = c.in-Deliver in
    let e : meaning a.r ≡ deliver a.r.from a.r.to k.job k.y = search rules in
    let O = rw e at (told A) in
    let d = rw e at c.requires.1 in
    (job_low a.plan k.job (box A).plan O.job, room_listed a.plan a.x.now k.job k.y (box A) d, d)

pub do_newleader-requires : goal.do_newleader-requires
unfolding says judged react
do_newleader-requires c =
    let a = c.args in let A = c.requires.0 in let k = c.in-Newleader in
    let e : meaning a.r ≡ newleader a.r.from a.r.to k.b = search rules in
    ((box A).plan, rw e at A.fits, rw e at c.requires.1)

pub do_newleader_ack-requires : goal.do_newleader_ack-requires
unfolding says judged react
do_newleader_ack-requires c =
    let a = c.args in let A = c.requires.0 in let k = c.in-NewleaderAck in
    let e : meaning a.r ≡ newleader_ack a.r.from a.r.to k.y = search rules in
    ((box A).plan, rw e at A.fits, rw e at c.requires.1)

pub do_new_state-requires : goal.do_new_state-requires
unfolding says judged react
do_new_state-requires c =
    let a = c.args in let A = c.requires.0 in let k = c.in-NewState in
    let e : meaning a.r ≡ new_state a.r.from a.r.to k.y = search rules in
    ((box A).plan, rw e at A.fits, rw e at c.requires.1)

pub do_newstate_ack-requires : goal.do_newstate_ack-requires
unfolding says judged react
do_newstate_ack-requires c =
    let a = c.args in let A = c.requires.0 in let k = c.in-NewstateAck in
    let e : meaning a.r ≡ newstate_ack a.r.from a.r.to k.b = search rules in
    ((box A).plan, rw e at A.fits, rw e at c.requires.1)

pub returns-in-Deliver : goal.returns-in-Deliver
unfolding says judged react
returns-in-Deliver c =
    let a = c.args in let k = c.in-Deliver in
    let e : meaning a.r ≡ deliver a.r.from a.r.to k.job k.y = search rules in
    let s = ap (react a.plan a.x.now) e in
    let v = s ∙ deliver_is a.plan a.x.now k.job k.y (rw e at c.requires.1) in
    (c.do_deliver.ensures ∙ ap (result_of a.plan a.x.now) (sym s), rw (v, encode_none a.plan) (sym (onto_nil a.tray.now)))
