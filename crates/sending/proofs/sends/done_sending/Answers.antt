-- `sending::sends::done_sending` meets its contract.
use mathlib.Core.Path.{◌∙◌}
use Rattle.sending.proofs.sends.done_sending.Goals as goal

pub send-s-requires : goal.send-s-requires
send-s-requires c =
    let asked = c.requires in let S = asked.1.1 in
    (asked.0, rw (← S.bytes) asked.1.2)

pub returns : goal.returns
returns c l S =
    let q = c.send-s in
    (c.done.ensures ∙ rw (q.ensures.0, q.ensures.1, S.bytes, S.count), rw S.bytes q.ensures.2)
