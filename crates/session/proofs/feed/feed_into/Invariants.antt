-- `session::feed::feed_into` meets its contract.
use Prim.Native.Nat.{◌-◌}
use Rattle.session.proofs.laws.Reading.{Reads}
use lib.ListN.{length}
use Rattle.session.proofs.feed.feed_into.Given as goal

abbrev pub invariant-loop-from : goal.invariant-loop-from
invariant-loop-from l =
    Reads
    (record { night = record { boxes = l.initial.boxes; used = l.initial.used }; desk = l.initial.desk; line = l.initial.line })
    l.initial.post
    l.chunk
    l.initial.t
    l.from
    l.post
    l.t
    l.boxes
    l.used
    l.desk
    l.line
    l.known
    l.index
    l.text

abbrev pub decreases-loop-from : goal.decreases-loop-from
decreases-loop-from l = length l.chunk - l.from
