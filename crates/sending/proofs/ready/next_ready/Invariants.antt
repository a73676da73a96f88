-- `sending::ready::next_ready` meets its contract.
use Rattle.sending.proofs.laws.Next.{Best}
use Rattle.sending.proofs.ready.next_ready.Given as goal

abbrev pub invariant-loop-j : goal.invariant-loop-j
invariant-loop-j l = Best l.fn.table l.fn.sent l.fn.n l.j l.best
