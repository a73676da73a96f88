-- `closing::endings::with_box` meets its contract.
use Rattle.closing.proofs.laws.Ends.{Heard}
use Rattle.closing.proofs.endings.with_box.Given as goal

abbrev pub invariant-loop-j : goal.invariant-loop-j
invariant-loop-j l = Heard l.p l.x l.initial.ends l.j l.ends
