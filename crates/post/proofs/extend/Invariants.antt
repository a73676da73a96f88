-- `post::extend` meets its contract.
use Rattle.post.specs.Index.{Indexed}
use Rattle.std.proofs.Common.{◌≡◌, ◌≤◌, length}
use Rattle.post.proofs.extend.Given as goal

abbrev pub invariant-loop : goal.invariant-loop
invariant-loop l = Indexed l.plan l.s l.used l.index l.last × (length l.index ≡ length l.initial.index) × (l.count ≤ l.last)
