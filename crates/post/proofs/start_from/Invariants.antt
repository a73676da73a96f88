-- `post::start_from` meets its contract.
use Rattle.post.specs.Posting.{walk_from}
use Rattle.std.proofs.Common.{◌≡◌, ◌+◌, ◌*◌, ◌≤◌}
use Rattle.post.proofs.start_from.Given as goal

abbrev pub invariant-loop : goal.invariant-loop
invariant-loop l = (l.at ≡ walk_from l.plan l.s l.used l.from l.counter) × (l.at ≤ l.from + 5000 * l.counter)
