-- `jobs::accept_ack::agree_below` meets its contract.
use Rattle.std.proofs.Common.{rules, ℕ, Bool, not, ◌||◌}
use lib.ListN.{get_or}
use borrow.Author.Tests.{tests}
use Rattle.laws.proofs.laws.Ranges.{all_in_range}
use Rattle.house.specs.Pairs.{district, no_ballot, same_ballot}
use Rattle.house.specs.Plan.{names}
use Rattle.boxes.specs.Box.{kept_ballot}
use Rattle.boxes.specs.AcceptAck.{agree_below}
use Rattle.jobs.proofs.accept_ack.agree_below.Goals as goal

pub returns : goal.returns
unfolding agree_below same_ballot
returns c =
    let a = c.args in
    let t : ℕ → Bool = λ d. not (names a.plan a.job (district d)) || same_ballot (get_or a.ballots d no_ballot) (kept_ballot a.x.now a.job (district d)) in
    all_in_range t a.n c.all.ensures.ran (cc) (λ x b q k. search (rules, tests))
