-- `sending::draft::kept_vector` meets its contract.
use Rattle.std.proofs.Common.{rules}
use borrow.Author.Tests.{tests}
use Rattle.laws.proofs.laws.Ranges.{made_from_fn}
use Rattle.house.specs.Pairs.{no_ballot}
use Rattle.boxes.specs.Accept.{kept_for, kept_vector}
use Rattle.sending.proofs.draft.kept_vector.Goals as goal

pub returns : goal.returns
unfolding kept_vector
returns c =
    let a = c.args in
    made_from_fn (kept_for a.plan a.x.now a.job) no_ballot (λ x b q k. search (rules, tests)) c.from_fn.result 4 c.from_fn.ensures.items
