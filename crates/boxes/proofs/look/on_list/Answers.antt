-- `boxes::look::on_list` meets its contract.
use Rattle.std.proofs.Common.{rules, ℕ, Bool, ◌==◌, get_or}
use borrow.Author.Tests.{tests}
use Rattle.laws.proofs.laws.Ranges.{some_in_range}
use Rattle.boxes.specs.Box.{on_list, listed_at, no_listed}
use Rattle.boxes.proofs.look.on_list.Goals as goal

pub returns : goal.returns
unfolding on_list listed_at
returns c =
    let a = c.args in
    let t : ℕ → Bool = λ i. (get_or a.x.now.core.list i no_listed).job == a.job in
    some_in_range t a.x.now.core.count c.any.ensures.ran (cc) (λ x b q k. search (rules, tests))
