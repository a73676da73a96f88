-- `leaders::merge::merged_table` meets its contract.
use Rattle.std.proofs.Common.{rules, sym, ◌∙◌, [], ◌∷◌}
use borrow.Author.Tests.{tests}
use lib.Dec.{ltb}
use Rattle.laws.specs.Choice.{pick}
use Rattle.laws.proofs.laws.Ranges.{made_from_fn}
use Rattle.house.specs.Limits.{most_jobs}
use Rattle.house.specs.Pairs.{no_row}
use Rattle.boxes.specs.Merge.{merged_row}
use Rattle.leaders.proofs.laws.Votes.{table_is}
use Rattle.leaders.proofs.merge.merged_table.Goals as goal

pub returns : goal.returns
unfolding pick
returns c =
    let a = c.args in
    let l = a.low.now ∷ a.high.now ∷ [] in
    made_from_fn (λ k. pick (ltb k a.jobs) (merged_row l k) no_row) no_row (λ x b q k. search (rules, tests)) c.from_fn.result most_jobs c.from_fn.ensures.items
    ∙ sym (table_is l a.jobs)
