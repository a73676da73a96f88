-- `leaders::merge::row_of_two` meets its contract.
use Rattle.std.proofs.Common.{rules, ◌≡◌, ◌∙◌, ◌&&◌}
use lib.Dec.{eqb}
use Rattle.laws.specs.Choice.{pick}
use Rattle.laws.specs.Lex.{larger}
use Rattle.house.specs.Pairs.{ballot_lt, same_ballot, higher_ballot, no_row}
use Rattle.leaders.proofs.laws.Votes.{two_rows}
use Rattle.leaders.proofs.merge.row_of_two.Goals as goal

pub returns : goal.returns
unfolding pick larger ballot_lt same_ballot
returns c =
    let a = c.args in
    let e : c.unwrap_or.result
    ≡ pick (eqb a.a.phase 3) a.a (pick (eqb a.b.phase 3) a.b
    (pick (same_ballot a.low (higher_ballot a.low a.high) && eqb a.a.phase 2) a.a
    (pick (same_ballot a.high (higher_ballot a.low a.high) && eqb a.b.phase 2) a.b no_row))) =
    search rules in
    λ u v j eu ru ev rv. e ∙ two_rows u v j a.low a.high a.a a.b eu ru ev rv
