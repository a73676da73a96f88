-- `rules::rows::rows_sound` meets its contract.
use borrow.Author.Tests.{tests}
use Rattle.std.proofs.Common.{rules, ℕ, Bool, refl}
use Rattle.laws.proofs.laws.Ranges.{all_in_zip}
use Rattle.house.specs.Pairs.{no_row, is_no_stamp, same_stamp}
use Rattle.house.specs.declared.Row.{Row}
use Rattle.records.specs.Rules.{start_row, row_sound, rows_sound}
use Rattle.rules.proofs.rows.rows_sound.Goals as goal

pub returns : goal.returns
unfolding rows_sound row_sound start_row is_no_stamp same_stamp
returns c =
    let a = c.args in
    let t : ℕ × Row → Bool = λ p. row_sound a.plan a.d p.0 p.1 in
    all_in_zip t a.n a.table no_row c.all.new.self c.all.ensures.ran c.zip.ensures.first c.zip.ensures.second.0 (λ i. refl) (λ x b q k. search (rules, tests))
