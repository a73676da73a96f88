-- `lines::line::order_of_line` meets its contract.
use Rattle.lines.specs.Orders.{order_of_words, order_of_line}
use Rattle.lines.proofs.laws.ReadLaws.{line_read}
use Rattle.laws.specs.Choice.{pick}
use Rattle.std.proofs.Common.{rules}
use borrow.Author.Tests.{tests}
use Rattle.lines.proofs.line.order_of_line.Goals as goal

pub returns-then-line-gt-LONGEST : goal.returns-then-line-gt-LONGEST
unfolding order_of_line pick
returns-then-line-gt-LONGEST c = line_read c.args.line.now (search (rules, tests))

pub returns-in_default : goal.returns-in_default
unfolding order_of_line order_of_words pick
returns-in_default c = line_read c.args.line.now (search (rules, tests))

pub returns-in-Some-split_word : goal.returns-in-Some-split_word
unfolding order_of_line pick
returns-in-Some-split_word c = line_read c.args.line.now (search (rules, tests))

pub returns-in-None : goal.returns-in-None
unfolding order_of_line pick
returns-in-None c = line_read c.args.line.now (search (rules, tests))
