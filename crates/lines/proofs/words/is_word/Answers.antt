-- `lines::words::is_word` meets its contract.
use Rattle.lines.proofs.laws.PartLaws.{same_list}
use Rattle.std.proofs.Common.{◌∙◌}
use Rattle.lines.proofs.words.is_word.Goals as goal

pub returns : goal.returns
returns c = c.eq.ensures ∙ same_list c.args.word.now c.args.meant.now
