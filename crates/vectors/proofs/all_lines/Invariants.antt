-- The measure of `vectors::all_lines`: each turn leaves less of the text.
use Rattle.std.proofs.Common.{length}
use Rattle.vectors.proofs.all_lines.Given as goal

abbrev pub decreases-loop-rest : goal.decreases-loop-rest
decreases-loop-rest g l = length l.rest
