-- The measure of `vectors::forms::record_of`: a place has at least one byte.
use Rattle.std.proofs.Common.{◌-◌}
use Rattle.vectors.proofs.forms.record_of.Given as goal

abbrev pub decreases-loop-at : goal.decreases-loop-at
decreases-loop-at l = l.end - l.at
