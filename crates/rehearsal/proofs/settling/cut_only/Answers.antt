-- `rehearsal::settling::cut_only` meets its contract.
use Rattle.records.proofs.laws.Bytes.{encode_none}
use mathlib.Core.Path.{◌∙◌}
use Rattle.rehearsal.proofs.settling.cut_only.Goals as goal

pub returns : goal.returns
returns c P = c.done.ensures ∙ rw (c.cut_box.ensures, encode_none P)
