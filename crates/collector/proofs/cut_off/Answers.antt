-- `collector::cut_off` meets its contract.
use Rattle.std.proofs.Common.{rules, ◌≡◌, ◌∙◌, true, false}
use Rattle.boxes.specs.Sound.{sound}
use Rattle.boxes.specs.Out.{guard}
use Rattle.boxes.specs.Step.{cut_off}
use Rattle.boxes.proofs.laws.Promise.{says_result}
use Rattle.records.proofs.laws.Bytes.{encode_none}
use Rattle.collector.proofs.cut_off.Goals as goal

pub returns-then-not-is_sound : goal.returns-then-not-is_sound
unfolding cut_off guard
returns-then-not-is_sound c =
    let unsound : sound c.args.plan c.args.x ≡ false = search rules in
    says_result (rw unsound c.refused.ensures)

pub returns : goal.returns
unfolding cut_off guard
returns c =
    let is_sound : sound c.args.plan c.args.x ≡ true = search rules in
    says_result (c.done.ensures ∙ rw (is_sound, c.cut_box.ensures, encode_none c.args.plan))
