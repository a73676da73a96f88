-- `session::hear::hear_plan` meets its contract.
use Rattle.session.proofs.laws.Hears.{plain_as}
use Rattle.session.specs.Heard.{plan_line}
use Rattle.laws.proofs.laws.Choice.{pick_true, pick_false}
use Rattle.laws.proofs.laws.Tray.{onto_nil}
use mathlib.Core.List.{[]}
use mathlib.Core.Path.{refl, sym}
use borrow.Author.Rules.{rules}
use Rattle.session.proofs.hear.hear_plan.Goals as goal

pub returns-then-here : goal.returns-then-here
unfolding plan_line
returns-then-here c =
    let a = c.args in let h = c.if-here.true in
    plain_as (sym (pick_true a.next a.desk h)) (sym (pick_true [] _ h))
    (record { says = record { desk_is = refl; long = refl; most = search rules; text_is = sym (onto_nil a.t.now) }; stays = refl; unknown = refl })

pub returns : goal.returns
unfolding plan_line
returns c =
    let hear_unread_says = c.hear_unread.ensures in
    let h = c.if-here.false in
    let a = c.args in
    plain_as (sym (pick_false a.next a.desk h)) (sym (pick_false [] _ h)) hear_unread_says
