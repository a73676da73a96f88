-- `closing::closing::close` meets its contract.
use Rattle.closing.specs.Closing.{sound_report, night_report}
use Rattle.laws.specs.Tray.{onto}
use Rattle.laws.proofs.laws.Tray.{onto_nil}
use Rattle.laws.proofs.laws.Choice.{pick_true, pick_false}
use lib.ListN.{length}
use Prim.Native.Nat.{ℕ}
use mathlib.Core.List.{List, []}
use mathlib.Core.Path.{◌≡◌, sym, ap, ◌∙◌}
use borrow.Author.Rules.{rules}
use borrow.Author.Tests.{tests}
use mathlib.Core.Bool.{true, false}
use Rattle.house.specs.Plan.{plan_sound}
use Rattle.closing.proofs.closing.close.Goals as goal

pub returns-then-not-plan_sound : goal.returns-then-not-plan_sound
unfolding night_report
returns-then-not-plan_sound c =
    let a = c.args in
    let s : plan_sound a.plan ≡ false = search (rules, tests) in
    let v : [] ≡ night_report a.plan a.night = sym (pick_false (sound_report a.plan a.night) _ s) in
    record { used = ap length v; text = sym (onto_nil a.t.now) ∙ ap (λ (l : List ℕ). onto l a.t.now) v }

pub returns : goal.returns
unfolding night_report
returns c =
    let a = c.args in
    let q = c.put_report in
    let s : plan_sound a.plan ≡ true = search (rules, tests) in
    let v : sound_report a.plan a.night ≡ night_report a.plan a.night = sym (pick_true _ _ s) in
    record { used = q.ensures.1 ∙ ap length v; text = q.ensures.2 ∙ ap (λ (l : List ℕ). onto l a.t.now) v }
