-- `rehearsal::judging::judge_stand` meets its contract.
use Rattle.std.proofs.Common.{rules, refl, ◌≡◌, ◌∙◌, Err, true, false}
use Rattle.house.specs.declared.Order.TheVariants.{Stand}
use Rattle.records.specs.Answers.{done}
use Rattle.records.specs.Rec.{no_record}
use Rattle.records.specs.declared.answers.Refusal.TheVariants.{NotSound}
use Rattle.boxes.specs.Sound.{sound}
use Rattle.boxes.specs.Stand.{stand_answer}
use Rattle.boxes.proofs.laws.Answers.{stand_is}
use Rattle.leaders.proofs.laws.Room.{stand_room}
use Rattle.rehearsal.proofs.laws.Steps.{judges_no, acts_no, answers, stand_unsound, stand_acts, stand_keeps}
use Rattle.rehearsal.proofs.judging.judge_stand.Goals as goal

pub returns-then-not-known : goal.returns-then-not-known
returns-then-not-known c used p s h =
    let P = c.args.plan in let x = c.args.x in
    let off : sound P x ≡ false = search rules in
    judges_no _ (acts_no P used x s (Stand p) NotSound c.requires.0 h (stand_unsound P used x s off p))

pub returns-in_err-decide_stand : goal.returns-in_err-decide_stand
returns-in_err-decide_stand c used p s h =
    let P = c.args.plan in let x = c.args.x in
    let on : sound P x ≡ true = search rules in
    let e : stand_answer x ≡ Err c.in_err-decide_stand.field-0.0 = search rules in
    let f : c.from_residual.result ≡ Err c.in_err-decide_stand.field-0.0 = search rules in
    rw f
    (answers no_record c.requires.0 h (Err c.in_err-decide_stand.field-0.0) (stand_acts P used x s on p ∙ stand_is P x e) (λ q. stand_room x (e ∙ q)) refl
    (stand_keeps P used x s on (search rules) p))

pub returns : goal.returns
returns c used p s h =
    let P = c.args.plan in let x = c.args.x in
    let on : sound P x ≡ true = search rules in
    let e : stand_answer x ≡ done = search rules in
    rw c.no_record.ensures
    (answers no_record c.requires.0 h done (stand_acts P used x s on p ∙ stand_is P x e) (λ q. stand_room x e) refl
    (stand_keeps P used x s on (search rules) p))
