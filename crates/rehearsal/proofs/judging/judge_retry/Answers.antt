-- `rehearsal::judging::judge_retry` meets its contract.
use Rattle.std.proofs.Common.{rules, refl, ◌≡◌, ◌∙◌, Err, true, false}
use Rattle.house.specs.declared.Order.TheVariants.{Retry}
use Rattle.records.specs.Answers.{done}
use Rattle.records.specs.Rec.{no_record}
use Rattle.records.specs.declared.answers.Refusal.TheVariants.{NotSound}
use Rattle.boxes.specs.Sound.{sound}
use Rattle.boxes.specs.Retry.{retry_answer}
use Rattle.boxes.proofs.laws.Answers.{retry_is}
use Rattle.rehearsal.proofs.laws.Steps.{judges_no, acts_no, answers, retry_low, retry_unsound, retry_acts, retry_keeps}
use Rattle.rehearsal.proofs.judging.judge_retry.Goals as goal

pub returns-then-not-known : goal.returns-then-not-known
returns-then-not-known c used p s h =
    let P = c.args.plan in let x = c.args.x in
    let off : sound P x ≡ false = search rules in
    judges_no _ (acts_no P used x s (Retry p c.args.job) NotSound c.requires.0 h (retry_unsound P used x s off p c.args.job))

pub returns-in_err-decide_retry : goal.returns-in_err-decide_retry
returns-in_err-decide_retry c used p s h =
    let P = c.args.plan in let x = c.args.x in let j = c.args.job in
    let on : sound P x ≡ true = search rules in
    let e : retry_answer P x j ≡ Err c.in_err-decide_retry.field-0.0 = search rules in
    let f : c.from_residual.result ≡ Err c.in_err-decide_retry.field-0.0 = search rules in
    rw f
    (answers no_record c.requires.0 h (Err c.in_err-decide_retry.field-0.0) (retry_acts P used x s on p j ∙ retry_is P x j e)
    (λ q. retry_low P used s p j c.requires.0 h) refl (retry_keeps P used x s on (search rules) p j))

pub returns : goal.returns
returns c used p s h =
    let P = c.args.plan in let x = c.args.x in let j = c.args.job in
    let on : sound P x ≡ true = search rules in
    let e : retry_answer P x j ≡ done = search rules in
    rw c.no_record.ensures
    (answers no_record c.requires.0 h done (retry_acts P used x s on p j ∙ retry_is P x j e)
    (λ q. retry_low P used s p j c.requires.0 h) refl (retry_keeps P used x s on (search rules) p j))
