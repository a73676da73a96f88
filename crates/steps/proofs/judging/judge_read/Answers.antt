-- `steps::judging::judge_read` meets its contract.
use Rattle.std.proofs.Common.{rules, ◌≡◌, ◌∙◌, sym, true, Ok, Err}
use Rattle.records.specs.Answers.{done}
use Rattle.records.specs.Rules.{valid}
use Rattle.records.proofs.laws.Outcome.{read_is_promised, read_says, was_read, was_unread}
use Rattle.records.proofs.laws.Answers.{no_done}
use Rattle.records.proofs.laws.Obeys.{valid_kind}
use Rattle.boxes.specs.Lengths.{Lengths}
use Rattle.steps.proofs.laws.Judging.{judging_unread, judging_refused, judging_taken}
use Rattle.steps.proofs.judging.judge_read.Goals as goal

pub returns-in_err-r : goal.returns-in_err-r
returns-in_err-r c =
    let a = c.args in
    let got : c.args.read ≡ Err c.in_err-r.field-0.0 = search rules in
    let f : c.from_residual.result ≡ Err c.in_err-r.field-0.0 = search rules in
    (λ s R. rw f (judging_unread a.plan a.x.now s c.requires.0 _ (was_unread a.plan s (sym (read_is_promised R) ∙ got))), λ r q. no_done (sym f ∙ q))

pub judge_record-requires : goal.judge_record-requires
judge_record-requires c =
    let a = c.args in let s = c.requires.1.0 in let R = c.requires.1.1 in
    let got : c.args.read ≡ Ok c.in_ok-r.r = search rules in
    let t = was_read a.plan s (sym (read_is_promised R) ∙ got) in
    let v : valid a.plan c.in_ok-r.r ≡ true = rw t.1 (read_says a.plan s t.0).2 in
    valid_kind a.plan c.in_ok-r.r v

pub returns-in_err-judge_record : goal.returns-in_err-judge_record
returns-in_err-judge_record c =
    let a = c.args in
    let got : c.args.read ≡ Ok c.in_ok-r.r = search rules in
    let no : c.judge_record.result ≡ Err c.in_err-judge_record.field-0.0 = search rules in
    let f : c.from_residual-in_err-judge_record.result ≡ Err c.in_err-judge_record.field-0.0 = search rules in (
      λ s R.
          let t = was_read a.plan s (sym (read_is_promised R) ∙ got) in
          rw f (judging_refused a.plan a.x.now s c.requires.0 _ c.in_ok-r.r t.0 t.1 (sym c.judge_record.ensures ∙ no)),
      λ r q. no_done (sym f ∙ q),
    )

pub returns : goal.returns
returns c =
    let a = c.args in
    let got : c.args.read ≡ Ok c.in_ok-r.r = search rules in
    let yes : c.judge_record.result ≡ done = search rules in
    let L : Lengths a.x.now = c.has_lengths.ensures in (
      λ s R.
          let t = was_read a.plan s (sym (read_is_promised R) ∙ got) in
          let v : valid a.plan c.in_ok-r.r ≡ true = rw t.1 (read_says a.plan s t.0).2 in
          judging_taken a.plan a.x.now s c.requires.0 c.in_ok-r.r L t.0 t.1 v (sym c.judge_record.ensures ∙ yes),
      λ r q. got ∙ q,
    )
