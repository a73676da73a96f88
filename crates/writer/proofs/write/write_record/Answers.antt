-- `writer::write::write_record` meets its contract.
use Rattle.std.proofs.Common.{rules, sym, ◌≡◌, ◌∙◌, Err, length, arith}
use Rattle.records.proofs.laws.Lengths.{Arrays, encode_fits}
use Rattle.records.specs.Answers.{done}
use Rattle.records.specs.Outcome.{write_answer, write_bytes}
use Rattle.records.proofs.laws.Outcome.{writes, write_promised, write_says}
use Rattle.laws.proofs.laws.Tray.{onto_nil}
use Rattle.writer.proofs.write.write_record.Goals as goal

pub returns-in_err-may_write : goal.returns-in_err-may_write
unfolding writes write_bytes
returns-in_err-may_write c =
    let a = c.args in
    let e : write_answer a.plan a.r (length a.tray.now) ≡ Err c.in_err-may_write.field-0.0 = search rules in
    let f : c.from_residual.result ≡ Err c.in_err-may_write.field-0.0 = search rules in
    write_promised (f ∙ rw e) (rw e (sym (onto_nil a.tray.now)))

pub put_record-requires : goal.put_record-requires
put_record-requires c =
    let a = c.args in
    let e : write_answer a.plan a.r (length a.tray.now) ≡ done = search rules in
    let arrays : Arrays a.r = record { ballots = search rules; stamps = search rules; table = search rules } in
    let w = write_says a.plan a.r _ e in
    (w.0, omega (arith, w.1, encode_fits a.plan a.r w.0 arrays))

pub returns : goal.returns
unfolding writes write_bytes
returns c =
    let a = c.args in
    let e : write_answer a.plan a.r (length a.tray.now) ≡ done = search rules in
    write_promised (rw (e, c.put_record.ensures.0)) (rw e c.put_record.ensures.1)
