-- `reader::read::read_bytes` meets its contract.
use Rattle.std.proofs.Common.{rules, ap, sym, ◌≡◌, ◌∙◌, true, false}
use Rattle.records.specs.Outcome.{read_answer, read_record}
use Rattle.records.proofs.laws.Outcome.{reads, read_promised}
use Rattle.records.specs.Rules.{valid}
use Rattle.records.specs.Bytes.{shaped}
use Rattle.reader.proofs.read.read_bytes.Goals as goal

pub returns-then-not-is_shaped : goal.returns-then-not-is_shaped
unfolding reads read_record read_answer
returns-then-not-is_shaped c =
    let s : shaped c.args.plan c.args.s.now ≡ false = search rules in
    read_promised (rw (c.requires, s))

pub parse_record-r-requires : goal.parse_record-r-requires
parse_record-r-requires c = (c.requires, search rules)

pub returns-then-not-is_valid : goal.returns-then-not-is_valid
unfolding reads read_record read_answer
returns-then-not-is_valid c =
    let s : shaped c.args.plan c.args.s.now ≡ true = search rules in
    let v : valid c.args.plan c.parse_record-r.result ≡ false = search rules in
    read_promised (rw (c.requires, s, ap (valid c.args.plan) (sym c.parse_record-r.ensures) ∙ v))

pub returns : goal.returns
unfolding reads read_record read_answer
returns c =
    let s : shaped c.args.plan c.args.s.now ≡ true = search rules in
    let v : valid c.args.plan c.parse_record-r.result ≡ true = search rules in
    read_promised (rw (c.parse_record-r.ensures, c.requires, s, ap (valid c.args.plan) (sym c.parse_record-r.ensures) ∙ v))
