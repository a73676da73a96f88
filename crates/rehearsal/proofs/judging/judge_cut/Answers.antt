-- `rehearsal::judging::judge_cut` meets its contract.
use Rattle.std.proofs.Common.{rules, refl, sym, ◌≡◌, ◌∙◌, true, false}
use Rattle.house.specs.declared.Order.TheVariants.{Cut}
use Rattle.records.specs.Rec.{no_record}
use Rattle.records.specs.declared.answers.Refusal.TheVariants.{NotSound}
use Rattle.rehearsal.proofs.laws.Steps.{judges_no, judges_go, acts_no, goes_kept, cut_unsound, cut_acts, cut_keeps}
use Rattle.rehearsal.proofs.judging.judge_cut.Goals as goal

pub returns-then-not-known : goal.returns-then-not-known
returns-then-not-known c P used p x s plan is L h =
    let off : c.args.known ≡ false = search rules in
    judges_no _ (acts_no P used x s (Cut p) NotSound plan h (cut_unsound P used x s (sym is ∙ off) p))

pub returns : goal.returns
returns c P used p x s plan is L h =
    let on : c.args.known ≡ true = search rules in
    let k = sym is ∙ on in
    rw c.no_record.ensures (judges_go (goes_kept plan h plan refl (cut_acts P used x s k p no_record) (cut_keeps P used x s k L p)))
