-- `rehearse::printing::put_both` meets its contract.
use Rattle.laws.proofs.laws.Tray.{then}
use Rattle.rehearse.proofs.printing.put_both.Goals as goal

pub returns : goal.returns
returns c =
    let p = c.put-k in
    let q = c.put in
    then c.args.line.now c.args.report.now c.args.t.now _ _ _ _ p.ensures.0 p.ensures.1 q.ensures.0 q.ensures.1
