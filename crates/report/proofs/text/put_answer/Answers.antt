-- `report::text::put_answer` meets its contract.
use Rattle.std.proofs.Common.{rules, arith, [], ◌∷◌, ◌++◌, ◌≡◌, length}
use Rattle.lines.proofs.laws.NumeralLaws.{decimal_most}
use Rattle.lines.specs.Numeral.{decimal}
use Rattle.lines.specs.Parts.{line_feed}
use Rattle.laws.proofs.laws.Tray.{then}
use Rattle.report.proofs.text.put_answer.Goals as goal

pub put_decimal-requires : goal.put_decimal-requires
put_decimal-requires c =
    let m = decimal_most c.args.n in search rules

pub returns : goal.returns
returns c =
    let a = c.args in
    let w : length a.word.now ≡ 3 = search rules in
    let h = c.put-a in
    let d = c.put_decimal in
    let p = c.put in
    let s = then a.word.now (decimal a.n) a.t.now _ _ _ _ h.ensures.0 h.ensures.1 d.ensures.1 d.ensures.2 in
    let u = then (a.word.now ++ decimal a.n) (line_feed ∷ []) a.t.now _ _ _ _ s.0 s.1 p.ensures.0 p.ensures.1 in
    (omega (arith, w, h.ensures.0, d.ensures.0, p.ensures.0), u.0, u.1)
