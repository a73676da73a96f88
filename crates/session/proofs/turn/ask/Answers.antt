-- `session::turn::ask` meets its contract.
use Rattle.std.proofs.Common.{arith, refl, sym, ap, ◌∙◌, ◌≡◌, ◌<◌, length, take}
use Rattle.session.proofs.laws.Asked.{line_turn}
use Rattle.session.proofs.laws.Hears.{some_none, some_is}
use Rattle.session.specs.World.{act}
use Rattle.session.specs.declared.turn.Line.{Line}
use Rattle.lines.specs.Feed.{all_read}
use Rattle.lines.proofs.laws.ReadLaws.{held_is, nothing_is}
use Rattle.lines.specs.declared.LineState.{LineState}
use Rattle.session.proofs.turn.ask.Goals as goal

pub returns : goal.returns
returns c =
    let a = c.args in
    let q = c.read_on-scan in
    let o = c.order_held-typed in
    let h : q.result.at < length a.chunk.now = c.if-chunk-scan.false in
    record {
      up = omega (arith, q.ensures.up);
      low = omega (arith, h);
      part = λ f. some_none refl f;
      whole = λ l f.
          let e : ◌≡◌ {A = Line} (record { typed = o.result; place = c.find-place.result }) l = some_is f in
          rw (← e) (
            rw c.order_of-order.ensures at c.find-place.ensures,
            λ r k.
                line_turn r a.chunk.now a.from q.result.at q.result.line o.result h (q.ensures.ends h) (q.ensures.held r k) (held_is q.result.line o.ensures)
                ∙ ap
                (λ (z : LineState). record { line = z; state = act (all_read act r (take a.from a.chunk.now)).state o.result })
                (sym (nothing_is c.no_line.ensures)),
          );
    }
