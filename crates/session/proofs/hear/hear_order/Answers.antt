-- `session::hear::hear_order` meets its contract.
use Rattle.std.proofs.Common.{rules, refl, subst}
use Rattle.rehearsal.specs.Steps.{Goes}
use Rattle.session.proofs.laws.Hears.{some_none, some_is}
use Rattle.session.proofs.hear.hear_order.Goals as goal

pub returns-in-Ok : goal.returns-in-Ok
returns-in-Ok c =
    let a = c.args in
    record {
      refuse = λ q. some_none refl q;
      go = λ r q. (subst (Goes a.desk.plan a.used a.x.now a.post.now a.order) (some_is q) (c.judge.ensures.go _ c.in-Ok.is), refl, refl);
      fixed = c.fix-fixed.ensures;
      most = search rules;
      known = search rules;
    }

pub returns-in-Err : goal.returns-in-Err
returns-in-Err c =
    let l = c.say_refused-text.ensures in
    record {
      refuse =
          λ q. (_, c.judge.ensures.refuse _ c.in-Err.is, record { desk_is = c.fix-fixed.ensures; long = l.1; most = l.0; text_is = l.2 });
      go = λ r q. some_none q refl;
      fixed = c.fix-fixed.ensures;
      most = l.0;
      known = search rules;
    }
