-- `rehearsal::exists::find_record` meets its contract.
use Rattle.std.proofs.Common.{rules}
use Rattle.rehearsal.proofs.laws.Alone.{starts_carry, carry_asked}
use Rattle.rehearsal.proofs.exists.find_record.Goals as goal

pub returns : goal.returns
returns c =
    let a = c.args in
    let t = c.byte_at-to in let q = c.find_start-start in let p = c.place_of in
    record {
      at_low = p.ensures.0;
      asked = carry_asked a.plan p.result t.result p.ensures.1 a.used a.k a.post.now q.result q.ensures.0 t.ensures;
      start_low = q.ensures.1;
      starts = starts_carry a.plan a.post.now a.used a.k q.result q.ensures.0;
      indexed = search rules;
      lent = search rules;
      stays = search rules;
    }
