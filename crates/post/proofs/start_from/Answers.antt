-- `post::start_from` meets its contract.
use Rattle.post.specs.Posting.{walk_from}
use Rattle.post.proofs.laws.Posting.{walk_more, walk_stays}
use Rattle.std.proofs.Common.{rules, ◌≡◌, sym, ap, ◌∙◌, ℕ, ◌+◌, ◌-◌}
use Rattle.post.proofs.start_from.Goals as goal

pub returns-then-used-at : goal.returns-then-used-at
returns-then-used-at c =
    let a = c.args in
    let l = c.loop in
    let P = a.plan in let s = a.s.now in let u = a.used in let m = a.k - l.counter in
    let e : l.counter + m ≡ a.k = search rules in
    let y : l.at ≡ walk_from P s u l.at m = sym (walk_stays P s u l.at m c.if-used-at.true) in
    let w : l.at ≡ walk_from P s u a.from (l.counter + m) = y ∙ ap (λ (z : ℕ). walk_from P s u z m) l.invariant.0 ∙ walk_more P s u a.from l.counter m in
    (w ∙ ap (walk_from P s u a.from) e, search rules)
