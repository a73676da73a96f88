-- `post::find_start` meets its contract.
use Rattle.post.specs.Posting.{walk_from, start_of}
use Rattle.post.proofs.laws.Posting.{start_more}
use Rattle.std.proofs.Common.{arith, ◌≡◌, ap, ◌∙◌, ◌+◌, ◌-◌, get_or}
use Rattle.post.proofs.find_start.Goals as goal

pub returns : goal.returns
returns c =
    let a = c.args in
    let P = a.plan in let s = a.s.now in let u = a.used in let m = a.k - a.count in
    let e : a.count + m ≡ a.k = omega (arith, c.if-want-count.false) in
    let i : get_or a.index.now a.count 0 ≡ start_of P s u a.count = c.requires.starts a.count (omega arith) in
    (c.start_from.ensures.0 ∙ ap (λ z. walk_from P s u z m) i ∙ start_more P s u a.count m ∙ ap (start_of P s u) e, c.start_from.ensures.1)
