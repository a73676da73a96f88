-- `session::feed::feed_chunk` meets its contract.
use Rattle.session.proofs.laws.SessionLaws.{take_within}
use Rattle.session.specs.Session.{chunk_of}
use Rattle.session.proofs.laws.Promises.{leaves_as}
use Rattle.std.proofs.Common.{rules, arith, ◌≡◌, ap, ◌∙◌, ℕ, length, take}
use Rattle.session.proofs.feed.feed_chunk.Goals as goal

pub returns : goal.returns
returns c =
    let a = c.args in
    let k = c.within-k in
    let l = a.chunk.now in
    let m : length l ≡ 2048 = search rules in
    let e : take k.result l ≡ take a.n l = ap (λ (n : ℕ). take n l) k.ensures.0 ∙ take_within a.n 2048 l (omega arith) in
    leaves_as (ap (chunk_of a.s a.post.now) e) c.feed_into.ensures
