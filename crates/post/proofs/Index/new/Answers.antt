-- `post::Index::new` meets its contract.
use Rattle.post.proofs.laws.Index.{indexed_none}
use Rattle.std.proofs.Common.{arith, refl}
use Rattle.std.proofs.lemmas.List.{get_or-set_same}
use lib.ListN.{length-set}
use Rattle.post.proofs.Index.new.Goals as goal

pub returns : goal.returns
returns c =
    let a = c.args in
    let l = length-set a.places.now 0 0 in
    (λ h P s u. indexed_none P s u _ (omega (arith, h, l)) (get_or-set_same a.places.now 0 0 0 h), refl)
