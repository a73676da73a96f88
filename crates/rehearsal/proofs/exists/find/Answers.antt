-- `rehearsal::exists::find` meets its contract.
use Rattle.rehearsal.proofs.laws.Alone.{found_as, post_found, box_found}
use Rattle.std.proofs.Common.{arith, refl}
use Rattle.rehearsal.proofs.exists.find.Goals as goal

pub returns-in-Post : goal.returns-in-Post
returns-in-Post c = found_as c.in-Post.is (post_found _ 0 0 (λ h. refl) c.requires _ (omega arith) refl)

pub returns-in-Stand : goal.returns-in-Stand
returns-in-Stand c = box_found _ _ _ c.place_of.ensures.1 c.requires c.place_of.ensures.0 c.in-Stand.is
