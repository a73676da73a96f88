-- `session::hear::order_of` meets its contract.
use Rattle.session.proofs.hear.order_of.Goals as goal

pub returns-in-Given : goal.returns-in-Given
returns-in-Given c = rw c.in-Given.is
