-- `session::feed::fresh_session` meets its contract.
use Rattle.lines.proofs.laws.ReadLaws.{nothing_is}
use Rattle.session.proofs.feed.fresh_session.Goals as goal

pub returns : goal.returns
returns c = record { line = nothing_is c.no_line.ensures; desk = c.empty_desk.ensures; night = c.fresh_night.ensures }
