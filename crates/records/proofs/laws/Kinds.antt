-- What a struct of each kind says: the cases of `meaning`, one law a kind.
use mathlib.Core.Logic.{◌≢◌}
use mathlib.Core.Path.{◌≡◌}
use borrow.Author.Tests.{ne_eqb}
use Rattle.laws.specs.Choice.{pick}
use Rattle.records.specs.Rec.{multicast, accept, accept_ack, deliver, newleader, newleader_ack, new_state, newstate_ack, unknown, meaning, ballot_no}
use Rattle.records.specs.Rec.{stamp_no}
use Rattle.records.specs.declared.Record.{Record}

module _ (r : Record) where
  pub says_multicast : r.kind ≡ 1 → meaning r ≡ multicast r.from r.to r.job
  unfolding meaning pick
  says_multicast e = rw e

  pub says_accept : r.kind ≡ 2 → meaning r ≡ accept r.from r.to r.job (record { ballot = ballot_no r 0; stamp = stamp_no r 0 })
  unfolding meaning pick
  says_accept e = rw e

  pub says_accept_ack : r.kind ≡ 3 → meaning r ≡ accept_ack r.from r.to r.job r.ballots
  unfolding meaning pick
  says_accept_ack e = rw e

  pub says_deliver : r.kind ≡ 4 → meaning r ≡ deliver r.from r.to r.job (record { ballot = ballot_no r 0; local = stamp_no r 0; global = stamp_no r 1 })
  unfolding meaning pick
  says_deliver e = rw e

  pub says_newleader : r.kind ≡ 5 → meaning r ≡ newleader r.from r.to (ballot_no r 0)
  unfolding meaning pick
  says_newleader e = rw e

  pub says_newleader_ack : r.kind ≡ 6
      → meaning r ≡ newleader_ack r.from r.to (record { ballot = ballot_no r 0; cballot = ballot_no r 1; clock = stamp_no r 0; table = r.table })
  unfolding meaning pick
  says_newleader_ack e = rw e

  pub says_new_state : r.kind ≡ 7 → meaning r ≡ new_state r.from r.to (record { ballot = ballot_no r 0; clock = stamp_no r 0; table = r.table })
  unfolding meaning pick
  says_new_state e = rw e

  pub says_newstate_ack : r.kind ≡ 8 → meaning r ≡ newstate_ack r.from r.to (ballot_no r 0)
  unfolding meaning pick
  says_newstate_ack e = rw e

  -- any other kind says nothing
  pub says_nothing : r.kind ≢ 1 → r.kind ≢ 2 → r.kind ≢ 3 → r.kind ≢ 4 → r.kind ≢ 5 → r.kind ≢ 6 → r.kind ≢ 7 → r.kind ≢ 8 → meaning r ≡ unknown
  unfolding meaning pick
  says_nothing a b c d e f g h =
      rw (
        ne_eqb r.kind 1 a,
        ne_eqb r.kind 2 b,
        ne_eqb r.kind 3 c,
        ne_eqb r.kind 4 d,
        ne_eqb r.kind 5 e,
        ne_eqb r.kind 6 f,
        ne_eqb r.kind 7 g,
        ne_eqb r.kind 8 h,
      )
