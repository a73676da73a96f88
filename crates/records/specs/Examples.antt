-- Records of a plan with two districts: some that obey the rules, some that break one each, bytes that are no record, and the bytes of two.
use Rattle.std.specs.Prelude.{ℕ, List, [], ◌∷◌}
use Rattle.house.specs.Limits.{start_phase, proposed_phase, accepted_phase, committed_phase}
use Rattle.house.specs.Pairs.{stamp, ballot, box_no, no_stamp, no_ballot, no_row}
use Rattle.house.specs.declared.Row.{Row}
use Rattle.records.specs.Rec.{Rec, multicast, accept, accept_ack, deliver, newleader, newleader_ack, new_state, newstate_ack}

abbrev accepted : Row
accepted = record { phase = accepted_phase; local = stamp 1 0; global = no_stamp }

abbrev proposed : Row
proposed = record { phase = proposed_phase; local = stamp 1 0; global = no_stamp }

abbrev committed : Row
committed = record { phase = committed_phase; local = stamp 1 0; global = stamp 2 1 }

abbrev pub good : List Rec
good =
    multicast (box_no 6) (box_no 0) 0
    ∷ multicast (box_no 3) (box_no 0) 1
    ∷ accept (box_no 0) (box_no 3) 0 (record { ballot = ballot 1 0; stamp = stamp 1 0 })
    ∷ accept_ack (box_no 0) (box_no 3) 0 (ballot 1 0 ∷ ballot 2 4 ∷ [])
    ∷ accept_ack (box_no 0) (box_no 1) 1 (ballot 1 1 ∷ no_ballot ∷ [])
    ∷ deliver (box_no 0) (box_no 0) 0 (record { ballot = ballot 1 0; local = stamp 1 0; global = stamp 1 1 })
    -- a job that does not name the district is asked later
    ∷ deliver (box_no 3) (box_no 4) 1 (record { ballot = ballot 1 3; local = stamp 1 1; global = stamp 2 0 })
    ∷ newleader (box_no 0) (box_no 2) (ballot 1 0)
    ∷ newleader_ack (box_no 1) (box_no 0) (record { ballot = ballot 2 0; cballot = ballot 1 1; clock = stamp 0 0; table = committed ∷ proposed ∷ [] })
    ∷ newleader_ack (box_no 4) (box_no 3) (record { ballot = ballot 1 3; cballot = no_ballot; clock = stamp 0 1; table = no_row ∷ no_row ∷ [] })
    ∷ new_state (box_no 0) (box_no 1) (record { ballot = ballot 2 0; clock = stamp 5 0; table = committed ∷ accepted ∷ [] })
    ∷ newstate_ack (box_no 1) (box_no 0) (ballot 2 0)
    ∷ []

abbrev pub bad : List Rec
bad =
    -- 1: from is no box and not the office; to is the office; no such job
    multicast (box_no 7) (box_no 0) 0
    ∷ multicast (box_no 0) (box_no 6) 0
    ∷ multicast (box_no 6) (box_no 0) 2
    -- 2: another's ballot; another district's stamp; district not named; no job; time 0
    ∷ accept (box_no 0) (box_no 3) 0 (record { ballot = ballot 1 1; stamp = stamp 1 0 })
    ∷ accept (box_no 0) (box_no 3) 0 (record { ballot = ballot 1 0; stamp = stamp 1 1 })
    ∷ accept (box_no 3) (box_no 0) 1 (record { ballot = ballot 1 3; stamp = stamp 1 1 })
    ∷ accept (box_no 0) (box_no 3) 255 (record { ballot = ballot 1 0; stamp = stamp 1 0 })
    ∷ accept (box_no 0) (box_no 3) 0 (record { ballot = ballot 1 0; stamp = stamp 0 0 })
    -- 3: no ballot for a named district; one for another; a box of another district; sender's district not named
    ∷ accept_ack (box_no 0) (box_no 3) 0 (ballot 1 0 ∷ no_ballot ∷ [])
    ∷ accept_ack (box_no 0) (box_no 1) 1 (ballot 1 1 ∷ ballot 1 3 ∷ [])
    ∷ accept_ack (box_no 0) (box_no 3) 0 (ballot 1 3 ∷ ballot 1 3 ∷ [])
    ∷ accept_ack (box_no 3) (box_no 0) 1 (ballot 1 0 ∷ no_ballot ∷ [])
    -- 4: to another district; another's ballot; global below local; local of another district; global not of a named one
    ∷ deliver (box_no 0) (box_no 3) 0 (record { ballot = ballot 1 0; local = stamp 1 0; global = stamp 1 1 })
    ∷ deliver (box_no 0) (box_no 1) 0 (record { ballot = ballot 1 1; local = stamp 1 0; global = stamp 1 1 })
    ∷ deliver (box_no 0) (box_no 1) 0 (record { ballot = ballot 1 0; local = stamp 2 0; global = stamp 1 1 })
    ∷ deliver (box_no 0) (box_no 1) 0 (record { ballot = ballot 1 0; local = stamp 1 1; global = stamp 1 1 })
    ∷ deliver (box_no 0) (box_no 1) 1 (record { ballot = ballot 1 0; local = stamp 1 0; global = stamp 2 1 })
    -- 5: to another district; another's ballot; a ballot that is none
    ∷ newleader (box_no 0) (box_no 3) (ballot 1 0)
    ∷ newleader (box_no 0) (box_no 1) (ballot 1 1)
    ∷ newleader (box_no 0) (box_no 1) no_ballot
    -- 6: the ballot is not the addressee's; cballot not lower; of another district; clock of another district; a row of a job not named;
    -- a start row with a stamp
    ∷ newleader_ack (box_no 1) (box_no 0) (record { ballot = ballot 2 1; cballot = ballot 1 1; clock = stamp 0 0; table = no_row ∷ no_row ∷ [] })
    ∷ newleader_ack (box_no 1) (box_no 0) (record { ballot = ballot 2 0; cballot = ballot 2 0; clock = stamp 0 0; table = no_row ∷ no_row ∷ [] })
    ∷ newleader_ack (box_no 1) (box_no 0) (record { ballot = ballot 2 0; cballot = ballot 1 3; clock = stamp 0 0; table = no_row ∷ no_row ∷ [] })
    ∷ newleader_ack (box_no 1) (box_no 0) (record { ballot = ballot 2 0; cballot = ballot 1 1; clock = stamp 0 1; table = no_row ∷ no_row ∷ [] })
    ∷
    newleader_ack
    (box_no 4)
    (box_no 3)
    (record {
      ballot = ballot 1 3;
      cballot = no_ballot;
      clock = stamp 0 1;
      table = no_row ∷ record { phase = accepted_phase; local = stamp 1 1; global = no_stamp } ∷ [];
    })
    ∷
    newleader_ack
    (box_no 1)
    (box_no 0)
    (record {
      ballot = ballot 2 0;
      cballot = ballot 1 1;
      clock = stamp 0 0;
      table = record { phase = start_phase; local = stamp 1 0; global = no_stamp } ∷ no_row ∷ [];
    })
    -- 7: phase 1; to itself; another's ballot
    ∷ new_state (box_no 0) (box_no 1) (record { ballot = ballot 2 0; clock = stamp 5 0; table = proposed ∷ accepted ∷ [] })
    ∷ new_state (box_no 0) (box_no 0) (record { ballot = ballot 2 0; clock = stamp 5 0; table = no_row ∷ no_row ∷ [] })
    ∷ new_state (box_no 0) (box_no 1) (record { ballot = ballot 2 1; clock = stamp 5 0; table = no_row ∷ no_row ∷ [] })
    -- 8: to itself; not the addressee's ballot
    ∷ newstate_ack (box_no 0) (box_no 0) (ballot 2 0)
    ∷ newstate_ack (box_no 1) (box_no 0) (ballot 2 1)
    ∷ []

-- bytes that are no record: none at all; the first count; kinds 0 and 9; a byte missing; a byte left over; each other count
abbrev pub shapeless : List (List ℕ)
shapeless =
    []
    ∷ (5 ∷ 1 ∷ 6 ∷ 0 ∷ 0 ∷ 0 ∷ 0 ∷ 0 ∷ [])
    ∷ (4 ∷ 0 ∷ 6 ∷ 0 ∷ 0 ∷ 0 ∷ 0 ∷ 0 ∷ [])
    ∷ (4 ∷ 9 ∷ 6 ∷ 0 ∷ 0 ∷ 0 ∷ 0 ∷ 0 ∷ [])
    ∷ (4 ∷ 1 ∷ 6 ∷ 0 ∷ 0 ∷ 0 ∷ 0 ∷ [])
    ∷ (4 ∷ 1 ∷ 6 ∷ 0 ∷ 0 ∷ 0 ∷ 0 ∷ 0 ∷ 0 ∷ [])
    ∷ (4 ∷ 1 ∷ 6 ∷ 0 ∷ 0 ∷ 1 ∷ 0 ∷ 0 ∷ [])
    ∷ (4 ∷ 1 ∷ 6 ∷ 0 ∷ 0 ∷ 0 ∷ 1 ∷ 0 ∷ [])
    ∷ (4 ∷ 1 ∷ 6 ∷ 0 ∷ 0 ∷ 0 ∷ 0 ∷ 1 ∷ [])
    ∷ []
