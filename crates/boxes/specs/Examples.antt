-- The fourteen proved examples of document 01: one table of tests about the definitions, and one theorem.
use Rattle.std.specs.Prelude.{ℕ, Bool, true, false, not, ◌&&◌, set, replicate, eqb}
use mathlib.Core.List.{List, [], ◌∷◌, foldl}
use Rattle.house.specs.Limits.{no_job, most_jobs, accepted_phase, committed_phase}
use Rattle.house.specs.Pairs.{district, box_no, stamp, ballot, no_stamp, no_row, stamp_lt, ballot_lt, same_stamp, same_ballot, latest_stamp}
use Rattle.house.specs.declared.Stamp.{Stamp}
use Rattle.house.specs.declared.Ballot.{Ballot}
use Rattle.house.specs.declared.Row.{Row}
use Rattle.house.specs.declared.Plan.{Plan}
use Rattle.house.specs.Marks.{no_marks, marked, quorum_in, quorum_each}
use Rattle.records.specs.Rec.{newleader, no_rows, carried}
use Rattle.records.specs.Bytes.{encode}
use Rattle.boxes.specs.Box.{fresh, put_table, put_mode}
use Rattle.boxes.specs.Sound.{sound}
use Rattle.boxes.specs.Ready.{next_ready}
use Rattle.boxes.specs.Merge.{merged_row}
use Rattle.boxes.specs.Stand.{next_ballot}
use Rattle.boxes.specs.declared.BoxState.{BoxState}
use Rattle.boxes.specs.declared.Vote.{Vote}
use Rattle.boxes.specs.declared.Status.TheVariants.{Follower}

-- two districts and two jobs, each for both
abbrev pub night : Plan
night = record { districts = 2; jobs = 2; masks = set (set (replicate most_jobs 0) 0 3) 1 3 }

-- marks of some boxes
abbrev pub marks_of : List ℕ → ℕ
marks_of l = foldl (λ m p. marked m (box_no p)) no_marks l

abbrev pub accepted : Stamp → Row
accepted s = record { phase = accepted_phase; local = s; global = no_stamp }

abbrev pub committed : Stamp → Row
committed s = record { phase = committed_phase; local = s; global = s }

-- a box with these rows for jobs 0 and 1
abbrev pub holding : Row → Row → BoxState
holding r s = put_table (fresh (box_no 0)) 4 (set (set no_rows 0 r) 1 s)

-- a vote of box p with this cballot and this row for job 0
abbrev pub voting : ℕ → Ballot → Row → Vote
voting p b r = record { held = true; voter = box_no p; cballot = b; clock = 4; table = set no_rows 0 r }

-- two rows are the same: phase and both stamps
abbrev pub same_row : Row → Row → Bool
same_row r s = eqb r.phase s.phase && (same_stamp r.local s.local && same_stamp r.global s.global)

-- box 0, a follower in ballot b
abbrev pub balloted : Ballot → BoxState
balloted b = put_mode (fresh (box_no 0)) Follower b b

abbrev pub same_bytes : List ℕ → List ℕ → Bool
same_bytes [] [] = true
same_bytes [] (b ∷ k) = false
same_bytes (a ∷ l) [] = false
same_bytes (a ∷ l) (b ∷ k) = eqb a b && same_bytes l k

unfoldable pub examples : List Bool
examples =
    -- 1 (1,3) is below (2,0)
    stamp_lt (stamp 1 3) (stamp 2 0)
    -- 2 none is below (1,0)
    ∷ stamp_lt no_stamp (stamp 1 0)
    -- 3 ballot (1,2) is below (2,0)
    ∷ ballot_lt (ballot 1 2) (ballot 2 0)
    -- 4 marks {0}: no quorum in district 0
    ∷ not (quorum_in night (marks_of (0 ∷ [])) (district 0))
    -- 5 {0,1}: quorum
    ∷ quorum_in night (marks_of (0 ∷ 1 ∷ [])) (district 0)
    -- 6 {0,1,3}: not for mask 3
    ∷ not (quorum_each night 0 (marks_of (0 ∷ 1 ∷ 3 ∷ [])))
    -- 7 {0,1,3,4}: yes
    ∷ quorum_each night 0 (marks_of (0 ∷ 1 ∷ 3 ∷ 4 ∷ []))
    -- 8 committed (3,0), another accepted (2,0): nothing ready
    ∷ eqb (next_ready night (holding (committed (stamp 3 0)) (accepted (stamp 2 0)))) no_job
    -- 9 the other at (4,0): ready
    ∷ eqb (next_ready night (holding (committed (stamp 3 0)) (accepted (stamp 4 0)))) 0
    -- 10 votes: cballot (1,0) accepted, (2,1) start: merges to start
    ∷ same_row (merged_row (voting 0 (ballot 1 0) (accepted (stamp 1 0)) ∷ voting 1 (ballot 2 1) no_row ∷ []) 0) no_row
    -- 11 the first committed instead: committed
    ∷ same_row (merged_row (voting 0 (ballot 1 0) (committed (stamp 1 0)) ∷ voting 1 (ballot 2 1) no_row ∷ []) 0) (committed (stamp 1 0))
    -- 12 stand at box 0, which is sound, from (1,2): (2,0)
    ∷ (sound night (balloted (ballot 1 2)) && same_ballot (next_ballot (balloted (ballot 1 2))) (ballot 2 0))
    -- 13 largest of (1,0), (3,1), (2,2): (3,1)
    ∷ same_stamp (latest_stamp (stamp 1 0 ∷ stamp 3 1 ∷ stamp 2 2 ∷ [])) (stamp 3 1)
    -- 14 NEWLEADER (1,0) from 0 to 1: 04 05 00 01 FF 01 00 01 00 00 00
    ∷
    same_bytes
    (encode night (carried (newleader (box_no 0) (box_no 1) (ballot 1 0))))
    (0x04 ∷ 0x05 ∷ 0x00 ∷ 0x01 ∷ 0xFF ∷ 0x01 ∷ 0x00 ∷ 0x01 ∷ 0x00 ∷ 0x00 ∷ 0x00 ∷ [])
    ∷ []
