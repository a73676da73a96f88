-- 1 MULTICAST: a leader proposes a job (Figure 4, lines 3-9).
use Rattle.std.specs.Prelude.{ℕ, ◌+◌, not, ◌||◌, List, ltb, eqb, None}
use Rattle.laws.specs.Choice.{pick}
use Rattle.house.specs.Limits.{most_time, start_phase, proposed_phase}
use Rattle.house.specs.Pairs.{stamp, no_stamp}
use Rattle.house.specs.Plan.{names}
use Rattle.house.specs.declared.Plan.{Plan}
use Rattle.records.specs.Answers.{or_no, Answer, done}
use Rattle.records.specs.declared.answers.Refusal.TheVariants.{NotNamed, WrongStatus, AtLimit}
use Rattle.records.specs.Rec.{Rec, accept}
use Rattle.boxes.specs.Box.{is_leader, own_of, home_in, row_at, put_row}
use Rattle.boxes.specs.Out.{Out, does, to_named, under}
use Rattle.boxes.specs.declared.BoxState.{BoxState}

-- phase 0: clock + 1, new local stamp, phase 1 (lines 5-8)
unfoldable pub proposed : Plan → BoxState → ℕ → BoxState
proposed P x j =
    pick (eqb (row_at x j).phase start_phase)
    (put_row x (x.core.clock + 1) j (record { phase = proposed_phase; local = stamp (x.core.clock + 1) (home_in P x).0; global = no_stamp }))
    x

-- ACCEPT, stored stamp, to all boxes of named districts (line 9)
unfoldable pub accepts : Plan → BoxState → ℕ → List Rec
accepts P x j = to_named P j (λ to. accept (own_of x) to j (record { ballot = x.core.cballot; stamp = (row_at x j).local }))

-- what it is answered
abbrev pub multicast_answer : Plan → BoxState → ℕ → Answer
multicast_answer P x j =
    or_no (names P j (home_in P x)) NotNamed
    -- leader only (line 4)
    (or_no (is_leader x.core.status) WrongStatus
    -- a new stamp needs room on the clock
    (or_no (not (eqb (row_at x j).phase start_phase) || ltb x.core.clock most_time) AtLimit
    done))

unfoldable pub on_multicast : Plan → BoxState → ℕ → Out
on_multicast P x j = under (multicast_answer P x j) (does (proposed P x j) (accepts P (proposed P x j) j) None)
