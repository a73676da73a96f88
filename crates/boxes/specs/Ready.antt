-- Ready jobs (Figure 4, lines 21-23 and 66-68): which they are, which is next, and how they are handed out.
use Rattle.std.specs.Prelude.{ℕ, Bool, true, not, ◌&&◌, ◌||◌, List, [], ◌++◌, set, eqb, None}
use Rattle.laws.specs.Choice.{pick}
use Rattle.laws.specs.Fold.{upto, all_below}
use Rattle.house.specs.Limits.{no_job, proposed_phase, accepted_phase, committed_phase}
use Rattle.house.specs.Pairs.{stamp_lt}
use Rattle.house.specs.declared.Stamp.{Stamp}
use Rattle.house.specs.declared.Plan.{Plan}
use Rattle.records.specs.Rec.{Rec, deliver}
use Rattle.boxes.specs.Box.{own_of, row_at, sent_at, put_sent}
use Rattle.boxes.specs.Out.{to_home, Out, does}
use Rattle.boxes.specs.declared.BoxState.{BoxState}

-- job j is open: proposed or accepted
unfoldable pub is_open : BoxState → ℕ → Bool
is_open x j = eqb (row_at x j).phase proposed_phase || eqb (row_at x j).phase accepted_phase

-- every open job has a larger local stamp than this one
unfoldable pub open_above : Plan → BoxState → Stamp → Bool
open_above P x s = all_below (λ k. not (is_open x k) || stamp_lt s (row_at x k).local) P.jobs

-- ready: phase 3, not flagged, every open job above its global stamp
unfoldable pub ready : Plan → BoxState → ℕ → Bool
ready P x j = (eqb (row_at x j).phase committed_phase && not (sent_at x j)) && open_above P x (row_at x j).global

-- the better of two by global stamp, then job number; no_job stands for none yet
unfoldable pub better : BoxState → ℕ → ℕ → Bool
better x best j = eqb best no_job || stamp_lt (row_at x j).global (row_at x best).global

-- the next ready job among those below n, or no_job
unfoldable pub next_below : Plan → BoxState → ℕ → ℕ
next_below P x n = upto (λ best j. pick (ready P x j && better x best j) j best) no_job n

abbrev pub next_ready : Plan → BoxState → ℕ
next_ready P x = next_below P x P.jobs

-- DELIVER of job j to the boxes of the district
unfoldable pub delivers : Plan → BoxState → ℕ → List Rec
delivers P x j = to_home P x (λ to. deliver (own_of x) to j (record { ballot = x.core.cballot; local = (row_at x j).local; global = (row_at x j).global }))

unfoldable pub flagged : BoxState → ℕ → BoxState
flagged x j = put_sent x (set x.core.sent j true)

-- a box while it hands out, with what it has sent
pub record Handing : Type 0 where
  pub box : BoxState
  pub sent : List Rec

-- the next ready job goes out and is flagged; nothing happens if there is none
unfoldable pub hand_next : Plan → Handing → Handing
hand_next P h =
    pick (eqb (next_ready P h.box) no_job) h
    (record { box = flagged h.box (next_ready P h.box); sent = h.sent ++ delivers P h.box (next_ready P h.box) })

-- ready jobs go out one by one, picked afresh each time; there are at most as many as jobs
unfoldable pub hand_turns : Plan → BoxState → ℕ → Handing
hand_turns P x n = upto (λ h i. hand_next P h) (record { box = x; sent = [] }) n

abbrev pub hand_out : Plan → BoxState → Handing
hand_out P x = hand_turns P x P.jobs

-- the box after handing out its ready jobs (lines 21-23)
abbrev pub handing : Handing → Out
handing h = does h.box h.sent None
