-- The box: what stands at a place of it, a fresh one, and the changes that steps make.
use Rattle.std.specs.Prelude.{ℕ, ◌+◌, ◌-◌, ◌*◌, Bool, true, false, List, get_or, set, replicate, eqb, ltb}
use Rattle.laws.specs.Choice.{pick}
use Rattle.laws.specs.Fold.{some_below}
use Rattle.house.specs.Limits.{most_districts, most_jobs}
use Rattle.house.specs.Pairs.{box_no, no_stamp, no_ballot, no_row}
use Rattle.house.specs.declared.Stamp.{Stamp}
use Rattle.house.specs.declared.Ballot.{Ballot}
use Rattle.house.specs.declared.BoxNo.{BoxNo}
use Rattle.house.specs.declared.District.{District}
use Rattle.house.specs.declared.Row.{Row}
use Rattle.house.specs.Plan.{home_of}
use Rattle.house.specs.declared.Plan.{Plan}
use Rattle.house.specs.Marks.{no_marks}
use Rattle.records.specs.Rec.{no_rows}
use Rattle.boxes.specs.declared.BoxState.{BoxState}
use Rattle.boxes.specs.declared.Volatile.{Volatile}
use Rattle.boxes.specs.declared.Vote.{Vote}
use Rattle.boxes.specs.declared.Listed.{Listed}
use Rattle.boxes.specs.declared.Status.{Status}
use Rattle.boxes.specs.declared.Status.TheVariants.{Follower, Leader, Recovering}

abbrev pub is_leader : Status → Bool
is_leader Follower = false
is_leader Leader = true
is_leader Recovering = false

abbrev pub is_recovering : Status → Bool
is_recovering Follower = false
is_recovering Leader = false
is_recovering Recovering = true

-- ---- places

-- own number and own district
abbrev pub own_of : BoxState → BoxNo
own_of x = x.core.own

abbrev pub home_in : Plan → BoxState → District
home_in P x = home_of P x.core.own

-- the row of a job: phase, local stamp, global stamp
unfoldable pub row_at : BoxState → ℕ → Row
row_at x j = get_or x.core.table j no_row

unfoldable pub sent_at : BoxState → ℕ → Bool
sent_at x j = get_or x.core.sent j false

abbrev pub no_listed : Listed
no_listed = record { job = 0; stamp = no_stamp }

unfoldable pub listed_at : BoxState → ℕ → Listed
listed_at x i = get_or x.core.list i no_listed

-- the last delivered stamp, none if the list is empty
unfoldable pub last_stamp : BoxState → Stamp
last_stamp x = pick (eqb x.core.count 0) no_stamp (listed_at x (x.core.count - 1)).stamp

-- job j is on the delivered list
unfoldable pub on_list : BoxState → ℕ → Bool
on_list x j = some_below (λ i. eqb (listed_at x i).job j) x.core.count

-- the ACCEPT kept for job j and district d: one of 256 pairs
unfoldable pub kept_at : ℕ → District → ℕ
kept_at j d = j * most_districts + d.0

unfoldable pub kept_ballot : BoxState → ℕ → District → Ballot
kept_ballot x j d = get_or x.volatile.kept_ballots (kept_at j d) no_ballot

unfoldable pub kept_stamp : BoxState → ℕ → District → Stamp
kept_stamp x j d = get_or x.volatile.kept_stamps (kept_at j d) no_stamp

unfoldable pub marks_at : BoxState → ℕ → ℕ
marks_at x j = get_or x.volatile.marks j no_marks

-- ---- a fresh box: follower, clock 0, everything else none

abbrev pub no_vote : Vote
no_vote = record { held = false; voter = box_no 0; cballot = no_ballot; clock = 0; table = no_rows }

unfoldable pub fresh_volatile : Volatile
fresh_volatile = record { kept_ballots = replicate 256 no_ballot; kept_stamps = replicate 256 no_stamp; marks = replicate most_jobs no_marks; vote = no_vote }

unfoldable pub fresh : BoxNo → BoxState
fresh own =
    record {
      core =
          record {
            own = own;
            status = Follower;
            clock = 0;
            ballot = no_ballot;
            cballot = no_ballot;
            table = no_rows;
            sent = replicate most_jobs false;
            count = 0;
            list = replicate most_jobs no_listed;
          };
      volatile = fresh_volatile;
    }

-- ---- changes

-- status and the two ballots
abbrev pub put_mode : BoxState → Status → Ballot → Ballot → BoxState
put_mode x s b cb =
    record {
      core =
          record {
            own = x.core.own;
            status = s;
            clock = x.core.clock;
            ballot = b;
            cballot = cb;
            table = x.core.table;
            sent = x.core.sent;
            count = x.core.count;
            list = x.core.list;
          };
      volatile = x.volatile;
    }

-- the clock and the table
abbrev pub put_table : BoxState → ℕ → List Row → BoxState
put_table x c t =
    record {
      core =
          record {
            own = x.core.own;
            status = x.core.status;
            clock = c;
            ballot = x.core.ballot;
            cballot = x.core.cballot;
            table = t;
            sent = x.core.sent;
            count = x.core.count;
            list = x.core.list;
          };
      volatile = x.volatile;
    }

-- the clock and the row of a job
abbrev pub put_row : BoxState → ℕ → ℕ → Row → BoxState
put_row x c j r = put_table x c (set x.core.table j r)

-- the sent flags
abbrev pub put_sent : BoxState → List Bool → BoxState
put_sent x l =
    record {
      core =
          record {
            own = x.core.own;
            status = x.core.status;
            clock = x.core.clock;
            ballot = x.core.ballot;
            cballot = x.core.cballot;
            table = x.core.table;
            sent = l;
            count = x.core.count;
            list = x.core.list;
          };
      volatile = x.volatile;
    }

-- a job more on the delivered list
abbrev pub put_listed : BoxState → ℕ → Stamp → BoxState
put_listed x j s =
    record {
      core =
          record {
            own = x.core.own;
            status = x.core.status;
            clock = x.core.clock;
            ballot = x.core.ballot;
            cballot = x.core.cballot;
            table = x.core.table;
            sent = x.core.sent;
            count = x.core.count + 1;
            list = set x.core.list x.core.count (record { job = j; stamp = s });
          };
      volatile = x.volatile;
    }

-- the ACCEPT kept for a job and a district, and the job's marks
abbrev pub put_kept : BoxState → ℕ → District → Ballot → Stamp → ℕ → BoxState
put_kept x j d b s m =
    record {
      core = x.core;
      volatile =
          record {
            kept_ballots = set x.volatile.kept_ballots (kept_at j d) b;
            kept_stamps = set x.volatile.kept_stamps (kept_at j d) s;
            marks = set x.volatile.marks j m;
            vote = x.volatile.vote;
          };
    }

-- the marks of a job
abbrev pub put_marks : BoxState → ℕ → ℕ → BoxState
put_marks x j m =
    record {
      core = x.core;
      volatile =
          record {
            kept_ballots = x.volatile.kept_ballots;
            kept_stamps = x.volatile.kept_stamps;
            marks = set x.volatile.marks j m;
            vote = x.volatile.vote;
          };
    }

-- the vote kept
abbrev pub put_vote : BoxState → Vote → BoxState
put_vote x v =
    record {
      core = x.core;
      volatile = record { kept_ballots = x.volatile.kept_ballots; kept_stamps = x.volatile.kept_stamps; marks = x.volatile.marks; vote = v };
    }

-- the clock raised to a time (line 14)
unfoldable pub raised : ℕ → ℕ → ℕ
raised c t = pick (ltb c t) t c
