-- What the program shows, whatever bytes are typed and in whatever pieces they come: a rehearsal of the orders typed, under the plan typed.
-- And what holds of it if that plan is sound. Statements; nothing is proved here.
use Rattle.std.specs.Prelude.{ℕ, ◌<◌, List, ◌∷◌, ◌++◌, ◌≡◌}
use Rattle.house.specs.Plan.{boxes_of}
use Rattle.house.specs.declared.Plan.{Plan}
use Rattle.house.specs.declared.Order.{Order}
use Rattle.lines.specs.Feed.{joined}
use Rattle.lines.specs.Orders.{orders_of}
use Rattle.lines.specs.declared.Typed.{Typed}
use Rattle.lines.specs.declared.Typed.TheVariants.{Given}
use Rattle.session.specs.World.{act}
use Rattle.session.specs.Session.{fresh_session}
use Rattle.session.specs.Whole.{ended}
use Rattle.rehearsed.specs.Words.{afterwards}
use Rattle.rehearsed.specs.Demand3.{Demand3, OneOrder}
use Rattle.rehearsed.specs.ShownWords.{plan_of, asked_by, played, stage_of, answer_shown, jobs_shown, InOneOrder}

-- the lines of an input that comes in pieces, and the plan in them
abbrev pub lines_in : List (List ℕ) → List Typed
lines_in chunks = orders_of (joined chunks)

abbrev pub plan_in : List (List ℕ) → Plan
plan_in chunks = plan_of (lines_in chunks)

-- a session is a rehearsal, under one plan
pub record IsRehearsal (lent : List ℕ) (chunks : List (List ℕ)) : Type 0 where
  -- the program ends with the plan typed,
  pub plan : (ended fresh_session lent chunks).desk.plan ≡ plan_in chunks
  -- with the night and the post that the orders typed lead to,
  pub end : stage_of (ended fresh_session lent chunks) ≡ afterwards (plan_in chunks) lent (asked_by (lines_in chunks))
  -- at every moment before it had those that the orders so far led to,
  pub moment : (first rest : List Typed) → lines_in chunks ≡ first ++ rest → stage_of (played lent first) ≡ afterwards (plan_in chunks) lent (asked_by first)
  -- and to each order it answered as the rehearsal does
  pub answer : (first rest : List Typed) (o : Order) → lines_in chunks ≡ first ++ (Given o ∷ rest)
      → (act (played lent first) (Given o)).text
      ≡ (played lent first).text ++ answer_shown (plan_in chunks) (afterwards (plan_in chunks) lent (asked_by first)) o

-- what holds of it
pub record Shown (lent : List ℕ) (chunks : List (List ℕ)) : Type 0 where
  pub demand3 : Demand3 (plan_in chunks) lent
  pub one_order : OneOrder (plan_in chunks) lent
  -- any two lists that the program has to show, at whatever two moments of the session, have their common jobs in one order,
  pub lists : (first rest second more : List Typed) (p q : ℕ) → lines_in chunks ≡ first ++ rest → lines_in chunks ≡ second ++ more
      → p < boxes_of (plan_in chunks) → q < boxes_of (plan_in chunks)
      → InOneOrder (jobs_shown (played lent first).night p) (jobs_shown (played lent second).night q)
  -- so have those in the report
  pub report : (p q : ℕ) → p < boxes_of (plan_in chunks) → q < boxes_of (plan_in chunks)
      → InOneOrder (jobs_shown (ended fresh_session lent chunks).night p) (jobs_shown (ended fresh_session lent chunks).night q)
