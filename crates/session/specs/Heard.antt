-- What the program does with the order of one line: the desk, the night and the post after it, and the text that it prints.
use Rattle.std.specs.Prelude.{ℕ, Bool, List, [], Err}
use Rattle.laws.specs.Choice.{pick}
use Rattle.house.specs.declared.Order.{Order}
use Rattle.records.specs.declared.answers.Refusal.TheVariants as Refusals
use Rattle.rehearsal.specs.declared.Night.{Night}
use Rattle.rehearsal.specs.declared.nights.Turn.{Turn}
use Rattle.rehearsal.specs.Night.{whose, given, turn_of, post_of}
use Rattle.lines.specs.declared.Typed.{Typed}
use Rattle.lines.specs.declared.Typed.TheVariants.{Districts, Job, Given, Unreadable}
use Rattle.report.specs.Texts.{turn_text}
use Rattle.session.specs.declared.Desk.{Desk}
use Rattle.session.specs.Desk.{districts_here, job_here, with_districts, with_job, fixed_desk}

-- what a line leaves
pub record After : Type 0 where
  pub desk : Desk
  pub night : Night
  pub post : List ℕ
  pub text : List ℕ

-- a line that is unreadable or misplaced prints `no 3`
abbrev pub unread : List ℕ
unread = turn_text (Err Refusals.Unreadable)

-- and changes nothing
abbrev pub passed : Desk → Night → List ℕ → After
passed d n s = record { desk = d; night = n; post = s; text = unread }

-- a plan line in place prints nothing
unfoldable pub plan_line : Bool → List ℕ
plan_line here = pick here [] unread

-- the desk after it is `next`; a misplaced line is not counted
abbrev pub drawn : Bool → Desk → Desk → Night → List ℕ → After
drawn here d next n s = record { desk = pick here next d; night = n; post = s; text = plan_line here }

-- an order fixes the plan, and the rehearsal carries it out or refuses it (with an unsound plan it refuses by 1)
abbrev pub turned : Desk → Night → List ℕ → Order → Turn
turned d n s o = turn_of d.plan n (whose d.plan n s o) (given d.plan n s o)

unfoldable pub obeyed : Desk → Night → List ℕ → Order → After
obeyed d n s o =
    record {
      desk = fixed_desk d;
      night = (turned d n s o).night;
      post = post_of d.plan n s (given d.plan n s o);
      text = turn_text (turned d n s o).answer;
    }

-- a line, as it was typed
unfoldable pub handled : Desk → Night → List ℕ → Typed → After
handled d n s (Districts g) = drawn (districts_here d) d (with_districts d g) n s
handled d n s (Job m) = drawn (job_here d) d (with_job d m) n s
handled d n s (Given o) = obeyed d n s o
handled d n s Unreadable = passed d n s
