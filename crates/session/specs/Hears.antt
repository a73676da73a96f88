-- What the code says of a line before any box changes: the line is done with, or it is an order that goes; and what is known of its box.
use Rattle.std.specs.Prelude.{ℕ, ◌≤◌, Bool, true, false, List, ◌≡◌, length, Err, Ok, None, Some}
use Rattle.laws.specs.Choice.{pick}
use Rattle.laws.specs.Tray.{onto}
use Rattle.house.specs.declared.Order.{Order}
use Rattle.house.specs.declared.Order.TheVariants.{Post}
use Rattle.records.specs.declared.answers.Refusal.{Refusal}
use Rattle.records.specs.declared.Record.{Record}
use Rattle.records.specs.declared.answers.Refusal.TheVariants.{PostFull}
use Rattle.boxes.specs.Sound.{sound}
use Rattle.boxes.specs.declared.BoxState.{BoxState}
use Rattle.rehearsal.specs.Alone.{Stands, alone}
use Rattle.rehearsal.specs.Steps.{Goes}
use Rattle.rehearsal.specs.declared.Night.{Night}
use Rattle.lines.specs.declared.Typed.{Typed}
use Rattle.lines.specs.declared.Typed.TheVariants.{Districts, Job, Given, Unreadable}
use Rattle.report.specs.Texts.{turn_text, answer_most}
use Rattle.session.specs.declared.Desk.{Desk}
use Rattle.session.specs.Desk.{fixed_desk}
use Rattle.boxes.specs.Out.{refused}
use Rattle.session.specs.Heard.{obeyed, handled}
use Rattle.session.specs.declared.hear.Heard.{Heard}

-- the order that a line gives; a plan line asks no box, and the first will do
abbrev pub ask_of : Typed → Order
ask_of (Districts g) = Post 0
ask_of (Job m) = Post 0
ask_of (Given o) = o
ask_of Unreadable = Post 0

-- the answer to an order whose box has stepped: `ok N`, or 12
abbrev pub settled_text : Bool → ℕ → List ℕ
settled_text fits n = pick fits (turn_text (Ok n)) (turn_text (Err PostFull))

-- a text stands in the tray, and the desk after the line is d
pub record Says (d : Desk) (text : List ℕ) (h : Heard) (before after : List ℕ) : Type 0 where
  pub desk_is : h.desk ≡ d
  pub long : h.text ≡ length text
  pub most : h.text ≤ answer_most
  pub text_is : after ≡ onto text before

-- a line that is no order: nothing goes, and nothing is known of a box
pub record Plain (d : Desk) (text : List ℕ) (h : Heard) (before after : List ℕ) : Type 0 where
  pub says : Says d text h before after
  pub stays : h.goes ≡ None
  pub unknown : h.known ≡ false

-- an order: refused, or it goes and nothing is said yet
pub record Obeys (d : Desk) (used : ℕ) (x : BoxState) (s : List ℕ) (o : Order) (h : Heard) (before after : List ℕ) : Type 0 where
  pub refuse : h.goes ≡ None → (why : Refusal) × (alone d.plan used x s o ≡ refused why) × Says (fixed_desk d) (turn_text (Err why)) h before after
  pub go : (r : Record) → h.goes ≡ Some r → Goes d.plan used x s o r × (h.text ≡ 0) × (after ≡ before)
  pub fixed : h.desk ≡ fixed_desk d
  pub most : h.text ≤ answer_most
  pub known : h.known ≡ sound d.plan x

-- a line
pub record Hears (d : Desk) (used : ℕ) (x : BoxState) (s : List ℕ) (t : Typed) (h : Heard) (before after : List ℕ) : Type 0 where
  pub most : h.text ≤ answer_most
  -- it is done with: the night and the post stay
  pub done : h.goes ≡ None → (n : Night) (at : ℕ) → Stands d.plan used x s (ask_of t) n at
      → (text : List ℕ) × (handled d n s t ≡ record { desk = h.desk; night = n; post = s; text = text }) × (h.text ≡ length text) × (after ≡ onto text before)
  -- it is an order that goes
  pub go : (r : Record) → h.goes ≡ Some r → Goes d.plan used x s (ask_of t) r × (h.text ≡ 0) × (after ≡ before) × (h.desk ≡ fixed_desk d)
      × ((n : Night) → handled d n s t ≡ obeyed d n s (ask_of t))
  -- a box known to be sound is so under a plan that is fixed
  pub known : h.known ≡ true → (h.desk.fixed ≡ true) × (sound h.desk.plan x ≡ true)
  -- a fixed plan stays
  pub fixed : d.fixed ≡ true → h.desk ≡ d
