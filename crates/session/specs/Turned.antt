-- What the order of a line does to the box that it asks: it is refused, or the box steps, and its records are behind the last if they fit.
use Rattle.std.specs.Prelude.{ℕ, ◌≤◌, true, List, ◌≡◌, length, set, take, is_some}
use Rattle.laws.specs.Tray.{onto}
use Rattle.boxes.specs.Sound.{sound}
use Rattle.boxes.specs.declared.BoxState.{BoxState}
use Rattle.report.specs.Texts.{answer_most}
use Rattle.lines.specs.declared.Typed.{Typed}
use Rattle.rehearsal.specs.Alone.{Stands}
use Rattle.rehearsal.specs.declared.Night.{Night}
use Rattle.rehearsal.specs.Settled.{Settles}
use Rattle.session.specs.declared.Desk.{Desk}
use Rattle.session.specs.Heard.{handled}
use Rattle.session.specs.Hears.{ask_of, settled_text}
use Rattle.session.specs.declared.turn.Finished.{Finished}
use Rattle.session.specs.declared.turn.Turned.{Turned}

-- the records of a step are behind the last if they fit, and the order is answered
pub record Finishes (used more records : ℕ) (tray post before : List ℕ) (r : Finished) (later after : List ℕ) : Type 0 where
  pub settles : Settles used more tray post r.used later
  pub few : r.text ≤ answer_most
  pub said : r.text ≡ length (settled_text (is_some r.used) records)
  pub printed : after ≡ onto (settled_text (is_some r.used) records) before

-- the order of a line, and the box x that it asks, which is y then
pub record Turns (desk : Desk) (used : ℕ) (x : BoxState) (post : List ℕ) (t : Typed) (r : Turned) (y : BoxState) (later before after : List ℕ) : Type 0 where
  pub most : r.text ≤ answer_most
  -- in a night in which the box stands at its place
  pub does : (n : Night) (at : ℕ) → Stands desk.plan used x post (ask_of t) n at
      → (text : List ℕ)
      × (handled desk n post t ≡ record { desk = r.desk; night = record { boxes = set n.boxes at y; used = r.used }; post = later; text = text })
      × (r.text ≡ length text) × (after ≡ onto text before)
  -- a box known to be sound is so under a plan that is fixed, and stays so
  pub known : r.known ≡ true → (r.desk.fixed ≡ true) × (sound r.desk.plan x ≡ true)
  pub stays : sound r.desk.plan x ≡ true → sound r.desk.plan y ≡ true
  -- a fixed plan stays
  pub fixed : desk.fixed ≡ true → r.desk ≡ desk
  -- the post keeps what is used of it
  pub more : used ≤ r.used
  pub front : take used later ≡ take used post
