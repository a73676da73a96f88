-- An order as its box sees it: the box, how much of the post is used, and the post. What it comes to is the same in every night in
-- which the box stands at its place.
use Rattle.std.specs.Prelude.{ℕ, ◌≤◌, ◌<◌, Bool, true, false, List, [], ◌≡◌, None}
use Rattle.house.specs.Limits.{most_boxes, least_tray}
use Rattle.house.specs.Plan.{plan_sound}
use Rattle.house.specs.declared.Plan.{Plan}
use Rattle.house.specs.declared.Order.{Order}
use Rattle.house.specs.declared.Order.TheVariants.{Post, Stand, Retry, Cut, Carry}
use Rattle.records.specs.declared.answers.Refusal.TheVariants.{NotSound, NoSuch}
use Rattle.post.specs.Posting.{most_place, start_of, bytes_from}
use Rattle.post.specs.Index.{Indexed}
use Rattle.post.specs.declared.Index.{Index}
use Rattle.boxes.specs.Out.{Out, does, guard}
use Rattle.boxes.specs.Post.{posts}
use Rattle.boxes.specs.Step.{receives, retried, stood, cut_off}
use Rattle.boxes.specs.declared.BoxState.{BoxState}
use Rattle.rehearsal.specs.Night.{box_in, whose, exists, if_fits}
use Rattle.rehearsal.specs.declared.Night.{Night}
use Rattle.rehearsal.specs.declared.exists.Place.{Place}

-- the box stands at a place of the night, and the order is for that place, if the plan is sound and there is one that it is for
pub record Stands (P : Plan) (used : ℕ) (x : BoxState) (s : List ℕ) (o : Order) (n : Night) (at : ℕ) : Type 0 where
  pub used_is : n.used ≡ used
  pub box_is : box_in n at ≡ x
  pub asked : plan_sound P ≡ true → exists P n s o ≡ true → at ≡ whose P n s o

-- so much of the post is used, and nothing else is known of the night
abbrev pub here : ℕ → Night
here used = record { boxes = []; used = used }

-- what the box does
unfoldable pub acts_on : Plan → ℕ → BoxState → List ℕ → Order → Out
acts_on P used x s (Post j) = does x (posts P j) None
acts_on P used x s (Stand p) = stood P x least_tray
acts_on P used x s (Retry p j) = retried P x j least_tray
acts_on P used x s (Cut p) = cut_off P x
acts_on P used x s (Carry k) = receives P x least_tray (bytes_from P s (start_of P s used k))

-- 1 for the plan, 11, the box's own answers, 12
abbrev pub alone : Plan → ℕ → BoxState → List ℕ → Order → Out
alone P used x s o = guard (plan_sound P) NotSound (guard (exists P (here used) s o) NoSuch (if_fits P (here used) s (acts_on P used x s o)))

-- the record that an order carries begins there
abbrev pub Starts : Plan → List ℕ → ℕ → Order → ℕ → Type 0
Starts P s used o start = (k : ℕ) → o ≡ Carry k → start ≡ start_of P s used k

-- where an order is looked for: the box that it is for, and the beginning of the record that it carries. The index stays right; it
-- goes on only where the plan is fixed
pub record Found (P : Plan) (fixed : Bool) (used : ℕ) (o : Order) (s : List ℕ) (index : Index) (r : Place) (later : Index) : Type 0 where
  pub at_low : r.at < most_boxes
  pub asked : plan_sound P ≡ true → exists P (here used) s o ≡ true → r.at ≡ whose P (here used) s o
  pub start_low : r.start ≤ most_place
  pub starts : Starts P s used o r.start
  pub indexed : Indexed P s used later.places.now later.last
  -- over the places that were lent
  pub lent : later.places.ghost_name ≡ index.places.ghost_name
  pub stays : fixed ≡ false → later ≡ index
