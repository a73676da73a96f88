-- All boxes of a plan, and all records ever sent by place, under any list of orders. The post has no limit here.
use Rattle.std.specs.Prelude.{ℕ, Bool, ◌&&◌, List, [], ◌∷◌, ◌++◌, length, get_or, set, ltb, None}
use Rattle.laws.specs.Fold.{upto}
use Rattle.house.specs.Limits.{least_tray}
use Rattle.house.specs.Pairs.{box_no}
use Rattle.house.specs.Plan.{boxes_of, is_job, plan_sound}
use Rattle.house.specs.declared.Plan.{Plan}
use Rattle.house.specs.declared.Order.{Order}
use Rattle.house.specs.declared.Order.TheVariants.{Post, Stand, Retry, Cut, Carry}
use Rattle.records.specs.declared.answers.Refusal.TheVariants.{NotSound, NoSuch}
use Rattle.records.specs.Rec.{Rec, unknown, carried, addressee_of}
use Rattle.boxes.specs.Box.{fresh}
use Rattle.boxes.specs.Out.{Out, refused, does, guard}
use Rattle.boxes.specs.Post.{posts}
use Rattle.boxes.specs.Step.{takes, retried, stood, cut_off}
use Rattle.boxes.specs.declared.BoxState.{BoxState}

pub record World : Type 0 where
  pub boxes : List BoxState
  pub post : List Rec

-- fresh boxes and an empty post
unfoldable pub fresh_boxes : ℕ → List BoxState
fresh_boxes n = upto (λ l p. l ++ (fresh (box_no p) ∷ [])) [] n

unfoldable pub new : Plan → World
new P = record { boxes = fresh_boxes (boxes_of P); post = [] }

abbrev pub box_at : World → ℕ → BoxState
box_at w p = get_or w.boxes p (fresh (box_no 0))

abbrev pub record_at : World → ℕ → Rec
record_at w k = get_or w.post k unknown

-- the box that an order is given to; a post changes no box
unfoldable pub whose : World → Order → ℕ
whose w (Post j) = 0
whose w (Stand p) = p
whose w (Retry p j) = p
whose w (Cut p) = p
whose w (Carry k) = (addressee_of (record_at w k)).0

-- such a box, job or record exists
unfoldable pub exists : Plan → World → Order → Bool
exists P w (Post j) = is_job P j
exists P w (Stand p) = ltb p (boxes_of P)
exists P w (Retry p j) = ltb p (boxes_of P) && is_job P j
exists P w (Cut p) = ltb p (boxes_of P)
exists P w (Carry k) = ltb k (length w.post)

-- what the box does: exactly its step, with a tray that is large enough
unfoldable pub acts : Plan → World → Order → Out
acts P w (Post j) = does (box_at w 0) (posts P j) None
acts P w (Stand p) = stood P (box_at w p) least_tray
acts P w (Retry p j) = retried P (box_at w p) j least_tray
acts P w (Cut p) = cut_off P (box_at w p)
acts P w (Carry k) = takes P (box_at w (addressee_of (record_at w k)).0) least_tray (carried (record_at w k))

-- 1 for the plan, then 11, then the box's own answers
unfoldable pub given : Plan → World → Order → Out
given P w o = guard (plan_sound P) NotSound (guard (exists P w o) NoSuch (acts P w o))

-- one box changes, its records are appended; a refusal changes nothing
abbrev pub finish : World → ℕ → Out → World
finish w p (refused n) = w
finish w p (does x l d) = record { boxes = set w.boxes p x; post = w.post ++ l }

unfoldable pub step : Plan → World → Order → World
step P w o = finish w (whose w o) (given P w o)

unfoldable pub run : Plan → World → List Order → World
run P w [] = w
run P w (o ∷ os) = run P (step P w o) os
