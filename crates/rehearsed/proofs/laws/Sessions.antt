-- At every moment of a session the night and the post are those of the rehearsal of the orders typed so far, under the plan of the whole session.
use Prim.Native.Nat.{ℕ}
use mathlib.Core.Bool.{Bool, true, false, not}
use mathlib.Core.List.{List, [], ◌∷◌, ◌++◌, foldl, append_assoc, append-nil}
use mathlib.Core.Logic.{◌⊎◌, inl, inr}
use mathlib.Core.Path.{◌≡◌, refl, sym, ap, subst, ◌∙◌}
use Rattle.laws.specs.Choice.{pick}
use Rattle.laws.proofs.laws.Choice.{and_right, look, never, or_fails, not_of}
use Rattle.house.specs.declared.Plan.{Plan}
use Rattle.house.specs.declared.Order.{Order}
use Rattle.lines.specs.declared.Typed.{Typed}
use Rattle.lines.specs.declared.Typed.TheVariants.{Districts, Job, Given, Unreadable}
use Rattle.session.specs.Desk.{districts_here, job_here, with_districts, with_job}
use Rattle.session.specs.declared.Desk.{Desk}
use Rattle.session.specs.Heard.{handled, obeyed, drawn}
use Rattle.session.specs.World.{World, saying, act}
use Rattle.session.specs.Whole.{first_world}
use Rattle.rehearsed.specs.Runs.{Stage, after, rehearsed, beginning}
use Rattle.rehearsed.proofs.laws.Runs.{rehearsed_then}
use Rattle.rehearsed.specs.Words.{afterwards}
use Rattle.rehearsed.specs.ShownWords.{desk_of, plan_of, asked, asked_by, played, stage_of}
use Rattle.rehearsed.proofs.laws.Plans.{desk_played, plan_fixed}

-- the program after some orders: a rehearsal of them under the desk's plan, and none before the plan is fixed
record Keeps (lent : List ℕ) (done : List Order) (w : World) : Type 0 where
  pub stage : stage_of w ≡ afterwards w.desk.plan lent done
  pub none : w.desk.fixed ≡ false → done ≡ []

-- off, since its contrary is on
off : {a : Bool} → not a ≡ true → a ≡ false
off {a} e = go (look a)
  where
    go : (a ≡ true) ⊎ (a ≡ false) → a ≡ false
    go (inl h) = never e (not_of h)
    go (inr h) = h

-- a line without an order
keeps_nil : {lent : List ℕ} {done : List Order} {w : World} → Keeps lent done w → Keeps lent (done ++ []) w
keeps_nil {lent} {done} {w} K = subst (λ (l : List Order). Keeps lent l w) (sym (append-nil done)) K

module _ {lent : List ℕ} {done : List Order} {w : World} (K : Keeps lent done w) where
  -- an order is the rehearsal's turn
  keeps_order : (o : Order) → Keeps lent (done ++ (o ∷ [])) (saying w.text (obeyed w.desk w.night w.post o))
  unfolding obeyed after rehearsed
  keeps_order o =
      record {
        stage = sym (rehearsed_then w.desk.plan (beginning lent) done (o ∷ []) ∙ ap (λ (r : Stage). after w.desk.plan r o) (sym K.stage));
        none = λ e. never refl e;
      }

  -- a plan line changes the plan only while no order was given
  keeps_plan : (here : Bool) (next : Desk) → (here ≡ true → w.desk.fixed ≡ false)
      → Keeps lent (done ++ []) (saying w.text (drawn here w.desk next w.night w.post))
  unfolding rehearsed pick
  keeps_plan true next f =
      let e = K.none (f refl) in
      record {
        stage = K.stage ∙ ap (afterwards w.desk.plan lent) e ∙ sym (ap (afterwards next.plan lent) (append-nil done ∙ e));
        none = λ _. append-nil done ∙ e;
      }
  keeps_plan false next f = keeps_nil (record { stage = K.stage; none = K.none })

  -- any line; an unreadable one changes nothing
  keeps_act : (o : Typed) → Keeps lent (done ++ asked o) (act w o)
  unfolding act handled asked districts_here job_here
  keeps_act (Districts g) =
      keeps_plan (districts_here w.desk) (with_districts w.desk g) (λ e. (or_fails w.desk.drawn w.desk.fixed (off e)).1)
  keeps_act (Job m) = keeps_plan (job_here w.desk) (with_job w.desk m) (λ e. off (and_right w.desk.drawn (not w.desk.fixed) e))
  keeps_act (Given o) = keeps_order o
  keeps_act Unreadable = keeps_nil (record { stage = K.stage; none = K.none })

keeps_all : {lent : List ℕ} {done : List Order} {w : World} → Keeps lent done w → (lines : List Typed)
    → Keeps lent (done ++ asked_by lines) (foldl act w lines)
unfolding asked_by
keeps_all {lent} {done = done} {w = w} K [] = keeps_nil K
keeps_all {lent} {done = done} {w = w} K (o ∷ lines) =
    subst (λ (l : List Order). Keeps lent l (foldl act (act w o) lines)) (append_assoc done (asked o) (asked_by lines))
    (keeps_all {done = done ++ asked o} {w = act w o} (keeps_act K o) lines)

keeps_played : (lent : List ℕ) (lines : List Typed) → Keeps lent (asked_by lines) (played lent lines)
unfolding rehearsed beginning
keeps_played lent lines = keeps_all {done = []} {w = first_world lent} (record { stage = refl; none = λ _. refl }) lines

-- the orders of lines one behind the other
pub asked_both : (a b : List Typed) → asked_by (a ++ b) ≡ asked_by a ++ asked_by b
unfolding asked_by
asked_both [] b = refl
asked_both (o ∷ a) b = ap (λ (l : List Order). asked o ++ l) (asked_both a b) ∙ sym (append_assoc (asked o) (asked_by a) (asked_by b))

-- without an order any plan will do
any_plan : (P Q : Plan) (lent : List ℕ) (os : List Order) → os ≡ [] → afterwards P lent os ≡ afterwards Q lent os
unfolding rehearsed
any_plan P Q lent os e = rw e

-- at every moment of a session
pub session : (lent : List ℕ) (first rest : List Typed) → stage_of (played lent first) ≡ afterwards (plan_of (first ++ rest)) lent (asked_by first)
session lent first rest = go (look (desk_of first).fixed)
  where
    K : Keeps lent (asked_by first) (played lent first)
    K = keeps_played lent first

    desk : (played lent first).desk ≡ desk_of first
    desk = desk_played lent first

    go : ((desk_of first).fixed ≡ true) ⊎ ((desk_of first).fixed ≡ false)
        → stage_of (played lent first) ≡ afterwards (plan_of (first ++ rest)) lent (asked_by first)
    go (inl e) = K.stage ∙ ap (λ (P : Plan). afterwards P lent (asked_by first)) (ap (λ (d : Desk). d.plan) desk ∙ sym (plan_fixed first rest e))
    go (inr e) = K.stage ∙ any_plan _ (plan_of (first ++ rest)) lent (asked_by first) (K.none (ap (λ (d : Desk). d.fixed) desk ∙ e))
