-- The first order fixes the plan: what is typed behind it changes nothing of it, so every order is answered under the plan of the whole session.
use Prim.Native.Nat.{ℕ}
use mathlib.Core.Bool.{Bool, true, false, ◌&&◌}
use mathlib.Core.List.{List, [], ◌∷◌, ◌++◌, foldl, foldl-append}
use mathlib.Core.Path.{◌≡◌, refl, ap, ◌∙◌}
use Rattle.laws.proofs.laws.Choice.{pick_false, or_right, not_of}
use Rattle.house.specs.declared.Order.{Order}
use Rattle.lines.specs.declared.Typed.{Typed}
use Rattle.lines.specs.declared.Typed.TheVariants.{Districts, Job, Given, Unreadable}
use Rattle.session.specs.Desk.{empty_desk, districts_here, job_here}
use Rattle.session.specs.declared.Desk.{Desk}
use Rattle.session.specs.Heard.{handled, obeyed}
use Rattle.session.specs.World.{World, act}
use Rattle.rehearsed.specs.ShownWords.{desk_after, desk_of, plan_of, played}

-- ---- the desk goes by the lines alone

desk_act : (w : World) (o : Typed) → (act w o).desk ≡ desk_after w.desk o
unfolding act handled obeyed desk_after
desk_act w (Districts g) = refl
desk_act w (Job m) = refl
desk_act w (Given o) = refl
desk_act w Unreadable = refl

desk_all : (w : World) (lines : List Typed) → (foldl act w lines).desk ≡ foldl desk_after w.desk lines
desk_all w [] = refl
desk_all w (o ∷ lines) = desk_all (act w o) lines ∙ ap (λ (d : Desk). foldl desk_after d lines) (desk_act w o)

pub desk_played : (lent : List ℕ) (lines : List Typed) → (played lent lines).desk ≡ desk_of lines
desk_played lent lines = desk_all _ lines

-- ---- a fixed plan stays

-- no plan line is in place any more
districts_off : (d : Desk) → d.fixed ≡ true → districts_here d ≡ false
unfolding districts_here
districts_off d e = not_of (or_right d.drawn d.fixed e)

job_off : (d : Desk) → d.fixed ≡ true → job_here d ≡ false
unfolding job_here
job_off d e = rw e (off d.drawn)
  where
    off : (a : Bool) → a && false ≡ false
    off true = refl
    off false = refl

-- a fixed desk, after any line
pub record Stays (d e : Desk) : Type 0 where
  pub plan : e.plan ≡ d.plan
  pub fixed : e.fixed ≡ true

stays_line : (d : Desk) → d.fixed ≡ true → (o : Typed) → Stays d (desk_after d o)
unfolding desk_after
stays_line d e (Districts g) = rw (pick_false _ d (districts_off d e)) (record { plan = refl; fixed = e })
stays_line d e (Job m) = rw (pick_false _ d (job_off d e)) (record { plan = refl; fixed = e })
stays_line d e (Given o) = record { plan = refl; fixed = refl }
stays_line d e Unreadable = record { plan = refl; fixed = e }

stays : (d : Desk) → d.fixed ≡ true → (lines : List Typed) → (foldl desk_after d lines).plan ≡ d.plan
stays d e [] = refl
stays d e (o ∷ lines) = let s = stays_line d e o in stays (desk_after d o) s.fixed lines ∙ s.plan

-- once it is fixed, the plan is that of the whole session
pub plan_fixed : (first rest : List Typed) → (desk_of first).fixed ≡ true → plan_of (first ++ rest) ≡ plan_of first
plan_fixed first rest e = ap (λ (d : Desk). d.plan) (foldl-append desk_after empty_desk first rest) ∙ stays (desk_of first) e rest

-- an order fixes it, so the plan before an order is that of the whole session
pub plan_before : (first : List Typed) (o : Order) (rest : List Typed) → plan_of (first ++ (Given o ∷ rest)) ≡ plan_of first
unfolding desk_after
plan_before first o rest =
    ap (λ (d : Desk). d.plan) (foldl-append desk_after empty_desk first (Given o ∷ rest)) ∙ stays (desk_after (desk_of first) (Given o)) refl rest
