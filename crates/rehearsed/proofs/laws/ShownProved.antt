-- The program shows a rehearsal, and of a sound plan demand 3 and the regulator's sentence hold of it.
use Prim.Native.Nat.{ℕ, ◌<◌}
use mathlib.Core.Bool.{true}
use mathlib.Core.List.{List, [], ◌∷◌, ◌++◌, append-nil}
use mathlib.Core.Path.{◌≡◌, refl, sym, ap, subst, subst₂, ◌∙◌}
use Rattle.house.specs.Plan.{boxes_of, plan_sound}
use Rattle.house.specs.declared.Order.{Order}
use Rattle.rehearsal.specs.Night.{box_in}
use Rattle.lines.specs.declared.Typed.{Typed}
use Rattle.lines.specs.declared.Typed.TheVariants.{Given}
use Rattle.session.specs.declared.Desk.{Desk}
use Rattle.session.specs.Heard.{handled, obeyed}
use Rattle.session.specs.World.{World, act}
use Rattle.session.proofs.laws.Whole.{whole}
use Rattle.rehearsed.specs.Runs.{Stage}
use Rattle.in_order.specs.Words.{SameOrder}
use Rattle.rehearsed.specs.Words.{afterwards}
use Rattle.rehearsed.proofs.laws.Proved as Rehearsals
use Rattle.rehearsed.specs.ShownWords.{plan_of, asked_by, played, stage_of, answer_shown, jobs_shown, InOneOrder}
use Rattle.rehearsed.specs.Shown.{lines_in, plan_in, IsRehearsal, Shown}
use Rattle.rehearsed.proofs.laws.Plans.{desk_played, plan_before}
use Rattle.rehearsed.proofs.laws.Sessions.{asked_both, session}
use Rattle.rehearsed.proofs.laws.Lists.{same_shown}

-- an order prints its answer under the plan of that moment
text_act : (w : World) (o : Order) → (act w (Given o)).text ≡ w.text ++ answer_shown w.desk.plan (stage_of w) o
unfolding act handled obeyed answer_shown
text_act w o = refl

module _ (lent : List ℕ) (chunks : List (List ℕ)) where
  moments : (first rest : List Typed) → lines_in chunks ≡ first ++ rest → stage_of (played lent first) ≡ afterwards (plan_in chunks) lent (asked_by first)
  moments first rest e =
      subst (λ (l : List Typed). stage_of (played lent first) ≡ afterwards (plan_of l) lent (asked_by first)) (sym e) (session lent first rest)

  -- whatever is typed
  pub is_rehearsal : IsRehearsal lent chunks
  is_rehearsal =
      record {
        plan = ap (λ (w : World). w.desk.plan) (whole lent chunks) ∙ ap (λ (d : Desk). d.plan) (desk_played lent (lines_in chunks));
        end = ap stage_of (whole lent chunks) ∙ moments (lines_in chunks) [] (sym (append-nil (lines_in chunks)));
        moment = moments;
        answer = answers;
      }
    where
      answers : (first rest : List Typed) (o : Order) → lines_in chunks ≡ first ++ (Given o ∷ rest)
          → (act (played lent first) (Given o)).text
          ≡ (played lent first).text ++ answer_shown (plan_in chunks) (afterwards (plan_in chunks) lent (asked_by first)) o
      answers first rest o e =
          let P = ap (λ (d : Desk). d.plan) (desk_played lent first) ∙ sym (ap plan_of e ∙ plan_before first o rest) in
          let Q = moments first (Given o ∷ rest) e in
          text_act (played lent first) o ∙ (λ i. (played lent first).text ++ answer_shown (P i) (Q i) o)

  -- whatever is typed, if its plan is sound
  pub shown : plan_sound (plan_in chunks) ≡ true → Shown lent chunks
  shown sound =
      record {
        demand3 = Rehearsals.demand3 (plan_in chunks) sound lent;
        one_order = Rehearsals.one_order (plan_in chunks) sound lent;
        lists = pairs;
        report = λ p q lp lq.
            let all = sym (append-nil (lines_in chunks)) in
            rw (whole lent chunks) (pairs (lines_in chunks) [] (lines_in chunks) [] p q all all lp lq);
      }
    where
      pairs : (first rest second more : List Typed) (p q : ℕ) → lines_in chunks ≡ first ++ rest → lines_in chunks ≡ second ++ more
          → p < boxes_of (plan_in chunks) → q < boxes_of (plan_in chunks)
          → InOneOrder (jobs_shown (played lent first).night p) (jobs_shown (played lent second).night q)
      pairs first rest second more p q e f lp lq =
          same_shown (played lent first).night (played lent second).night p q
          (subst₂ (λ (r s : Stage). SameOrder (box_in r.night p) (box_in s.night q)) (sym (moments first rest e)) (sym (moments second more f))
          (Rehearsals.one_order (plan_in chunks) sound lent (asked_by first) (asked_by rest) (asked_by second) (asked_by more) p q
          (sym (asked_both first rest) ∙ ap asked_by (sym e ∙ f) ∙ asked_both second more) lp lq))
