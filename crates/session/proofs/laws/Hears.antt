-- Laws of what specs/Hears.antt defines.
use Rattle.std.specs.Prelude.{Option, None, Some, is_some, Err}
use Prim.Native.Nat.{ℕ}
use mathlib.Core.Bool.{Bool, true, false, ◌&&◌, ◌||◌}
use mathlib.Core.List.{List}
use mathlib.Core.Path.{◌≡◌, refl, sym, ap, ◌∙◌}
use Rattle.laws.specs.Choice.{pick}
use Rattle.laws.proofs.laws.Choice.{never}
use Rattle.house.specs.declared.Order.{Order}
use Rattle.boxes.specs.declared.BoxState.{BoxState}
use Rattle.rehearsal.proofs.laws.Alone.{alone_is}
use Rattle.rehearsal.specs.declared.Night.{Night}
use Rattle.lines.specs.declared.Typed.{Typed}
use Rattle.lines.specs.declared.Typed.TheVariants.{Given}
use Rattle.session.specs.declared.Desk.{Desk}
use Rattle.session.specs.Desk.{districts_here, job_here, fixed_desk}
use Rattle.report.specs.Texts.{turn_text}
use Rattle.session.specs.Heard.{handled}
use Rattle.session.proofs.laws.HeardLaws.{refused_leaves}
use Rattle.session.specs.declared.hear.Heard.{Heard}
use Rattle.session.specs.Hears.{Plain, Obeys, Hears}

-- ---- laws

-- some, and none
pub some_none : {A B : Type 0} {o : Option A} {a : A} → o ≡ Some a → o ≡ None → B
some_none p q = let z : ◌≡◌ {A = Bool} true false = ap is_some (sym p ∙ q) in never refl z

pub some_is : {A : Type 0} {a b : A} → ◌≡◌ {A = Option A} (Some a) (Some b) → a ≡ b
some_is e = cc

or_true : (b : Bool) → (b || true) ≡ true
or_true true = refl
or_true false = refl

and_false : (b : Bool) → (b && false) ≡ false
and_false true = refl
and_false false = refl

-- a fixed plan is not drawn any more
pub districts_late : (d next : Desk) → d.fixed ≡ true → pick (districts_here d) next d ≡ d
unfolding districts_here pick
districts_late d next f = rw (f, or_true d.drawn)

pub job_late : (d next : Desk) → d.fixed ≡ true → pick (job_here d) next d ≡ d
unfolding job_here pick
job_late d next f = rw (f, and_false d.drawn)

fixed_same : (d : Desk) → d.fixed ≡ true → fixed_desk d ≡ d
fixed_same d f = ap (λ (b : Bool). record { plan = d.plan; drawn = d.drawn; fixed = b }) (sym f)

-- the same text and desk in other words
pub plain_as : {d e : Desk} {x y : List ℕ} {h : Heard} {before after : List ℕ} → d ≡ e → x ≡ y → Plain d x h before after → Plain e y h before after
plain_as p q H = rw (← p, ← q) H

module _ {d : Desk} {used : ℕ} {x : BoxState} {s : List ℕ} {h : Heard} {before after : List ℕ} where
  -- a line that is no order
  pub hears_plain : {t : Typed} (e : Desk) (text : List ℕ) → ((n : Night) → handled d n s t ≡ record { desk = e; night = n; post = s; text = text })
      → (d.fixed ≡ true → e ≡ d)
      → Plain e text h before after → Hears d used x s t h before after
  hears_plain e text f g H =
      record {
        most = H.says.most;
        done = λ q n at S.
            (text, f n ∙ ap (λ (z : Desk). record { desk = z; night = n; post = s; text = text }) (sym H.says.desk_is), H.says.long, H.says.text_is);
        go = λ r q. some_none q H.stays;
        known = λ q. never q H.unknown;
        fixed = λ q. H.says.desk_is ∙ g q;
      }

  -- an order
  pub hears_order : {o : Order} → Obeys d used x s o h before after → Hears d used x s (Given o) h before after
  unfolding handled
  hears_order {o} O =
      record {
        most = O.most;
        done = λ q n at S.
            let r = O.refuse q in
            let g = alone_is d.plan used x s o n at S ∙ r.1 in (
              turn_text (Err r.0),
              refused_leaves d n s o r.0 g
                  ∙ ap (λ (z : Desk). record { desk = z; night = n; post = s; text = turn_text (Err r.0) }) (sym O.fixed),
              r.2.long,
              r.2.text_is,
            );
        go = λ r q. let g = O.go r q in (g.0, g.1, g.2, O.fixed, λ n. refl);
        known = λ q. (ap (λ (z : Desk). z.fixed) O.fixed, rw O.fixed (sym O.known ∙ q));
        fixed = λ q. O.fixed ∙ fixed_same d q;
      }

  pub hears_as : {t u : Typed} → t ≡ u → Hears d used x s u h before after → Hears d used x s t h before after
  hears_as e H = rw e H
