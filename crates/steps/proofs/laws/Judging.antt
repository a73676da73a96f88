-- Laws of what specs/Judging.antt defines.
use Rattle.std.specs.Prelude.{Err, Ok}
use Prim.Native.Nat.{ℕ, ◌≤◌}
use mathlib.Core.Bool.{Bool, true, false}
use mathlib.Core.List.{List}
use mathlib.Core.Path.{◌≡◌, sym, ap, subst, ◌∙◌}
use lib.Dec.{eqb}
use borrow.Author.Tests.{le-leb}
use Rattle.house.specs.Limits.{least_tray}
use Rattle.house.specs.Plan.{plan_sound}
use Rattle.house.specs.declared.Plan.{Plan}
use Rattle.records.specs.Answers.{or_no, Answer, done}
use Rattle.records.specs.declared.answers.Refusal.{Refusal}
use Rattle.records.specs.declared.answers.Refusal.TheVariants.{NotSound, SmallTray, Unreadable, BrokenRule, OtherBox}
use Rattle.records.specs.Bytes.{parse, shaped}
use Rattle.records.specs.Outcome.{read_answer}
use Rattle.records.specs.Rec.{meaning}
use Rattle.records.specs.Rules.{valid}
use Rattle.records.specs.declared.Record.{Record}
use Rattle.records.proofs.laws.Answers.{no_done, no_is, ok_is, or_no_done}
use Rattle.records.proofs.laws.Lengths.{Arrays, parse_arrays}
use Rattle.boxes.specs.Box.{own_of}
use Rattle.boxes.specs.Sound.{sound}
use Rattle.boxes.specs.Out.{Out, refused, guard, under}
use Rattle.boxes.specs.Step.{react, takes, receives}
use Rattle.boxes.specs.declared.BoxState.{BoxState}
use Rattle.boxes.specs.Lengths.{Lengths}
use Rattle.boxes.proofs.laws.Sound.{sound_plan}
use Rattle.boxes.proofs.laws.Answers.{under_or}
use Rattle.stays_sound.proofs.laws.Sends.{Every, every_guard}
use Rattle.stays_sound.proofs.laws.Goods.{Keeps}
use Rattle.stays_sound.proofs.laws.Steps.{takes_every}
use Rattle.steps.proofs.laws.Acting.{acting, guard_on}
use Rattle.steps.specs.Acting.{Acting}
use Rattle.steps.specs.Judged.{judged}
use Rattle.steps.proofs.laws.Judged.{judged_no}
use Rattle.steps.specs.Judging.{Judging}

-- a guard that refuses
pub guard_off : {t : Bool} (why : Refusal) (o : Out) → t ≡ false → guard t why o ≡ refused why
unfolding guard
guard_off why o e = rw e

-- whatever comes of bytes, the box stays sound and its records fit
pub receives_every : (P : Plan) (x : BoxState) (room : ℕ) (s : List ℕ) → Lengths x → Every (Keeps P x) (receives P x room s)
unfolding receives
receives_every P x room s L =
    every_guard _ _ _ (λ h. every_guard _ _ _ (λ t. every_guard _ _ _ (λ v. takes_every P x room (parse P s) L (parse_arrays P s (sound_plan P x h)))))

five_no : (t : Bool) (o : Out) (j : Answer) (why : Refusal) → ((m : Refusal) → j ≡ Err m → o ≡ refused m) → or_no t OtherBox j ≡ Err why
    → guard t OtherBox o ≡ refused why
unfolding guard
five_no true o j why f e = f why e
five_no false o j why f e = ap refused (no_is e)

module _ (P : Plan) (x : BoxState) (s : List ℕ) (h : sound P x ≡ true) where
  -- a record that the reader took: 5, or its kind's step
  abbrev taken : Record → Out
  taken r = guard (eqb r.to.0 (own_of x).0) OtherBox (react P x (meaning r))

  receives_on : (room : ℕ) {b : Answer} → least_tray ≤ room → read_answer P s ≡ b → receives P x room s ≡ under b (taken (parse P s))
  unfolding receives takes read_answer
  receives_on room t e =
      let u = le-leb least_tray room t in
      let k : takes P x room (parse P s) ≡ guard (valid P (parse P s)) BrokenRule (taken (parse P s)) = guard_on NotSound _ h ∙ guard_on SmallTray _ u in
      let last : under (or_no (valid P (parse P s)) BrokenRule done) (taken (parse P s)) ≡ guard (valid P (parse P s)) BrokenRule (taken (parse P s)) =
      under_or (valid P (parse P s)) BrokenRule done (taken (parse P s)) in
      let tests = or_no (shaped P s) Unreadable (or_no (valid P (parse P s)) BrokenRule done) in
      let q : or_no (plan_sound P) NotSound tests ≡ tests = rw (sound_plan P x h) in
      guard_on NotSound _ h ∙ guard_on SmallTray _ u ∙ ap (guard (shaped P s) Unreadable) (k ∙ sym last)
      ∙ sym (under_or (shaped P s) Unreadable _ (taken (parse P s))) ∙ ap (λ (a : Answer). under a (taken (parse P s))) (sym q ∙ e)

  -- bytes that the reader refuses
  pub judging_unread : (why : Refusal) → read_answer P s ≡ Err why → Judging P x s (Err why)
  judging_unread why e =
      record { refuse = λ m q room t. receives_on room t e ∙ ap refused (no_is q); go = λ r q. no_done q; taken = λ r q. no_done q }

  -- a record that the reader took, and that the box refuses
  pub judging_refused : (why : Refusal) (r : Record) → read_answer P s ≡ done → r ≡ parse P s
      → or_no (eqb r.to.0 (own_of x).0) OtherBox (judged P x (meaning r)) ≡ Err why → Judging P x s (Err why)
  judging_refused why r d e refusal =
      let five = five_no (eqb r.to.0 (own_of x).0) (react P x (meaning r)) (judged P x (meaning r)) why (judged_no P x (meaning r)) refusal in
      record {
        refuse = λ m q room t. receives_on room t d ∙ ap taken (sym e) ∙ five ∙ ap refused (no_is q);
        go = λ s q. no_done q;
        taken = λ s q. no_done q;
      }

  -- a record that the box will act on
  pub judging_taken : (r : Record) → Lengths x → read_answer P s ≡ done → r ≡ parse P s → valid P r ≡ true
      → or_no (eqb r.to.0 (own_of x).0) OtherBox (judged P x (meaning r)) ≡ done → Judging P x s (Ok r)
  judging_taken r L d e v all =
      let Z : Arrays r = rw e (parse_arrays P s (sound_plan P x h)) in
      let f = or_no_done (eqb r.to.0 (own_of x).0) OtherBox (judged P x (meaning r)) all in
      let act : (room : ℕ) → least_tray ≤ room → (receives P x room s ≡ react P x (meaning r)) × Acting P x r room =
      λ room t. (receives_on room t d ∙ ap taken (sym e) ∙ guard_on OtherBox (react P x (meaning r)) f.0, acting P x room r L Z h t v f.0) in
      record {
        refuse = λ why q. no_done (sym q);
        go = λ q same. subst (λ (v : Record). (room : ℕ) → least_tray ≤ room
            → (receives P x room s ≡ react P x (meaning v)) × Acting P x v room) (ok_is same) act;
        taken = λ q same. subst (λ (v : Record). judged P x (meaning v) ≡ done) (ok_is same) f.1;
      }
