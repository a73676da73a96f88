-- A refused order leaves the night and the post as they were; what an order leaves, from what the rehearsal promised.
use Rattle.std.specs.Prelude.{Err}
use Prim.Native.Nat.{ℕ}
use mathlib.Core.List.{List}
use mathlib.Core.Path.{◌≡◌, sym, ap, ◌∙◌}
use lib.ListN.{take-append-drop}
use Rattle.laws.specs.Tray.{onto}
use Rattle.house.specs.declared.Order.{Order}
use Rattle.records.specs.Bytes.{encode_all}
use Rattle.boxes.specs.Out.{refused}
use Rattle.records.specs.declared.answers.Refusal.{Refusal}
use Rattle.rehearsal.specs.declared.Night.{Night}
use Rattle.rehearsal.specs.declared.nights.Turn.{Turn}
use Rattle.rehearsal.specs.Night.{given}
use Rattle.rehearsal.specs.Promises.{OrderRehearsed}
use Rattle.rehearsal.proofs.laws.Promises.{turn_is}
use Rattle.session.specs.declared.Desk.{Desk}
use Rattle.session.specs.Desk.{fixed_desk}
use Rattle.report.specs.Texts.{turn_text}
use Rattle.session.specs.Heard.{obeyed}

-- an order, from what the rehearsal promised
pub obeyed_is : (d : Desk) {n : Night} {s : List ℕ} {o : Order} {t : Turn} {after : List ℕ} → OrderRehearsed d.plan n s o t after
    → obeyed d n s o ≡ record { desk = fixed_desk d; night = t.night; post = after; text = turn_text t.answer }
unfolding obeyed
obeyed_is d {n} {s} {o} {t} {after} R =
    let e = turn_is R in
    ap (λ (u : Turn). record { desk = fixed_desk d; night = u.night; post = (obeyed d n s o).post; text = turn_text u.answer }) (sym e)
    ∙ ap (λ (p : List ℕ). record { desk = fixed_desk d; night = t.night; post = p; text = turn_text t.answer }) (sym R.post)

-- a refused order fixes the plan and prints `no` and the number of the rehearsal's refusal (1 where the plan is unsound), and does nothing else
pub refused_leaves : (d : Desk) (n : Night) (s : List ℕ) (o : Order) (why : Refusal) → given d.plan n s o ≡ refused why
    → obeyed d n s o ≡ record { desk = fixed_desk d; night = n; post = s; text = turn_text (Err why) }
unfolding obeyed encode_all onto
refused_leaves d n s o why e =
    rw e (ap (λ (post : List ℕ). record { desk = fixed_desk d; night = n; post = post; text = turn_text (Err why) }) (take-append-drop n.used s))
