-- `sending::ready::next_ready` meets its contract.
use Rattle.std.proofs.Common.{rules, ◌≡◌, true, false, eqb, get_or, take}
use Rattle.std.proofs.lemmas.List.{get_or-take}
use mathlib.Core.Bool.{and-false}
use borrow.Author.Tests.{eq-eqb, ne_eqb}
use Rattle.house.specs.Pairs.{no_row}
use Rattle.sending.proofs.laws.Next.{best_none, best_taken, best_left}
use Rattle.sending.proofs.ready.next_ready.Goals as goal
use Rattle.sending.proofs.ready.next_ready.Goals.{
  then-row-eq-COMMITTED+then-not-sent-j+then-goes_before+then-open_above,
  else-row-eq-COMMITTED,
  else-row-eq-COMMITTED-via-then-row-eq-COMMITTED+then-not-sent-j+then-goes_before+else-open_above,
  else-row-eq-COMMITTED-via-then-row-eq-COMMITTED+then-not-sent-j+else-goes_before,
  else-row-eq-COMMITTED-via-then-row-eq-COMMITTED+else-not-sent-j,
  else-row-eq-COMMITTED-via-else-row-eq-COMMITTED,
}

pub loop-j-init : goal.loop-j-init
loop-j-init c = best_none c.args.table c.args.sent c.args.n

pub loop-j-preserved : goal.loop-j-preserved
loop-j-preserved c =
    let a = c.args in let l = c.loop-j in
    let r = get_or (take a.n a.table) l.j no_row in
    let e : r ≡ get_or a.table l.j no_row = get_or-take a.n a.table l.j no_row (search rules) in
    let taken = best_taken a.table a.sent a.n l.invariant (search rules) in
    let left = best_left a.table a.sent a.n l.invariant (search rules) in
    elim c.if-row-eq-COMMITTED.branch [
      | then-row-eq-COMMITTED+then-not-sent-j+then-goes_before+then-open_above w ↦
          let phase : eqb r.phase 3 ≡ true = eq-eqb r.phase 3 w.if-row-eq-COMMITTED.true in
          rw w.best-is (taken (λ P x en et.
          rw (← e, phase, w.if-not-sent-j.true, ← w.goes_before.ensures, w.if-goes_before.true, ← w.open_above.ensures P x en et, w.if-open_above.true)))
      | else-row-eq-COMMITTED w ↦
          rw w.best-is (left (elim w.else-row-eq-COMMITTED.branch [
            | else-row-eq-COMMITTED-via-then-row-eq-COMMITTED+then-not-sent-j+then-goes_before+else-open_above v ↦
                λ P x en et. rw (← e, ← v.open_above.ensures P x en et, v.if-open_above.false) (and-false _)
            | else-row-eq-COMMITTED-via-then-row-eq-COMMITTED+then-not-sent-j+else-goes_before v ↦
                λ P x en et. rw (← e, ← v.goes_before.ensures, v.if-goes_before.false, and-false)
            | else-row-eq-COMMITTED-via-then-row-eq-COMMITTED+else-not-sent-j v ↦ λ P x en et. rw (v.if-not-sent-j.false, and-false)
            | else-row-eq-COMMITTED-via-else-row-eq-COMMITTED v ↦
                let phase : eqb r.phase 3 ≡ false = ne_eqb r.phase 3 v.if-row-eq-COMMITTED.false in λ P x en et. rw (← e, phase)
          ]))
    ]
