-- `closing::endings::with_box` meets its contract.
use Rattle.closing.proofs.laws.Ends.{Heard, heard_all}
use Rattle.house.specs.Limits.{most_jobs}
use Rattle.std.proofs.Common.{rules, ℕ, ◌≡◌, subst}
use Rattle.closing.proofs.endings.with_box.Goals as goal

pub returns : goal.returns
returns c =
    let a = c.args in
    let l = c.loop-j in
    let e : l.j ≡ most_jobs = search rules in
    heard_all a.p a.x a.ends.now l.ends (subst (λ (i : ℕ). Heard a.p a.x a.ends.now i l.ends) e l.invariant)
