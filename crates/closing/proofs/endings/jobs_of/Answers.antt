-- `closing::endings::jobs_of` meets its contract.
use Rattle.closing.proofs.laws.Laws.{jobs_are}
use Rattle.boxes.specs.Box.{no_listed, listed_at}
use Rattle.std.proofs.Common.{rules, ℕ, ◌<◌, ◌≡◌, ◌∙◌, sym, arith, get_or}
use lib.Seq.{take_all}
use Rattle.closing.proofs.endings.jobs_of.Goals as goal

pub returns : goal.returns
unfolding listed_at
returns c =
    let m = c.map.ensures.items in
    let jobs : (i : ℕ) → i < 64 → get_or c.map.result i 0 ≡ (listed_at c.args.x i).job = λ i h. let k = (m.at i no_listed 0 h).2 in search rules in
    sym (take_all 64 c.map.result (omega (arith, m.long))) ∙ jobs_are c.args.x c.map.result 64 (omega (arith, m.long)) jobs
