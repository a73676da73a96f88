-- The program's promises together: a fresh session, all turns, and the last words behind them print what is printed for the bytes that were read.
use Prim.Native.Nat.{ℕ}
use mathlib.Core.List.{List, ◌++◌, map}
use mathlib.Core.Path.{◌≡◌, refl, ap, ◌∙◌}
use lib.ListN.{take}
use Rattle.lines.specs.Feed.{joined}
use Rattle.session.specs.declared.Session.{Session}
use Rattle.session.specs.Session.{fresh_session}
use Rattle.session.specs.Promises.{Begun}
use Rattle.session.proofs.laws.Promises.{only_begun}
use Rattle.rehearse.specs.Printed.{printed_on, last_words, LastSaid}
use Rattle.rehearse.specs.Turns.{Next, given, read_in, Ran, behind_turns, wrote}
use Rattle.rehearse.proofs.laws.Turns.{run_prints}
use Rattle.rehearse.proofs.laws.Laws.{text_front}

begun_fresh : Begun fresh_session
unfolding fresh_session
begun_fresh = record { line = refl; desk = refl; night = refl }

-- the texts of all turns, and behind them the n bytes of the last words
pub program_prints : {s r : Session} {lent later last before after : List ℕ} {next : Next} {n : ℕ} → Begun s → (run : Ran s lent r next later)
    → LastSaid r later before n last after
    → (read_in s lent run.some.turns).state.text ++ take n after ≡ printed_on lent (joined (map given run.some.turns))
unfolding wrote behind_turns
program_prints {s = s} {r = r} {lent = lent} {later = later} {before = before} {after = after} {n = n} b run l =
    let e = only_begun b begun_fresh in
    let ts = run.some.turns in
    ap (λ (x : List ℕ). (read_in s lent ts).state.text ++ x) (text_front (last_words r later) before after n l.used l.text)
    ∙ rw (run.some.session, run.some.post, e) (run_prints lent ts)
