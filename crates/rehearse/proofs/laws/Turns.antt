-- Laws of what specs/Turns.antt defines.
use Rattle.std.specs.Prelude.{Option, Ok}
use Prim.Native.Nat.{ℕ}
use mathlib.Core.Bool.{Bool}
use mathlib.Core.List.{List, ◌++◌, map, append_assoc}
use mathlib.Core.Path.{◌≡◌, sym, ap, ◌∙◌}
use Rattle.lines.proofs.laws.Feed.{orders_chunks}
use Rattle.lines.specs.Feed.{Reading, input_end, joined}
use Rattle.session.specs.World.{World, act}
use Rattle.session.specs.Session.{session_of, last_of, fresh_session}
use Rattle.session.proofs.laws.SessionLaws.{last_says}
use Rattle.session.specs.Whole.{first_world}
use Rattle.closing.specs.Closing.{night_report}
use Rattle.rehearse.specs.declared.Flow.TheVariants.{End}
use Rattle.rehearse.specs.Printed.{all_said, printed_on, last_words}
use Rattle.rehearse.specs.Turns.{Turn, Next, given, Decided, Told, read_in, behind_turns, wrote}

pub only_decided : (read : Option ℕ) (written : Bool) {r q : Next} → Decided read written r → Decided read written q → r ≡ q
only_decided read written a b = a ∙ sym b

pub only_told : (next : Next) {r q : Bool} → Told next r → Told next q → r ≡ q
only_told next a b = a ∙ sym b

said_end : (r : Reading World) → r.state.text ++ last_words (session_of r) r.state.post ≡ all_said (input_end act r)
unfolding last_words
said_end r =
    let w = (last_of (session_of r) r.state.post).state in
    sym (ap all_said (last_says r) ∙ append_assoc r.state.text w.text (night_report w.desk.plan w.night))

-- a run that ends by the end of its input writes what is printed for the bytes that its reads gave
pub run_prints : (post : List ℕ) (turns : List Turn) → wrote post turns (Ok End) ≡ printed_on post (joined (map given turns))
unfolding wrote behind_turns printed_on fresh_session
run_prints post turns =
    said_end (read_in fresh_session post turns) ∙ ap all_said (orders_chunks act (first_world post) (map given turns))
