-- The loop of `rehearse::all_turns`: so many turns have gone by, and each said that there is another.
use Rattle.std.proofs.Common.{◌≡◌, length, Ok}
use Rattle.rehearse.specs.declared.Flow.TheVariants.{More}
use Rattle.rehearse.specs.Turns.{Turned}
use Rattle.rehearse.proofs.all_turns.Given as goal

abbrev pub invariant-loop : goal.invariant-loop
invariant-loop l = (T : Turned l.initial.session l.initial.post l.session (Ok More) l.post) × (length T.turns ≡ l.counter)
