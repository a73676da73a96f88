-- `lines::words::value` meets its contract.
use Rattle.lines.specs.Numeral.{value_of}
use Rattle.std.proofs.Common.{◌≡◌, ◌^◌, ◌<◌, take}
use Rattle.lines.proofs.words.value.Given as goal

abbrev pub invariant-loop-b : goal.invariant-loop-b
invariant-loop-b l = (l.n ≡ value_of (take l.b-index l.digits)) × (l.n < 10 ^ l.b-index)
