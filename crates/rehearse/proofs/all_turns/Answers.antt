-- `rehearse::all_turns` meets its contract.
use Rattle.std.proofs.Common.{rules, arith, refl, ◌≡◌, ◌∙◌, ap, true, false, ◌+◌, inl, inr}
use Rattle.rehearse.specs.Turns.{goes_on}
use Rattle.rehearse.proofs.laws.Laws.{none_yet, turn_more, turn_on, says_more}
use Rattle.rehearse.proofs.all_turns.Goals as goal

pub loop-init : goal.loop-init
loop-init c = (none_yet c.args.session.now c.args.post.now, refl)

pub returns-then-not-goes_on : goal.returns-then-not-goes_on
returns-then-not-goes_on c =
    let stops : goes_on c.one_turn-next.result ≡ false = search rules in
    record { some = turn_more c.loop.invariant.0 c.one_turn-next.ensures; stopped = inl stops }

pub loop-preserved : goal.loop-preserved
loop-preserved c =
    let goes : goes_on c.one_turn-next.result ≡ true = search rules in
    let more = turn_on c.loop.invariant.0 c.one_turn-next.ensures (says_more c.one_turn-next.result goes) in
    (more.0, more.1 ∙ ap (λ n. n + 1) c.loop.invariant.1)

pub returns : goal.returns
returns c = record { some = c.loop.invariant.0; stopped = inr (omega (arith, c.loop.invariant.1, c.loop-test.false, c.loop.auto.counter-end)) }
