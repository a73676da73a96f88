-- `lines::words::value` meets its contract.
use Rattle.lines.proofs.laws.NumeralLaws.{number_digit, nine_digits}
use Rattle.lines.specs.Numeral.{value_of}
use Rattle.laws.proofs.laws.Fold.{over_step}
use Rattle.std.proofs.Common.{rules, arith, refl, lit<, ◌≡◌, ◌+◌, ◌-◌, ◌*◌, ◌^◌, ℕ, add-one, pow-suc}
use Rattle.lines.proofs.words.value.Goals as goal

pub loop-b-init : goal.loop-b-init
unfolding value_of
loop-b-init c = (refl, lit< tt)

pub overflow_mul-n : goal.overflow_mul-n
overflow_mul-n c = let p = nine_digits c.args.digits.now c.loop-b.b-index c.requires c.loop-b-test.true in search rules

pub overflow_sub-n : goal.overflow_sub-n
overflow_sub-n c = let d = number_digit c.args.digits.now c.loop-b.b-index c.requires c.loop-b-test.true in search rules

pub overflow_add-n : goal.overflow_add-n
overflow_add-n c =
    let p = nine_digits c.args.digits.now c.loop-b.b-index c.requires c.loop-b-test.true in
    let d = number_digit c.args.digits.now c.loop-b.b-index c.requires c.loop-b-test.true in
    search rules

pub loop-b-preserved : goal.loop-b-preserved
unfolding value_of
loop-b-preserved c =
    let l = c.loop-b in
    let d = number_digit c.args.digits.now l.b-index c.requires c.loop-b-test.true in
    let p : 10 ^ (l.b-index + 1) ≡ 10 ^ l.b-index * 10 = rw add-one (pow-suc 10 l.b-index) in
    (rw l.invariant.0 (over_step (λ (v b : ℕ). v * 10 + (b - 48)) 0 c.args.digits.now l.b-index c.loop-b-test.true), omega (arith, p, d))
