-- `soundness::core_part::list_sound` meets its contract.
use Rattle.std.proofs.Common.{rules, ◌≡◌, ◌∙◌, ◌+◌, ◌-◌, true, false, get_or, refl, sym, arith}
use mathlib.Core.Bool.{and-true, and-false}
use Rattle.laws.specs.Fold.{all_below}
use Rattle.laws.proofs.laws.Choice.{and_both, not_so}
use Rattle.laws.proofs.laws.Fold.{all_step, all_says}
use Rattle.boxes.specs.Box.{no_listed}
use Rattle.soundness.proofs.laws.Lists.{repeats, nth_sound, places_sound, list_is, Seen, seen_none, seen_step}
use Rattle.soundness.proofs.core_part.list_sound.Goals as goal

pub loop-i-init : goal.loop-i-init
unfolding places_sound all_below
loop-i-init c = (search rules, seen_none 256 c.args.x.now.core.list, refl)

pub returns-then-not-place_sound : goal.returns-then-not-place_sound
unfolding places_sound nth_sound Seen
returns-then-not-place_sound c =
    let a = c.args in
    let l = c.loop-i in
    let list = a.x.now.core.list in let job = (get_or list l.i no_listed).job in
    let t = nth_sound a.plan c.home_of-home.result a.x.now.core.count list in
    let seen : get_or l.seen job false ≡ repeats list job l.i = l.invariant.1.1 job (search rules) in
    let fails : t l.i ≡ false = rw (← seen, ← l.invariant.0) (sym c.place_sound.ensures ∙ c.if-not-place_sound.true) in
    let none : all_below t 64 ≡ false = not_so (all_below t 64) (λ h. let e = all_says t 64 h l.i (search rules) in cc) in
    rw (← list_is a.plan a.x.now, ← c.home_of-home.ensures, none) (sym (and-false _))

pub loop-i-preserved : goal.loop-i-preserved
unfolding places_sound nth_sound Seen
loop-i-preserved c =
    let a = c.args in
    let l = c.loop-i in
    let list = a.x.now.core.list in let job = (get_or list l.i no_listed).job in
    let t = nth_sound a.plan c.home_of-home.result a.x.now.core.count list in
    let e : l.i + 1 - 1 ≡ l.i = omega arith in
    let seen : get_or l.seen job false ≡ repeats list job l.i = l.invariant.1.1 job (search rules) in
    let holds : t l.i ≡ true = rw (← seen, ← l.invariant.0) (sym c.place_sound.ensures ∙ c.if-not-place_sound.false) in (
      rw e (search rules),
      seen_step 256 list l.seen l.i l.invariant.1,
      sym (all_step t l.i) ∙ and_both (all_below t l.i) (t l.i) l.invariant.2 holds,
    )

pub returns : goal.returns
unfolding places_sound
returns c =
    let a = c.args in
    let l = c.loop-i in
    let e : l.i ≡ 64 = search rules in
    let all : all_below (nth_sound a.plan c.home_of-home.result a.x.now.core.count a.x.now.core.list) 64 ≡ true = rw e at l.invariant.2 in
    rw (← list_is a.plan a.x.now, ← c.home_of-home.ensures, all) (sym (and-true _))
