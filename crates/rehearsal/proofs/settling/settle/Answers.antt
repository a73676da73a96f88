-- `rehearsal::settling::settle` meets its contract.
use Rattle.std.proofs.Common.{rules, arith, refl, sym, ◌≡◌, ◌∙◌, ◌+◌, ◌≤◌, length, length-take-le, take, true, false}
use lib.Dec.{leb, eqb}
use borrow.Author.Tests.{leb-true, eq-eqb, ne_eqb}
use Rattle.laws.specs.Choice.{pick}
use Rattle.laws.proofs.laws.Choice.{or_left, or_right}
use Rattle.post.specs.Posting.{room_of}
use Rattle.rehearsal.proofs.laws.Settled.{none_behind, room_few}
use Rattle.rehearsal.proofs.settling.settle.Goals as goal

pub returns-then-more-eq0 : goal.returns-then-more-eq0
unfolding pick
returns-then-more-eq0 c =
    let a = c.args in let z = c.if-more-eq0.true in
    record {
      fits_is = sym (or_left (eqb a.more 0) (leb (a.used + a.more) (room_of a.post.now)) (eq-eqb a.more 0 z));
      used_is = omega (arith, z);
      post_is = none_behind a.post.now a.tray.now a.used a.more z;
    }

pub returns-then-not-more_fits : goal.returns-then-not-more_fits
unfolding pick
returns-then-not-more_fits c =
    let a = c.args in
    let off : c.more_fits.result ≡ false = search rules in
    let m : leb (a.used + a.more) (room_of a.post.now) ≡ false = rw (← c.room_of-room.ensures.0) (sym c.more_fits.ensures ∙ off) in
    record { fits_is = rw (ne_eqb a.more 0 c.if-more-eq0.false, m); used_is = refl; post_is = refl }

pub put_behind-requires : goal.put_behind-requires
put_behind-requires c =
    let a = c.args in let m = c.room_of-room in
    let on : c.more_fits.result ≡ true = search rules in
    let k : a.used + a.more ≤ m.result = leb-true (a.used + a.more) m.result (sym c.more_fits.ensures ∙ on) in
    let n : length (take a.more a.tray.now) ≡ a.more = length-take-le a.more a.tray.now c.requires in
    let g : a.used + length (take a.more a.tray.now) ≤ length a.post.now = rw n (omega (arith, k, m.ensures.1)) in
    g

pub overflow_add-result : goal.overflow_add-result
overflow_add-result c =
    let a = c.args in let m = c.room_of-room in
    let on : c.more_fits.result ≡ true = search rules in
    let k : a.used + a.more ≤ m.result = leb-true (a.used + a.more) m.result (sym c.more_fits.ensures ∙ on) in
    omega (arith, k, m.ensures.0, room_few a.post.now)

pub returns : goal.returns
unfolding pick
returns c =
    let a = c.args in
    let on : c.more_fits.result ≡ true = search rules in
    let m : leb (a.used + a.more) (room_of a.post.now) ≡ true = rw (← c.room_of-room.ensures.0) (sym c.more_fits.ensures ∙ on) in
    record {
      fits_is = sym (or_right (eqb a.more 0) (leb (a.used + a.more) (room_of a.post.now)) m);
      used_is = refl;
      post_is = c.put_behind.ensures;
    }
