-- `session::feed::feed_into` meets its contract.
use Rattle.std.proofs.Common.{rules, arith, refl, sym, ◌<◌}
use Rattle.house.specs.Limits.{most_boxes}
use Rattle.session.proofs.laws.Lines.{none_known}
use Rattle.session.proofs.laws.Reading.{ends, at_low, can_turn, steps}
use Rattle.laws.proofs.laws.Choice.{never}
use Rattle.laws.proofs.laws.Tray.{onto_nil}
use Rattle.session.proofs.feed.feed_into.Goals as goal

pub loop-from-init : goal.loop-from-init
loop-from-init c =
    let a = c.args in
    let at_first = c.new-index.ensures.0 (omega arith) in
    record {
      low = omega arith;
      room = c.requires;
      most = omega arith;
      t_long = refl;
      post_long = refl;
      boxes_long = search rules;
      known_long = refl;
      holds = record { line_is = refl; desk_is = refl; night_is = refl; post_is = refl };
      said = refl;
      printed = sym (onto_nil a.t.now);
      sure =
          record {
            indexed = at_first a.s.desk.plan a.post.now a.s.night.used;
            loose = λ h. at_first;
            box = λ i h. never h (none_known most_boxes i);
          };
    }

pub bounds-known-at : goal.bounds-known-at
bounds-known-at c = at_low c.loop-from.invariant c.ask-a.ensures c.in-Some.is

pub offset_bounds-boxes-at : goal.offset_bounds-boxes-at
offset_bounds-boxes-at c = let g : c.in-Some.l.place.at < most_boxes = at_low c.loop-from.invariant c.ask-a.ensures c.in-Some.is in omega arith

pub bounds-boxes-at : goal.bounds-boxes-at
bounds-boxes-at c = at_low c.loop-from.invariant c.ask-a.ensures c.in-Some.is

pub turn-r-requires : goal.turn-r-requires
turn-r-requires c = can_turn c.loop-from.invariant c.ask-a.ensures c.in-Some.is _

pub bounds-known-at-in-Some : goal.bounds-known-at-in-Some
bounds-known-at-in-Some c = at_low c.loop-from.invariant c.ask-a.ensures c.in-Some.is

pub loop-from-preserved-in-Some : goal.loop-from-preserved-in-Some
loop-from-preserved-in-Some c =
    steps c.loop-from.invariant c.ask-a.ensures c.in-Some.is _ c.turn-r.ensures c.turn-r.auto.post (search rules)

pub returns : goal.returns
returns c = ends c.loop-from.invariant c.loop-from-test.false
