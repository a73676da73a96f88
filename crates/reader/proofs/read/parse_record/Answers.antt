-- `reader::read::parse_record` meets its contract: what the shape of the bytes says, and that section 1 gives the kind.
use Rattle.records.proofs.laws.Shapes.{shape_says, ballots_inside, stamps_inside, rows_inside}
use Rattle.records.proofs.laws.Sections.{rest_room}
use Rattle.records.proofs.laws.Table.{ballots_most, stamps_most, rows_most}
use Rattle.records.specs.Bytes.{parse, stamps_at, rows_at}
use Rattle.reader.proofs.laws.Head.{head_behind, kind_behind}
use Rattle.laws.proofs.laws.Tray.{rest_of}
use lib.ListN.{length, get_or}
use Prim.Native.Nat.{◌+◌, ◌*◌, ◌≤◌}
use native.Mathlib.Omega.{arith}
use mathlib.Core.Path.{refl}
use borrow.Author.Rules.{rules}
use Rattle.reader.proofs.read.parse_record.Goals as goal

pub slice_bounds-read_head-count : goal.slice_bounds-read_head-count
slice_bounds-read_head-count c =
    let shape = shape_says c.args.plan c.args.s.now c.requires.1 in
    omega (arith, shape.some)

pub slice_bounds-read_head-start : goal.slice_bounds-read_head-start
slice_bounds-read_head-start c =
    let shape = shape_says c.args.plan c.args.s.now c.requires.1 in
    omega (arith, shape.some)

pub read_head-head-requires : goal.read_head-head-requires
read_head-head-requires c =
    let shape = shape_says c.args.plan c.args.s.now c.requires.1 in
    rest_room 1 4 _ c.args.s.now refl (omega (arith, shape.some))

pub slice_bounds-read_section-count : goal.slice_bounds-read_section-count
slice_bounds-read_section-count c =
    let shape = shape_says c.args.plan c.args.s.now c.requires.1 in
    omega (arith, shape.some)

pub slice_bounds-read_section-start : goal.slice_bounds-read_section-start
slice_bounds-read_section-start c =
    let shape = shape_says c.args.plan c.args.s.now c.requires.1 in
    omega (arith, shape.some)

pub read_section-requires : goal.read_section-requires
read_section-requires c =
    let shape = shape_says c.args.plan c.args.s.now c.requires.1 in
    let kind_is = kind_behind c.args.s.now c.read_head-head.ensures in
    let ballots_in_says = c.ballots_in.ensures in
    let ballots_in_result = c.ballots_in.result in
    let a = c.args in
    let asked = c.requires in
    let s = a.s.now in let k = get_or s 1 0 in
    let e = rw kind_is at ballots_in_says in
    let h : 6 + ballots_in_result * 3 ≤ length s = omega (arith, shape.whole, ballots_inside a.plan k, e) in
    (search rules, (rw e (ballots_most a.plan k asked.0), rest_room 6 (ballots_in_result * 3) _ s refl h))

pub slice_bounds-read_section-count-2 : goal.slice_bounds-read_section-count-2
slice_bounds-read_section-count-2 c =
    let shape = shape_says c.args.plan c.args.s.now c.requires.1 in
    let kind_is = kind_behind c.args.s.now c.read_head-head.ensures in
    let stamps_at_says = c.stamps_at-p.ensures in
    let a = c.args in
    omega (arith, shape.whole, stamps_inside a.plan (get_or a.s.now 1 0), rw kind_is at stamps_at_says.0)

pub slice_bounds-read_section-start-2 : goal.slice_bounds-read_section-start-2
slice_bounds-read_section-start-2 c = slice_bounds-read_section-count-2 c

pub read_section-requires-2 : goal.read_section-requires-2
read_section-requires-2 c =
    let shape = shape_says c.args.plan c.args.s.now c.requires.1 in
    let kind_is = kind_behind c.args.s.now c.read_head-head.ensures in
    let stamps_in_says = c.stamps_in.ensures in
    let stamps_in_result = c.stamps_in.result in
    let stamps_at_says = c.stamps_at-p.ensures in
    let stamps_at_result = c.stamps_at-p.result in
    let a = c.args in
    let s = a.s.now in let k = get_or s 1 0 in
    let e = rw kind_is at stamps_in_says in let f = rw kind_is at stamps_at_says.0 in
    let h : stamps_at_result + 1 + stamps_in_result * 5 ≤ length s = omega (arith, shape.whole, stamps_inside a.plan k, f, e) in
    (search rules, (rw e (stamps_most k), rest_room (stamps_at_result + 1) (stamps_in_result * 5) _ s refl h))

pub slice_bounds-read_section-count-3 : goal.slice_bounds-read_section-count-3
slice_bounds-read_section-count-3 c =
    let shape = shape_says c.args.plan c.args.s.now c.requires.1 in
    let kind_is = kind_behind c.args.s.now c.read_head-head.ensures in
    let rows_at_says = c.rows_at-q.ensures in
    let a = c.args in
    omega (arith, shape.whole, rows_inside a.plan (get_or a.s.now 1 0), rw kind_is at rows_at_says.0)

pub slice_bounds-read_section-start-3 : goal.slice_bounds-read_section-start-3
slice_bounds-read_section-start-3 c = slice_bounds-read_section-count-3 c

pub read_section-requires-3 : goal.read_section-requires-3
read_section-requires-3 c =
    let shape = shape_says c.args.plan c.args.s.now c.requires.1 in
    let kind_is = kind_behind c.args.s.now c.read_head-head.ensures in
    let rows_in_says = c.rows_in.ensures in
    let rows_in_result = c.rows_in.result in
    let rows_at_says = c.rows_at-q.ensures in
    let rows_at_result = c.rows_at-q.result in
    let a = c.args in
    let asked = c.requires in
    let s = a.s.now in let k = get_or s 1 0 in
    let e = rw kind_is at rows_in_says in let f = rw kind_is at rows_at_says.0 in
    let h : rows_at_result + 1 + rows_in_result * 11 ≤ length s = omega (arith, shape.whole, rows_inside a.plan k, f, e) in
    (search rules, (rw e (rows_most a.plan k asked.0), rest_room (rows_at_result + 1) (rows_in_result * 11) _ s refl h))

pub returns : goal.returns
unfolding parse
returns c =
    let read_rows_says = c.read_section-3.ensures in
    let rows_in_says = c.rows_in.ensures in
    let read_stamps_says = c.read_section-2.ensures in
    let stamps_in_says = c.stamps_in.ensures in
    let read_ballots_says = c.read_section.ensures in
    let ballots_in_says = c.ballots_in.ensures in
    let rows_at_says = c.rows_at-q.ensures in
    let stamps_at_says = c.stamps_at-p.ensures in
    let read_head_says = c.read_head-head.ensures in
    let a = c.args in
    let s = a.s.now in let k = get_or s 1 0 in
    rw (
      read_rows_says,
      read_stamps_says,
      read_ballots_says,
      rows_in_says,
      stamps_in_says,
      ballots_in_says,
      rows_at_says.0,
      stamps_at_says.0,
      head_behind s read_head_says,
      rest_of 6 s,
      rest_of (stamps_at a.plan k + 1) s,
      rest_of (rows_at a.plan k + 1) s,
    )
