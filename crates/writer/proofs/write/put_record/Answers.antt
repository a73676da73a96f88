-- Each section goes behind the one before it; the room for all of them is that of the record.
use Rattle.std.proofs.Common.{rules, arith, length, ◌+◌, ◌-◌, ◌++◌, ◌≡◌, take, List, ℕ}
use borrow.Rule.Slice.PartMut.{put_mid}
use Rattle.laws.proofs.laws.Tray.{then}
use Rattle.records.specs.Bytes.{head_bytes}
use Rattle.records.specs.Fields.{ballots, stamps, rows, section_of}
use Rattle.records.proofs.laws.Sections.{rest_room}
use Rattle.records.proofs.laws.Table.{ballots_most, stamps_most, rows_most}
use Rattle.writer.proofs.laws.Whole.{whole, room}
use Rattle.writer.proofs.write.put_record.Goals as goal

pub shared_ref_as_front-ballots : goal.shared_ref_as_front-ballots
shared_ref_as_front-ballots c = rw c.ballots_in.ensures (ballots_most c.args.plan c.args.r.kind c.requires.0)

pub shared_ref_as_front-stamps : goal.shared_ref_as_front-stamps
shared_ref_as_front-stamps c = rw c.stamps_in.ensures (stamps_most c.args.r.kind)

pub shared_ref_as_front-rows : goal.shared_ref_as_front-rows
shared_ref_as_front-rows c = rw c.rows_in.ensures (rows_most c.args.plan c.args.r.kind c.requires.0)

pub put_head-a-requires : goal.put_head-a-requires
put_head-a-requires c =
    let fits =
    room c.args.plan c.args.r c.requires.0 (search rules) (search rules) (search rules) c.ballots_in.ensures c.stamps_in.ensures c.rows_in.ensures _
    c.requires.1 in
    omega (arith, fits)

pub slice_bounds-put_section-count : goal.slice_bounds-put_section-count
slice_bounds-put_section-count c =
    let fits =
    room c.args.plan c.args.r c.requires.0 (search rules) (search rules) (search rules) c.ballots_in.ensures c.stamps_in.ensures c.rows_in.ensures _
    c.requires.1 in
    search (rules, fits)

pub slice_bounds-put_section-start : goal.slice_bounds-put_section-start
slice_bounds-put_section-start c = slice_bounds-put_section-count c

pub slice_bounds-put_section-count-2 : goal.slice_bounds-put_section-count-2
slice_bounds-put_section-count-2 c =
    let fits =
    room c.args.plan c.args.r c.requires.0 (search rules) (search rules) (search rules) c.ballots_in.ensures c.stamps_in.ensures c.rows_in.ensures _
    c.requires.1 in
    search (rules, fits)

pub slice_bounds-put_section-start-2 : goal.slice_bounds-put_section-start-2
slice_bounds-put_section-start-2 c = slice_bounds-put_section-count-2 c

pub slice_bounds-put_section-count-3 : goal.slice_bounds-put_section-count-3
slice_bounds-put_section-count-3 c =
    let fits =
    room c.args.plan c.args.r c.requires.0 (search rules) (search rules) (search rules) c.ballots_in.ensures c.stamps_in.ensures c.rows_in.ensures _
    c.requires.1 in
    search (rules, fits)

pub slice_bounds-put_section-start-3 : goal.slice_bounds-put_section-start-3
slice_bounds-put_section-start-3 c = slice_bounds-put_section-count-3 c

pub put_section-requires-clause-room : goal.put_section-requires-clause-room
put_section-requires-clause-room c =
    let fits =
    room c.args.plan c.args.r c.requires.0 (search rules) (search rules) (search rules) c.ballots_in.ensures c.stamps_in.ensures c.rows_in.ensures _
    c.requires.1 in
    let p = c.put_head-a in
    rest_room p.result (length (section_of ballots (take c.ballots_in.result c.args.r.ballots))) _ p.new.t p.auto.t (omega (arith, fits, p.ensures.0))

pub put_section-requires-2-clause-room : goal.put_section-requires-2-clause-room
put_section-requires-2-clause-room c =
    let fits =
    room c.args.plan c.args.r c.requires.0 (search rules) (search rules) (search rules) c.ballots_in.ensures c.stamps_in.ensures c.rows_in.ensures _
    c.requires.1 in
    let p = c.put_head-a in
    let q = c.put_section in
    let l : List ℕ = put_mid p.result (length p.new.t - p.result) p.new.t q.new.t in
    let k : length l ≡ length c.args.t.now = search rules in
    rest_room (p.result + q.result) (length (section_of stamps (take c.stamps_in.result c.args.r.stamps))) _ l k
    (omega (arith, fits, p.ensures.0, q.ensures.used))

pub put_section-requires-3-clause-room : goal.put_section-requires-3-clause-room
put_section-requires-3-clause-room c =
    let fits =
    room c.args.plan c.args.r c.requires.0 (search rules) (search rules) (search rules) c.ballots_in.ensures c.stamps_in.ensures c.rows_in.ensures _
    c.requires.1 in
    let p = c.put_head-a in
    let q = c.put_section in
    let s = c.put_section-2 in
    let l : List ℕ = put_mid p.result (length p.new.t - p.result) p.new.t q.new.t in
    let m : List ℕ = put_mid (p.result + q.result) (length l - (p.result + q.result)) l s.new.t in
    let k : length m ≡ length c.args.t.now = search rules in
    rest_room
    (p.result + q.result + s.result)
    (length (section_of rows (take c.rows_in.result c.args.r.table)))
    _
    m
    k
    (omega (arith, fits, p.ensures.0, q.ensures.used, s.ensures.used))

pub overflow_add-b : goal.overflow_add-b
overflow_add-b c =
    let fits =
    room c.args.plan c.args.r c.requires.0 (search rules) (search rules) (search rules) c.ballots_in.ensures c.stamps_in.ensures c.rows_in.ensures _
    c.requires.1 in
    search (rules, fits)

pub overflow_add-c : goal.overflow_add-c
overflow_add-c c =
    let fits =
    room c.args.plan c.args.r c.requires.0 (search rules) (search rules) (search rules) c.ballots_in.ensures c.stamps_in.ensures c.rows_in.ensures _
    c.requires.1 in
    search (rules, fits)

pub overflow_add-result : goal.overflow_add-result
overflow_add-result c =
    let fits =
    room c.args.plan c.args.r c.requires.0 (search rules) (search rules) (search rules) c.ballots_in.ensures c.stamps_in.ensures c.rows_in.ensures _
    c.requires.1 in
    search (rules, fits)

pub returns : goal.returns
unfolding head_bytes
returns c =
    let a = c.args in
    let p = c.put_head-a in
    let q = c.put_section in
    let s = c.put_section-2 in
    let t = c.put_section-3 in
    let H = head_bytes a.r in
    let B = section_of ballots (take c.ballots_in.result a.r.ballots) in
    let S = section_of stamps (take c.stamps_in.result a.r.stamps) in
    let R = section_of rows (take c.rows_in.result a.r.table) in
    let e = whole a.plan a.r c.requires.0 (search rules) (search rules) (search rules) c.ballots_in.ensures c.stamps_in.ensures c.rows_in.ensures in
    let x = then H B a.t.now _ _ p.result q.result p.ensures.0 p.ensures.1 q.ensures.used q.ensures.bytes in
    let y = then (H ++ B) S a.t.now _ _ (p.result + q.result) s.result x.0 x.1 s.ensures.used s.ensures.bytes in
    let z = then ((H ++ B) ++ S) R a.t.now _ _ (p.result + q.result + s.result) t.result y.0 y.1 t.ensures.used t.ensures.bytes in
    (rw (← e) z.0, rw (← e) z.1)
