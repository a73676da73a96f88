-- `rehearsal::judging::judge_carry` meets its contract.
use Rattle.std.proofs.Common.{rules, subst, ◌≡◌, ◌≤◌, ℕ, List, length, false}
use Rattle.house.specs.declared.Order.TheVariants.{Carry}
use Rattle.records.specs.declared.answers.Refusal.TheVariants.{NotSound}
use Rattle.boxes.specs.Sound.{sound}
use Rattle.steps.specs.Judging.{Judging}
use Rattle.rehearsal.proofs.laws.Steps.{judges_no, acts_no, carry_unsound, carry_judges, carry_bytes, part_up}
use Rattle.rehearsal.proofs.judging.judge_carry.Goals as goal

pub returns-then-not-known : goal.returns-then-not-known
returns-then-not-known c used k es h =
    let P = c.args.plan in let x = c.args.x in let s = c.args.post.now in
    let off : sound P x ≡ false = search rules in
    judges_no _ (acts_no P used x s (Carry k) NotSound c.requires.0 h (carry_unsound P used x s off k))

pub slice_bounds-judge_bytes-count : goal.slice_bounds-judge_bytes-count
slice_bounds-judge_bytes-count c =
    let a = c.args in
    let f = c.within-from in let e = c.within-end in let n = c.length_of-len in
    part_up a.start n.result (length a.post.now) f.result e.result f.ensures.1 f.ensures.2 e.ensures.0

pub slice_bounds-judge_bytes-start : goal.slice_bounds-judge_bytes-start
slice_bounds-judge_bytes-start c =
    let a = c.args in
    let f = c.within-from in let e = c.within-end in let n = c.length_of-len in
    let up : f.result ≤ e.result = part_up a.start n.result (length a.post.now) f.result e.result f.ensures.1 f.ensures.2 e.ensures.0 in
    up

pub returns : goal.returns
returns c used k es h =
    let e = c.within-end in let f = c.within-from in let n = c.length_of-len in let kind = c.byte_at-kind in
    let w =
    carry_bytes c.args.plan used c.args.post.now k c.args.start f.result e.result kind.result n.result es
    kind.ensures n.ensures.0 f.ensures.0 e.ensures.0 in
    carry_judges c.args.plan used c.args.x c.args.post.now k _ c.requires.0 h (search rules)
    (subst (λ (l : List ℕ). Judging c.args.plan c.args.x l c.judge_bytes.result) w c.judge_bytes.ensures)
