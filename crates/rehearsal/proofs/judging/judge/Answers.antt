-- `rehearsal::judging::judge` meets its contract.
use Rattle.std.proofs.Common.{rules, sym, arith, ◌≡◌, ◌∙◌, true, false}
use Rattle.house.specs.Plan.{plan_sound}
use Rattle.boxes.proofs.laws.Sound.{sound_plan}
use Rattle.rehearsal.specs.Alone.{here}
use Rattle.rehearsal.specs.Night.{exists}
use Rattle.rehearsal.proofs.laws.Steps.{judges_no, judges_go, judges_as, plan_off, none_such, goes_post, retry_low}
use Rattle.rehearsal.proofs.judging.judge.Goals as goal

pub known_plan-requires : goal.known_plan-requires
known_plan-requires c = λ h. sound_plan c.args.plan c.args.x (sym c.requires.0 ∙ h)

pub returns-then-not-known_plan : goal.returns-then-not-known_plan
returns-then-not-known_plan c =
    let a = c.args in
    let off : plan_sound a.plan ≡ false = search rules in
    judges_no _ (plan_off a.plan a.used a.x a.post.now a.order off)

pub is_there-requires : goal.is_there-requires
is_there-requires c = (c.requires.1, c.requires.2)

pub returns-then-not-is_there : goal.returns-then-not-is_there
returns-then-not-is_there c =
    let a = c.args in
    let plan : plan_sound a.plan ≡ true = search rules in
    let off : exists a.plan (here a.used) a.post.now a.order ≡ false = search rules in
    judges_no _ (none_such a.plan a.used a.x a.post.now a.order plan off)

pub judge_stand-requires : goal.judge_stand-requires
judge_stand-requires c =
    let plan : plan_sound c.args.plan ≡ true = search rules in
    (plan, c.requires.0)

pub overflow_cast-j : goal.overflow_cast-j
overflow_cast-j c =
    let a = c.args in
    let plan : plan_sound a.plan ≡ true = search rules in
    let there : exists a.plan (here a.used) a.post.now a.order ≡ true = search rules in
    let l = retry_low a.plan a.used a.post.now _ _ plan (rw c.in-Retry.is at there) in
    omega (arith, l)

pub judge_retry-requires : goal.judge_retry-requires
judge_retry-requires c =
    let plan : plan_sound c.args.plan ≡ true = search rules in
    (plan, c.requires.0)

pub judge_carry-requires : goal.judge_carry-requires
judge_carry-requires c =
    let plan : plan_sound c.args.plan ≡ true = search rules in
    (plan, c.requires.0, c.requires.1)

pub returns-in-Post : goal.returns-in-Post
returns-in-Post c =
    let a = c.args in
    let plan : plan_sound a.plan ≡ true = search rules in
    let there : exists a.plan (here a.used) a.post.now a.order ≡ true = search rules in
    judges_as c.in-Post.is (rw c.no_record.ensures (judges_go (goes_post a.plan a.used a.x a.post.now _ _ plan (rw c.in-Post.is at there))))

pub returns-in-Stand : goal.returns-in-Stand
returns-in-Stand c =
    let a = c.args in
    let there : exists a.plan (here a.used) a.post.now a.order ≡ true = search rules in
    judges_as c.in-Stand.is (c.judge_stand.ensures a.used _ a.post.now (rw c.in-Stand.is at there))

pub returns-in-Retry : goal.returns-in-Retry
returns-in-Retry c =
    let a = c.args in
    let there : exists a.plan (here a.used) a.post.now a.order ≡ true = search rules in
    judges_as c.in-Retry.is (c.judge_retry.ensures a.used _ a.post.now (rw c.in-Retry.is at there))

pub returns-in-Cut : goal.returns-in-Cut
returns-in-Cut c =
    let a = c.args in
    let plan : plan_sound a.plan ≡ true = search rules in
    let there : exists a.plan (here a.used) a.post.now a.order ≡ true = search rules in
    judges_as c.in-Cut.is (c.judge_cut.ensures a.plan a.used _ a.x a.post.now plan c.requires.0 (search rules) (rw c.in-Cut.is at there))

pub returns-in-Carry : goal.returns-in-Carry
returns-in-Carry c =
    let a = c.args in
    let there : exists a.plan (here a.used) a.post.now a.order ≡ true = search rules in
    judges_as c.in-Carry.is (c.judge_carry.ensures a.used _ (c.requires.2 _ c.in-Carry.is) (rw c.in-Carry.is at there))
