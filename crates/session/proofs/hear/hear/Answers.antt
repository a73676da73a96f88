-- `session::hear::hear` meets its contract.
use Rattle.session.specs.Heard.{unread, plan_line, handled}
use Rattle.session.proofs.laws.Hears.{hears_as, hears_plain, hears_order, districts_late, job_late}
use Rattle.session.specs.Desk.{districts_here, job_here, with_districts, with_job}
use Rattle.laws.specs.Choice.{pick}
use mathlib.Core.Path.{refl}
use Rattle.session.proofs.hear.hear.Goals as goal

pub returns-in-Districts : goal.returns-in-Districts
unfolding handled
returns-in-Districts c =
    let with_districts_says = c.with_districts.ensures in
    let districts_here_says = c.districts_here.ensures in
    let a = c.args in
    let q = c.hear_plan in
    hears_as c.in-Districts.is
    (hears_plain
    (pick (districts_here a.desk) (with_districts a.desk _) a.desk)
    (plan_line (districts_here a.desk))
    (λ n. refl)
    (districts_late a.desk _)
    (rw (← districts_here_says, ← with_districts_says) q.ensures))

pub returns-in-Job : goal.returns-in-Job
unfolding handled
returns-in-Job c =
    let with_job_says = c.with_job.ensures in
    let job_here_says = c.job_here.ensures in
    let a = c.args in
    let q = c.hear_plan-in-Job in
    hears_as c.in-Job.is
    (hears_plain (pick (job_here a.desk) (with_job a.desk _) a.desk) (plan_line (job_here a.desk)) (λ n. refl) (job_late a.desk _)
    (rw (← job_here_says, ← with_job_says) q.ensures))

pub hear_order-requires : goal.hear_order-requires
hear_order-requires c =
    let asked = c.requires in
    (asked.0, asked.1, asked.2, rw c.in-Given.is at asked.3)

pub returns-in-Given : goal.returns-in-Given
returns-in-Given c =
    hears_as c.in-Given.is (hears_order c.hear_order.ensures)

pub returns-in-Unreadable : goal.returns-in-Unreadable
unfolding handled
returns-in-Unreadable c =
    let hear_unread_says = c.hear_unread.ensures in
    let a = c.args in
    hears_as c.in-Unreadable.is (hears_plain a.desk unread (λ n. refl) (λ q. refl) hear_unread_says)
