-- `sending::handing::hand_job` meets its contract.
use Prim.Native.Nat.{ℕ}
use mathlib.Core.Bool.{true}
use mathlib.Core.Path.{◌≡◌}
use Rattle.house.specs.Marks.{home_boxes}
use Rattle.house.specs.Plan.{plan_sound}
use Rattle.house.specs.declared.Ballot.{Ballot}
use Rattle.house.specs.declared.BoxNo.{BoxNo}
use Rattle.house.specs.declared.Row.{Row}
use Rattle.house.specs.declared.Plan.{Plan}
use Rattle.records.specs.Rec.{deliver, carried}
use Rattle.boxes.specs.Box.{fresh}
use Rattle.sending.proofs.laws.Kinds.{delivers_sent}
use Rattle.sending.specs.Sends.{Sends}
use Rattle.sending.specs.Turns.{delivers_from}
use Rattle.sending.proofs.handing.hand_job.Goals as goal

-- of a box only its number is asked
sending : (P : Plan) (s : plan_sound P ≡ true) (own : BoxNo) (b : Ballot) (row : Row) (j : ℕ)
    → Sends P (delivers_from P own b row j) (home_boxes P own) (carried (deliver own own j (record { ballot = b; local = row.local; global = row.global })))
unfolding delivers_from fresh
sending P s own b row j = delivers_sent P s own (fresh own) j (record { ballot = b; local = row.local; global = row.global })

pub send-requires : goal.send-requires
send-requires c =
    let meant_says = c.home_boxes.ensures in let record_says = c.deliver_record-r.ensures in
    let a = c.args in let asked = c.requires in
    let w = sending a.plan asked.0 a.own a.b a.row a.job in
    (asked.0, rw (meant_says, record_says, ← w.bytes) asked.1)

pub returns : goal.returns
returns c =
    let q = c.send in
    let m = c.home_boxes.ensures in
    let e = c.deliver_record-r.ensures in
    let a = c.args in let asked = c.requires in
    let w = sending a.plan asked.0 a.own a.b a.row a.job in
    (rw (w.bytes, ← e, ← m) q.ensures.0, rw (w.count, ← m) q.ensures.1, rw (w.bytes, ← e, ← m) q.ensures.2, q.ensures.3)
