-- A quorum of a district as a set of marks, all of whose boxes have a property; two such sets share a box.
-- What a quorum's size is stands in 'plans': here nothing is counted.
use Prim.Native.Nat.{ℕ}
use mathlib.Core.Bool.{true}
use mathlib.Core.Path.{◌≡◌}
use Rattle.house.specs.declared.District.{District}
use Rattle.house.specs.declared.BoxNo.{BoxNo}
use Rattle.house.specs.Plan.{home_of}
use Rattle.house.specs.declared.Plan.{Plan}
use Rattle.house.specs.Marks.{has_mark, quorum_in}
use Rattle.house.proofs.laws.Quorums.{quorums_meet}

-- a quorum of district d, each of whose boxes has the property
pub record Quorate (P : Plan) (d : District) (Q : BoxNo → Type 0) : Type 0 where
  pub marks : ℕ
  pub enough : quorum_in P marks d ≡ true
  pub each : (p : BoxNo) → home_of P p ≡ d → has_mark marks p ≡ true → Q p

-- a box of district d with both properties
pub record Both (P : Plan) (d : District) (Q R : BoxNo → Type 0) : Type 0 where
  pub box : BoxNo
  pub home : home_of P box ≡ d
  pub left : Q box
  pub right : R box

-- two quorums of one district share a box
pub meets : {P : Plan} {d : District} {Q R : BoxNo → Type 0} → Quorate P d Q → Quorate P d R → Both P d Q R
meets {P} {d} q r =
    let c = quorums_meet P d q.marks r.marks q.enough r.enough in
    record { box = c.box; home = c.home; left = q.each c.box c.home c.one; right = r.each c.box c.home c.two }

-- what follows from the property holds of the same quorum
pub quorate_map : {P : Plan} {d : District} {Q R : BoxNo → Type 0} → Quorate P d Q → ((p : BoxNo) → home_of P p ≡ d → Q p → R p) → Quorate P d R
quorate_map q f = record { marks = q.marks; enough = q.enough; each = λ p h k. f p h (q.each p h k) }
