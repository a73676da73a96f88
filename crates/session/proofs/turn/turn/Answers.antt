-- `session::turn::turn` meets its contract.
use Rattle.std.proofs.Common.{refl}
use Rattle.session.proofs.laws.Turned.{turns_passed, can_step, can_finish, turns_gone, turns_full}
use Rattle.session.proofs.turn.turn.Goals as goal

pub returns-in_default : goal.returns-in_default
returns-in_default c = turns_passed c.hear-h.ensures c.in_default.is

pub step-out-requires : goal.step-out-requires
step-out-requires c = let s = can_step c.hear-h.ensures c.in-Some.is c.order_of.ensures in (s.0, s.1, s.2, refl)

pub finish-f-requires : goal.finish-f-requires
finish-f-requires c = can_finish c.hear-h.ensures c.in-Some.is c.order_of.ensures _ c.step-out.ensures c.step-out.auto.tray c.requires.0

pub returns-in-Some-used : goal.returns-in-Some-used
returns-in-Some-used c =
    turns_gone c.hear-h.ensures c.in-Some.is c.order_of.ensures _ c.step-out.ensures c.step-out.auto.tray c.finish-f.ensures c.in-Some-used.is

pub returns-in-None : goal.returns-in-None
returns-in-None c =
    turns_full c.hear-h.ensures c.in-Some.is c.order_of.ensures _ c.step-out.ensures c.step-out.auto.tray c.finish-f.ensures c.in-None.is
