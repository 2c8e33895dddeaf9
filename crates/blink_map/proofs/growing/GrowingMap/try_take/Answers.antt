use Rattle.std.proofs.Common.{refl}
use Rattle.blink_map.proofs.growing.GrowingMap.try_take.Goals as goal

pub returns-then-try_take_slot-clause-taken : goal.returns-then-try_take_slot-clause-taken
returns-then-try_take_slot-clause-taken c = c.take_out.ensures.taken c.args.seat.now.me (c.if-try_take_slot.ensures.taken refl)
