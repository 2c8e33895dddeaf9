use Rattle.std.proofs.Common.{refl}
use Rattle.blink_map.proofs.growing.GrowingMap.take_unless_gathering.Goals as goal

pub returns-then-take_slot_unless-clause-taken : goal.returns-then-take_slot_unless-clause-taken
returns-then-take_slot_unless-clause-taken c = c.take_out.ensures.taken c.args.seat.now.me (c.if-take_slot_unless.ensures.taken refl)
