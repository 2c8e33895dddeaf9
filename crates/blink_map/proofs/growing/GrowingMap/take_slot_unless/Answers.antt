use Rattle.std.proofs.Common.{refl, subst}
use Rattle.blink_map.specs.Rule.{SlotSeat}
use Rattle.blink_map.specs.Taking.{HasTakenSlot}
use Rattle.blink_map.proofs.growing.GrowingMap.take_slot_unless.Goals as goal

pub returns-then-try_take_slot-clause-taken : goal.returns-then-try_take_slot-clause-taken
returns-then-try_take_slot-clause-taken c is =
    subst (λ (m : SlotSeat). HasTakenSlot c.args.slot m c.try_take_slot.new.seat.me) c.loop.invariant.same_me (c.if-try_take_slot.ensures.taken refl)
