use Rattle.blink_map.proofs.Tells.{can_give_only}
use Rattle.blink_map.proofs.growing.GrowingMap.room_by.Goals as goal

pub give-requires-clause-can : goal.give-requires-clause-can
give-requires-clause-can c =
    can_give_only c.args.slot c.enter-seat.result.me c.take_unless_gathering.new.seat.me c.in_ok-held.held c.enter-seat.ensures.none_taken.0 c.in_ok-held.ensures.taken
