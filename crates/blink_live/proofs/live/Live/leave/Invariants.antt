use Rattle.std.proofs.Common.{ℕ}
use Rattle.atomic_table.specs.declared.Seat.{Seat}
use Rattle.blink_batch.specs.declared.Op.{Op}
use Rattle.blink_live.specs.declared.view.View.{View}
use Rattle.blink_live.specs.Updating.{IsUnderWay, steps_to_leave}
use Rattle.blink_live.proofs.live.Live.leave.Given as goal

abbrev pub invariant-loop-seat : goal.invariant-loop-seat
invariant-loop-seat l = (op : Op) (first : Seat ℕ View) → IsUnderWay l.self op first l.fn.seat l.fn.machine l.fn.room → IsUnderWay l.self op first l.seat l.machine l.room

abbrev pub decreases-loop-seat : goal.decreases-loop-seat
decreases-loop-seat l = steps_to_leave l.machine.state
