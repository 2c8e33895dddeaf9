use Rattle.std.proofs.Common.{ℕ}
use Rattle.atomic_table.specs.declared.Seat.{Seat}
use Rattle.blink_live.specs.declared.view.View.{View}
use Rattle.blink_live.specs.Straight.{wanting}
use Rattle.blink_live.specs.Updating.{IsUnderWay}
use Rattle.blink_live.proofs.live.Live.try_change_from.Given as goal

-- the operation wants its leaf's latch
abbrev pub invariant-loop : goal.invariant-loop
invariant-loop l = (first : Seat ℕ View) → IsUnderWay l.self l.op first l.fn.seat (wanting l.self.fan l.op l.fn.descent) l.fn.room → IsUnderWay l.self l.op first l.seat (wanting l.self.fan l.op l.descent) l.room
