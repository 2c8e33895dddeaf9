use Rattle.blink_live.specs.Seats.{HasSameNumber}
use Rattle.blink_live.specs.Views.{for_call}
use Rattle.blink_live.proofs.found.DescentsOfChanges.{HasComeBy}
use Rattle.blink_live.proofs.live.Live.come_to_change.Given as goal

abbrev pub invariant-loop-next : goal.invariant-loop-next
invariant-loop-next l = record {
  same_table : HasSameNumber l.fn.seat l.seat;
  come : HasComeBy l.self.fan l.op (for_call l.fn.seat.me.0 l.op, l.fn.seat.me.1) l.seat.me l.above.items l.number l.level;
}

abbrev pub decreases-loop-next : goal.decreases-loop-next
decreases-loop-next l = l.seat.me.0.descent_bound
