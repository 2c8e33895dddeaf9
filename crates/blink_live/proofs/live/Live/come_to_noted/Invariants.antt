use Rattle.blink_batch.specs.declared.Op.TheVariants.{Find}
use Rattle.blink_live.specs.declared.view.Look.{Look}
use Rattle.blink_live.specs.Seats.{HasSameNumber}
use Rattle.blink_live.specs.Snapshots.{NotesMore}
use Rattle.blink_live.specs.Views.{for_call}
use Rattle.blink_live.proofs.found.DescentsGoOn.{HasComeTo}
use Rattle.blink_live.proofs.live.Live.come_to_noted.Given as goal

abbrev pub invariant-loop-next : goal.invariant-loop-next
invariant-loop-next l = record {
  same_table : HasSameNumber l.fn.seat l.seat;
  come : (look : Look) × HasComeTo (Find l.key) (record (for_call l.fn.seat.me.0 (Find l.key)) { look = look }, l.fn.seat.me.1) l.seat.me l.number l.level;
  more : NotesMore l.fn.seat.me.0.look l.seat.me.0.look;
}

abbrev pub decreases-loop-next : goal.decreases-loop-next
decreases-loop-next l = l.seat.me.0.descent_bound
