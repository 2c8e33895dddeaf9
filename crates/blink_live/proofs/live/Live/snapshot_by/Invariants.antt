use Rattle.blink_live.specs.Finding.{HasSearched}
use Rattle.blink_live.specs.Seats.{HasSameNumber}
use Rattle.blink_live.proofs.live.Live.snapshot_by.Given as goal

abbrev pub invariant-loop : goal.invariant-loop
invariant-loop l = record {
  same_table : HasSameNumber l.fn.seat l.seat;
  searched : HasSearched l.fn.seat.me l.seat.me;
}
