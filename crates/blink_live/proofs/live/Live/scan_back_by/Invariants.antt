use Rattle.std.proofs.Common.{◌≡◌, ◌+◌, ◌≤◌, List, length}
use Rattle.std.specs.Prelude.{reverse}
use Rattle.blink_batch.specs.declared.Entry.{Entry}
use Rattle.blink_live.specs.Scanning.{IsFilled}
use Rattle.blink_live.specs.Seats.{HasSameNumber}
use Rattle.blink_live.proofs.scanned.ReportsGoBack.{HasComeBack}
use Rattle.blink_live.proofs.live.Live.scan_back_by.Given as goal

abbrev pub invariant-loop-filled : goal.invariant-loop-filled
invariant-loop-filled l = record {
  same_table : HasSameNumber l.fn.seat l.seat;
  from : (l.lo ≤ l.from) × (l.from ≤ l.hi);
  scanned : (entries : List Entry) × IsFilled (reverse entries) l.fn.into l.into × (l.filled ≡ length entries) × HasComeBack (l.from + 1) (l.hi + 1) entries l.fn.seat.me l.seat.me;
}

abbrev pub decreases-loop-filled : goal.decreases-loop-filled
decreases-loop-filled l = l.from
