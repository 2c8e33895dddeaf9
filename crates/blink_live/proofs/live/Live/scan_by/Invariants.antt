use Rattle.std.proofs.Common.{◌≡◌, ◌-◌, ◌≤◌, List, length}
use Rattle.std.specs.Prelude.{IfSome}
use Rattle.blink_batch.specs.declared.Entry.{Entry}
use Rattle.blink_live.specs.Along.{IsNotedLeaf}
use Rattle.blink_live.specs.Scanning.{HasScanned, IsFilled}
use Rattle.blink_live.specs.Seats.{HasSameNumber}
use Rattle.blink_live.proofs.live.Live.scan_by.Given as goal

abbrev pub invariant-loop-filled : goal.invariant-loop-filled
invariant-loop-filled l = record {
  same_table : HasSameNumber l.fn.seat l.seat;
  from : (l.lo ≤ l.from) × (l.from ≤ l.hi);
  noted : IfSome l.link (IsNotedLeaf l.fn.self.counts l.seat.me.0.look);
  scanned : (entries : List Entry) × IsFilled entries l.fn.into l.into × (l.filled ≡ length entries) × HasScanned l.lo l.from entries l.fn.seat.me l.seat.me;
}

abbrev pub decreases-loop-filled : goal.decreases-loop-filled
decreases-loop-filled l = l.hi - l.from
