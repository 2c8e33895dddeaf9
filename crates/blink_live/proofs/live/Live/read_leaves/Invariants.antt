use Rattle.std.proofs.Common.{◌≤◌}
use Rattle.blink_live.specs.Scanning.{IsCopied}
use Rattle.blink_live.specs.Seats.{HasSameNumber}
use Rattle.blink_live.specs.Snapshots.{IsSameBesideRow}
use Rattle.blink_live.specs.Views.{known_of}
use Rattle.blink_live.proofs.live.Live.read_leaves.Given as goal

abbrev pub invariant-loop-leaf : goal.invariant-loop-leaf
invariant-loop-leaf l = record {
  same_table : HasSameNumber l.fn.seat l.seat;
  same : IsSameBesideRow l.fn.seat.me l.seat.me;
  range : (l.lo ≤ l.from) × (l.from ≤ l.hi);
  copied : IsCopied (known_of l.fn.seat.me.0) l.lo l.from l.entries.items;
}
