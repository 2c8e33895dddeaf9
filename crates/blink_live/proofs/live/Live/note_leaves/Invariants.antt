use Rattle.std.proofs.Common.{◌≤◌, ◌-◌}
use Rattle.blink_live.specs.Finding.{HasSearched}
use Rattle.blink_live.specs.Seats.{HasSameNumber}
use Rattle.blink_live.specs.Snapshots.{AreNotedIn}
use Rattle.blink_live.proofs.live.Live.note_leaves.Given as goal

abbrev pub invariant-loop-leaves : goal.invariant-loop-leaves
invariant-loop-leaves l = record {
  same_table : HasSameNumber l.fn.seat l.seat;
  searched : HasSearched l.fn.seat.me l.seat.me;
  range : l.from ≤ l.hi;
  noted : AreNotedIn l.self.counts l.seat.me.0.look l.leaves.items;
}

abbrev pub decreases-loop-leaves : goal.decreases-loop-leaves
decreases-loop-leaves l = l.hi - l.from
