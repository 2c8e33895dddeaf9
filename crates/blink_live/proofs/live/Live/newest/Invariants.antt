use Rattle.std.proofs.Common.{◌≤◌}
use Rattle.blink_page.specs.{PlainPage}
use Rattle.blink_rows.proofs.Offered.{IsLeft}
use Rattle.blink_live.specs.Seats.{IsSameSeat, ReadsVersion}
use Rattle.blink_live.proofs.live.Live.newest.Given as goal

abbrev pub invariant-loop-left : goal.invariant-loop-left
invariant-loop-left l = record {
  same : IsSameSeat l.initial.seat l.seat;
  few : l.left ≤ l.records.count;
  left : (page : PlainPage) → (is : ReadsVersion l.fn.seat.me l.word page) → IsLeft l.key is.version.records l.left;
}

abbrev pub decreases-loop-left : goal.decreases-loop-left
decreases-loop-left l = l.left
