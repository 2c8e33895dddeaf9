use Rattle.std.proofs.Common.{◌≡◌, ◌≤◌, length}
use Rattle.blink_page.specs.{PlainPage}
use Rattle.blink_live.specs.Seats.{IsSameSeat, ReadsPage}
use Rattle.blink_live.proofs.scanned.LeavesAreCopied.{HasCopied}
use Rattle.blink_live.proofs.live.Live.copy_part.Given as goal

abbrev pub invariant-loop-place : goal.invariant-loop-place
invariant-loop-place l = record {
  same : IsSameSeat l.fn.seat l.seat;
  count : (leaf : PlainPage) → ReadsPage l.fn.seat.me l.row leaf → l.count ≡ length leaf.entries;
  few : l.filled ≤ l.place;
  copied : (leaf : PlainPage) → ReadsPage l.fn.seat.me l.row leaf → HasCopied l.from l.hi leaf.entries l.fn.into l.place l.into l.filled;
}
