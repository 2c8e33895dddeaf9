use Rattle.std.proofs.Common.{◌≤◌, length}
use Rattle.blink_page.specs.{PlainPage}
use Rattle.blink_live.specs.Seats.{IsSameSeat, ReadsPage}
use Rattle.blink_live.proofs.scanned.LeavesAreCopiedBack.{HasCopiedBack}
use Rattle.blink_live.proofs.live.Live.copy_row_back.Given as goal

-- the entries are gone through from their end
abbrev pub invariant-loop-place : goal.invariant-loop-place
invariant-loop-place l = record {
  same : IsSameSeat l.fn.seat l.seat;
  inside : (leaf : PlainPage) → ReadsPage l.fn.seat.me l.row leaf → l.place ≤ length leaf.entries;
  copied : (leaf : PlainPage) → ReadsPage l.fn.seat.me l.row leaf → HasCopiedBack l.lo l.from leaf.entries l.fn.into l.place l.into l.filled;
}
