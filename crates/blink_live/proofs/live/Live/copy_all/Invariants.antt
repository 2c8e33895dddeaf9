use Rattle.std.proofs.Common.{◌≡◌, ℕ, length}
use Rattle.blink_page.specs.{PlainPage}
use Rattle.blink_live.specs.Scanning.{BeginsFrom}
use Rattle.blink_live.specs.Seats.{IsSameSeat, ReadsPage}
use Rattle.blink_live.specs.Words.{row_start}
use Rattle.blink_live.proofs.scanned.LeavesAreCopied.{HasCopied}
use Rattle.blink_live.proofs.live.Live.copy_all.Given as goal

abbrev pub invariant-loop-place : goal.invariant-loop-place
invariant-loop-place l = record {
  same : IsSameSeat l.fn.seat l.seat;
  copied : (row : ℕ) (leaf : PlainPage) → l.start ≡ row_start l.fn.self.counts row → ReadsPage l.fn.seat.me row leaf → l.count ≡ length leaf.entries
      → (from : ℕ) → BeginsFrom from leaf → HasCopied from leaf.high leaf.entries l.fn.into l.place l.into l.place;
}
