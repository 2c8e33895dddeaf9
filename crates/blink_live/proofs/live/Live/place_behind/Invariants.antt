use Rattle.std.proofs.Common.{◌≡◌, ℕ, ◌≤◌, length}
use Rattle.blink_page.specs.{PlainPage, place_of}
use Rattle.blink_live.specs.Seats.{IsSameSeat, ReadsPage}
use Rattle.blink_live.specs.Words.{row_start}
use Rattle.blink_live.proofs.live.Live.place_behind.Given as goal

abbrev pub invariant-loop-place : goal.invariant-loop-place
invariant-loop-place l = record {
  same : IsSameSeat l.fn.seat l.seat;
  before : (row : ℕ) (page : PlainPage) → l.start ≡ row_start l.self.counts row → ReadsPage l.fn.seat.me row page → l.count ≡ length page.entries → l.place ≤ place_of l.key page.entries;
}
