use Rattle.std.proofs.Common.{◌≡◌, ℕ, ◌+◌, ◌*◌, ◌<◌, ◌≤◌, length}
use Rattle.blink_page.specs.{PlainPage, place_of}
use Rattle.blink_live.specs.declared.read.TheConstants.{LINE}
use Rattle.blink_live.specs.Seats.{IsSameSeat, ReadsPage}
use Rattle.blink_live.specs.Words.{row_start}
use Rattle.blink_live.proofs.live.Live.lines_passed.Given as goal

-- the lines that were counted stand before the place, and it is in the next one if a line wasn't counted
abbrev pub invariant-loop-line : goal.invariant-loop-line
invariant-loop-line l = record {
  same : IsSameSeat l.fn.seat l.seat;
  few : l.lines ≤ l.line;
  lines : (row : ℕ) (page : PlainPage) → l.start ≡ row_start l.self.counts row → ReadsPage l.fn.seat.me row page → l.count ≡ length page.entries
      → (LINE * l.lines ≤ place_of l.key page.entries) × (l.lines < l.line → place_of l.key page.entries < LINE * l.lines + LINE);
}
