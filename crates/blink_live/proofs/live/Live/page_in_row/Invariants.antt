use Rattle.std.proofs.Common.{◌≡◌, take}
use Rattle.blink_page.specs.{PlainPage}
use Rattle.blink_rows.specs.{page_with}
use Rattle.blink_live.specs.Seats.{IsSameSeat, ReadsVersion}
use Rattle.blink_live.proofs.live.Live.page_in_row.Given as goal

abbrev pub invariant-loop-older : goal.invariant-loop-older
invariant-loop-older l = record {
  same : IsSameSeat l.fn.seat l.seat;
  applied : (page : PlainPage) → (is : ReadsVersion l.fn.seat.me l.word page) → l.page ≡ page_with is.base (take l.older is.version.records);
}
