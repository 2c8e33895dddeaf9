use Rattle.std.proofs.Common.{ℕ, take}
use Rattle.blink_page.specs.{PlainPage}
use Rattle.blink_rows.specs.{page_with}
use Rattle.blink_live.specs.Editing.{pointers_in}
use Rattle.blink_live.specs.Scanning.{IsCopied}
use Rattle.blink_live.specs.Seats.{IsSameSeat, ReadsVersion}
use Rattle.blink_live.proofs.live.Live.replace_in.Given as goal

abbrev pub invariant-loop-older : goal.invariant-loop-older
invariant-loop-older l = record {
  same : IsSameSeat l.fn.seat l.seat;
  copied : (page : PlainPage) → (is : ReadsVersion l.fn.seat.me l.word page) → (from stop : ℕ) → IsCopied (pointers_in is.base) from stop l.fn.copied
      → IsCopied (pointers_in (page_with is.base (take l.older is.version.records))) from stop l.copied;
}
