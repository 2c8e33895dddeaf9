use Rattle.std.proofs.Common.{◌≡◌, ◌+◌, ◌≤◌, length, take}
use Rattle.blink_page.specs.{PlainPage}
use Rattle.blink_rows.specs.{page_with}
use Rattle.blink_live.specs.Editing.{pointers_in}
use Rattle.blink_live.specs.Scanning.{IsCopied}
use Rattle.blink_live.specs.Seats.{IsSameSeat, ReadsVersion}
use Rattle.blink_live.proofs.live.Live.edit_in.Given as goal

abbrev pub invariant-loop-older : goal.invariant-loop-older
invariant-loop-older l = record {
  same : IsSameSeat l.fn.seat l.seat;
  width : length l.leaf ≡ length l.fn.leaf;
  few : l.filled ≤ l.fn.copied + l.older;
  copied : (page : PlainPage) → (is : ReadsVersion l.fn.seat.me l.word page) → IsCopied (pointers_in is.base) l.range.lo (l.range.hi + 1) (take l.fn.copied l.fn.leaf)
      → IsCopied (pointers_in (page_with is.base (take l.older is.version.records))) l.range.lo (l.range.hi + 1) (take l.filled l.leaf);
}
