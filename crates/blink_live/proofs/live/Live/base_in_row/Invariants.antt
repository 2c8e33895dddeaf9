use Rattle.std.proofs.Common.{◌≡◌, length, take}
use Rattle.std.specs.Prelude.{slice_index}
use Rattle.blink_page.specs.{PlainPage}
use Rattle.blink_rows.specs.{page_words}
use Rattle.blink_live.specs.Seats.{ReadsPage}
use Rattle.blink_live.proofs.live.Live.base_in_row.Given as goal

abbrev pub invariant-loop-place : goal.invariant-loop-place
invariant-loop-place l = record {
  same : (l.seat.table_id ≡ l.fn.seat.table_id) × (l.seat.id ≡ l.fn.seat.id) × (l.seat.me ≡ l.fn.seat.me);
  head : (page : PlainPage) → ReadsPage l.fn.seat.me l.row page
      → (l.level ≡ page.level) × (l.has_floor ≡ slice_index (page_words page) 1) × (l.floor ≡ slice_index (page_words page) 2) × (l.high ≡ page.high) × (l.right ≡ slice_index (page_words page) 4) × (l.count ≡ length page.entries);
  read : (page : PlainPage) → ReadsPage l.fn.seat.me l.row page → l.items.items ≡ take l.place page.entries;
}
