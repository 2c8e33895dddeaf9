use Rattle.std.proofs.Common.{◌≡◌, length, drop}
use Rattle.blink_page.specs.{PlainPage, value_at}
use Rattle.blink_rows.specs.Log.{BeginsWith}
use Rattle.blink_rows.specs.Row.{page_words}
use Rattle.blink_rows.proofs.logged.value_in_base.Given as goal

-- no entry up to here has the key
abbrev pub invariant-loop-place : goal.invariant-loop-place
invariant-loop-place l = (page : PlainPage) → BeginsWith l.words (page_words page) → l.base ≡ length page.entries → value_at l.key page.entries ≡ value_at l.key (drop l.place page.entries)
