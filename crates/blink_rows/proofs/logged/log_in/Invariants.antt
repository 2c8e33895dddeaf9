use Rattle.std.proofs.Common.{◌≡◌, List, length, take}
use Rattle.blink_page.specs.{PlainPage}
use Rattle.blink_rows.specs.declared.log.Record.{Record}
use Rattle.blink_rows.specs.Log.{BeginsWith, counted, row_words}
use Rattle.blink_rows.specs.Row.{page_words}
use Rattle.blink_rows.proofs.logged.log_in.Given as goal

-- the records up to here are read, and their kinds are those of every log that the page word counts
abbrev pub invariant-loop-older : goal.invariant-loop-older
invariant-loop-older l = record {
  many : length l.log.items ≡ l.older;
  counts : counted l.log.items ≡ l.told;
  words : (page : PlainPage) → BeginsWith l.words (page_words page) → l.base ≡ length page.entries → BeginsWith l.words (row_words page l.log.items);
  same : (all : List Record) → counted all ≡ l.records → counted (take l.older all) ≡ l.told;
}
