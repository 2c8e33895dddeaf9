use Rattle.std.proofs.Common.{◌≡◌, length, ap, arith}
use Rattle.blink_rows.specs.declared.naming.Records.{Records}
use Rattle.blink_rows.proofs.LogWords.{count_read, length-row_words}
use Rattle.blink_rows.proofs.logged.base_count.Goals as goal
use Rattle.blink_rows.proofs.logged.base_count.Goals.{else-count-le-MAX_RECORDS-via-then-count-le-MAX_RECORDS+else-base-count-le-ROW_WORDS, else-count-le-MAX_RECORDS-via-else-count-le-MAX_RECORDS}

pub returns-else-count-le-MAX_RECORDS-clause-none : goal.returns-else-count-le-MAX_RECORDS-clause-none
returns-else-count-le-MAX_RECORDS-clause-none c base log row =
    let count : length log ≡ c.args.records.count = ap (λ (told : Records). told.count) row.counts in
    let few = row.logged.few in
    let room = row.logged.room in
    let entries = count_read base log c.args.words.now row.begins in
    let width = length-row_words base log in
    elim c.else-count-le-MAX_RECORDS.branch [
      | else-count-le-MAX_RECORDS-via-then-count-le-MAX_RECORDS+else-base-count-le-ROW_WORDS w ↦ omega (arith, count, few, room, entries, width, c.in_ok-base.ensures.some, c.from-count.ensures)
      | else-count-le-MAX_RECORDS-via-else-count-le-MAX_RECORDS w ↦ omega (arith, count, few, c.from-count.ensures)
    ]
