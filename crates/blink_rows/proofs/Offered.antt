-- What this crate offers to the proofs of the crates above: what a row says, and that it says it of one only.

-- two rows of the same content are the same words
pub use Rattle.blink_rows.proofs.RowsOfContent.{content_has_one_row}
-- a row is that of one page, or of one prime block
pub use Rattle.blink_rows.proofs.WhatRowsSay.{row_has_one_page, row_has_one_prime}
-- how many words a page and a prime block fill, and where a row says how many entries or levels it has
pub use Rattle.blink_rows.proofs.WhatRowsSay.{length-page_words, count_of_page_row, length-prime_words, count_of_prime_row}
-- what a page word says, and that a row's number is the page word that names the row and counts no record
pub use Rattle.blink_rows.proofs.PageWords.{row_of_word, records_of_word, row_of_row, no_records_of_row, rows_are_below}
-- what a page word says of a log: its row, its records, the kind of each, and how many entries the leaf has
pub use Rattle.blink_rows.proofs.RecordCounts.{counted_more, counts_in_range, word_of_log, length-content}
-- a log more, and a record with those before it
pub use Rattle.blink_rows.proofs.LogContent.{content_more, page_more, content-append, fit_more, fits_next, fit_older, fit_newer, fits_for_greater, fit_for_greater, inner_has_none}
-- what a log means is a lawful page, which each record's key belongs to, and which keys lead on from as from its base
pub use Rattle.blink_rows.proofs.LogContent.{lawful_after, lawful_content, present_key, own_key, leads_with}
-- what a key maps to after records
pub use Rattle.blink_rows.proofs.LogContent.{AreSilent, value_here, value_elsewhere, silent_records, newest_record}
-- a walk from the oldest record to the newest, and a search from the newest to the oldest
pub use Rattle.blink_rows.proofs.LogContent.{StandsAt, stands_at, next_fits, next_page, more_fit, IsLeft, HasNext, all_left, next_left, passes_next, next_says, none_left}
-- where the words of a base and of its records stand
pub use Rattle.blink_rows.proofs.LogWords.{length-log_words, length-row_words, row_words-none, row_words-more, base_stands, begins_with_base, count_read, entry_stands, key_stands, pointer_stands, record_inside, read_record, begins_more, log_words-append}
-- room for a log, and that words tell one
pub use Rattle.blink_rows.proofs.LogWords.{logged_none, logged_more, one_base, one_log, one_page}
