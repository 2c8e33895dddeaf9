-- A page word: the number of a row, and above it what it says of the records that stand in the row behind its page.
use Rattle.std.specs.Prelude.{ℕ, ◌+◌, ◌*◌, ◌/◌, ◌%◌}
use Rattle.blink_rows.specs.declared.limits.TheConstants.{KIND_LIMIT, RECORD_LIMIT, ROW_LIMIT}
use Rattle.blink_rows.specs.declared.naming.Records.{Records}

-- there are no records
abbrev pub no_records : Records
no_records = record { count = 0; kinds = 0 }

-- from the lowest bits on: the row, the number of records, and their kinds
abbrev pub page_word : ℕ → Records → ℕ
page_word row records = row + ROW_LIMIT * (records.count + RECORD_LIMIT * records.kinds)

-- the row that a page word names
unfoldable pub row_in : ℕ → ℕ
row_in word = word % ROW_LIMIT

-- what it says of the records in the row
unfoldable pub records_in : ℕ → Records
records_in word = record { count = word / ROW_LIMIT % RECORD_LIMIT; kinds = word / (ROW_LIMIT * RECORD_LIMIT) % KIND_LIMIT }
