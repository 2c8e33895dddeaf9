-- What a caller of `blink_rows` reads, in this order; then what proofs above it need; then the files themselves.

-- a row: the words that determine a page, or a prime block
pub use Rattle.blink_rows.specs.Row.{IsLawfulPrime, IsPageRow, IsPrimeRow, IsRowOf, IsRowOfNoPage, IsRowOfNoPrime, page_words, prime_words}
-- a page word: it names a row, and counts the records in it
pub use Rattle.blink_rows.specs.Naming.{no_records, page_word, records_in}
unfoldable pub use Rattle.blink_rows.specs.Naming.{row_in}
-- a leaf's log: the records that stand in a row behind its base, and what both mean together
pub use Rattle.blink_rows.specs.Log.{AllFit, BeginsWith, Fits, IsLogged, IsLoggedRow, applied, content, counted, page_after, page_with, pointer_after, record_words, row_words}
-- the size of a table as plain data
pub use Rattle.blink_rows.specs.Counts.{AreBounded, PlainCounts}
-- ---- for proofs above
pub use Rattle.blink_rows.specs.Row.{flag, flat}
pub use Rattle.blink_rows.specs.Log.{Finds, kind_number, kinds_behind, log_words, pointer_by}
-- ---- files that no crate above names
pub mod Row
pub mod Naming
pub mod Log
pub mod Counts
pub mod CountsView
