-- What a reader of `blink_handles`, and of `blink_c`'s exports above it, reads, in this order; then the files themselves.

-- entries, operations and answers as structs of numbers
pub use Rattle.blink_handles.specs.Raw.{AreOperations, insertion_of, op_of, raw_answer, raw_entry, raw_given, raw_scanned, raw_shown, raw_stock}
-- a batch that one thread runs over an index, an index made of entries, and why they are refused
pub use Rattle.blink_handles.specs.Runs.{HasEntriesOf, HasPagesFor, HasPagesOf, HasRun, IsMakeRefusal, IsRunRefusal}
-- why an index isn't made of entries that have to ascend
pub use Rattle.blink_handles.specs.Sorted.{TellsSortedFault}
-- one operation on an index in place, and the entry that a call may give
pub use Rattle.blink_handles.specs.Edits.{HasApplied, HasEdited, IsApplyRefusal, TellsEditFault, entry_or}
-- what the code of a refused call tells
pub use Rattle.blink_handles.specs.Codes.{TellsNewFault, TellsWhy}
-- what the look-ups give, and the caller's arrays after a scan or a dump, and what a scan tells
pub use Rattle.blink_handles.specs.Found.{found_answer, pointer_or}
pub use Rattle.blink_handles.specs.Filled.{overlaid, put_if_fits, told_of}
-- what a scan of a map gives, and a snapshot
pub use Rattle.blink_handles.specs.Reports.{HasReported, HasReportedBack, TellsTaken}
-- readers of an index, each behind a handle
pub use Rattle.blink_handles.specs.Readers.{index_at, index_in}
-- ---- files that crates above name
-- a map and its sessions behind handles: what the calls make of them, and why they are refused
pub mod Maps
pub mod Sessions
-- the codes of refusals
pub mod Codes
pub mod MapCodes
-- ---- files that no crate above names
pub mod Raw
pub mod Runs
pub mod Sorted
pub mod Edits
pub mod Found
pub mod Filled
pub mod Reports
pub mod Readers
