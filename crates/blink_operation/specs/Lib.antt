-- What a caller of `blink_operation` reads, in this order; then what proofs above it need; then the files themselves.

-- the answer of an operation on a plain map, the map after it, and the same of a list of operations
pub use Rattle.blink_operation.specs.Operation.{AddsEntry, StopsForMemory, answer_at, answer_of, answers, cell_after, key_of, map_after, map_after_all, pointer_with}
-- the plain map that the whole index is measured by: a list of entries whose keys strictly ascend
pub use Rattle.blink_operation.specs.PlainMap.{IsAscending, entry, pointer_of}
-- the numbers that the operations of a batch have
pub use Rattle.blink_operation.specs.Batch.{FitsWords, is_insert}
-- the text of answers: a line for each
pub use Rattle.blink_operation.specs.Text.{text_of}
-- ---- for proofs above
pub use Rattle.blink_operation.specs.Operation.{map_at}
pub use Rattle.blink_operation.specs.Text.{line_of}
-- ---- files that crates above name
pub mod Operation
pub mod PlainMap
pub mod Batch
pub mod Text
