-- What a caller of `blink_batch` reads, in this order; then what proofs above it need; then the files themselves.

-- the answer of an operation on a plain map, the map after it, and the same of a list of operations
pub use Rattle.blink_operation.specs.Operation.{AddsEntry, StopsForMemory, answer_at, answer_of, answers, cell_after, key_of, map_after, map_after_all, pointer_with}
-- the plain map that the whole index is measured by: a list of entries whose keys strictly ascend
pub use Rattle.blink_operation.specs.PlainMap.{IsAscending, entry, pointer_of}
-- the numbers that the operations of a batch have
pub use Rattle.blink_operation.specs.Batch.{FitsWords, is_insert}
-- how the operations of a batch are assigned to workers: any assignment, which ones are lawful cuts, and why others aren't
pub use Rattle.blink_batch.specs.Cut.{AreLanes, Assignment, IsAssignment, IsCutFault, IsLanesFault, IsLawfulCut, MayWork}
-- keys cut into ranges by ascending bounds: each bound is the greatest key of its range, and one range lies after them all
pub use Rattle.blink_batch.specs.Ranges.{AreBadBounds, MayBound, lanes_by_ranges}
-- a batch's operations in an order other than the batch's, as concurrent workers decide them
pub use Rattle.blink_batch.specs.Order.{AnswersInOrder, IsWholeOrder, lane_of, next_place, operations_at, part_of, places_from}
-- the text of answers: a line for each
pub use Rattle.blink_operation.specs.Text.{text_of}
-- the script of a list of records: its parts, or its first refusal
pub use Rattle.blink_batch.specs.Script.{IsReadable, ReadsAs, TellsRefusal, records_of, script_of}
-- the script of some records, without a count or a recursion over them
pub use Rattle.blink_batch.specs.ScriptLaw.{FirstRefusalIsTold, ScriptsHaveTheirParts}
-- the spelling of numbers in scripts and on the command line
pub use Rattle.blink_batch.specs.Number.{number_of}
-- the code of each refusal
pub use Rattle.blink_batch.specs.Codes.{code_of_cut_error, code_of_record_error, code_of_script_error, code_of_step_error}
-- ---- for proofs above
pub use Rattle.blink_operation.specs.Operation.{map_at}
pub use Rattle.blink_batch.specs.Order.{is_worker}
pub use Rattle.blink_operation.specs.Text.{line_of}
-- ---- files that no crate above names
pub mod Cut
pub mod Ranges
pub mod Order
pub mod Script
pub mod ScriptLaw
pub mod Reader
pub mod Record
pub mod Number
pub mod Codes
pub mod Same
pub mod Search
pub mod Cell
pub mod Parts
pub mod LastPlaces
-- ---- what stands below, by its files
pub use Rattle.blink_operation.specs.Operation
pub use Rattle.blink_operation.specs.PlainMap
pub use Rattle.blink_operation.specs.Batch
pub use Rattle.blink_operation.specs.Text
