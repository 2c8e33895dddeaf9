-- What a caller of `blink_replay` reads, in this order; then what proofs above it need; then the files themselves.

-- the output for a script: the text of its parts, one after another, by one thread on one plain map
pub use Rattle.blink_replay.specs.Served.{IsPrefixOf, IsTextOf, OutputAfterError, Serves, TellsFault, WritesText, is_batch}
-- the output of a script's replay: the trace of its last batch, the text of its parts, and the pages at the end
pub use Rattle.blink_replay.specs.ServedReplay.{HaveRunParts, IsPartsFault, IsReplayText, LeavesReplay, Replays, TellsReplayFault, TellsReplayOf, TellsTooLarge, TellsWorkersFault}
-- a batch's replay: the turns of a schedule, with a trace of them, and then picked turns to the end
pub use Rattle.blink_replay.specs.Replay.{IsRefusedMemory, by_residue}
-- the trace of turns: a line for each, with its worker and the turn's result
pub use Rattle.blink_replay.specs.Trace.{turn_line}
-- the lines of a scan or a page
pub use Rattle.blink_replay.specs.Text.{scan_text}
-- the calls of a writer: a text is written piece by piece, and the first call that fails is the last
pub use Rattle.blink_replay.specs.TrackedWriter.{OutputFails, Writes, WritesAll, WritesPrefix, nothing, replay_text}
-- ---- for contracts and proofs above
pub use Rattle.blink_replay.specs.Served.{FlushedOutputAfterError, IsBatchFault, IsPartFault, IsTextBeforeBatch, IsTextOfPrefix, PartOutputAfterError, PrefixOutputAfterError, part_after, part_text, script_text}
-- ---- files that crates above name
pub mod Served
pub mod ServedReplay
pub mod Replay
pub mod Trace
pub mod Text
pub mod TrackedWriter
