-- What a caller of `blink_run` reads, in this order; then what proofs above it need; then the files themselves.

-- a script's run as its settings say
pub use Rattle.blink_run.specs.BySettings.{IsServedBy, ServesBy, TellsRunOf}
-- the output for a script: the text of its parts, one after another, by one thread on one plain map
pub use Rattle.blink_replay.specs.{IsPrefixOf, IsTextOf, OutputAfterError, Serves, TellsFault, WritesText, is_batch}
-- the output of a script's replay: the trace of its last batch, the text of its parts, and the pages at the end
pub use Rattle.blink_replay.specs.{HaveRunParts, IsPartsFault, IsReplayText, LeavesReplay, Replays, TellsReplayFault, TellsReplayOf, TellsTooLarge, TellsWorkersFault}
-- a batch's replay: the turns of a schedule, with a trace of them, and then picked turns to the end
pub use Rattle.blink_replay.specs.{IsRefusedMemory, by_residue}
-- the trace of turns: a line for each, with its worker and the turn's result
pub use Rattle.blink_replay.specs.{turn_line}
-- the calls of a writer: a text is written piece by piece, and the first call that fails is the last
pub use Rattle.blink_replay.specs.{Writes, WritesAll, WritesPrefix}
-- ---- for proofs above
pub use Rattle.blink_replay.specs.{IsTextBeforeBatch, IsTextOfPrefix}
-- ---- what stands below, by its files
pub use Rattle.blink_locked.specs.Book
pub use Rattle.blink_locked.specs.Run
pub use Rattle.blink_locked.specs.Starts
pub use Rattle.blink_settings.specs.Settings
pub use Rattle.blink_settings.specs.Codes
pub use Rattle.blink_replay.specs.Served
pub use Rattle.blink_replay.specs.ServedReplay
pub use Rattle.blink_replay.specs.Replay
pub use Rattle.blink_replay.specs.Trace
pub use Rattle.blink_replay.specs.Text
pub use Rattle.blink_replay.specs.TrackedWriter
-- ---- files that no crate above names
pub mod BySettings
pub mod Lanes
