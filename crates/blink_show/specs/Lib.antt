-- What a caller of `blink_show` reads, in this order; then what proofs above it need; then the files themselves.

-- the text of a script's replay, to be looked at
pub use Rattle.blink_show.specs.Show.{IsSeedText, IsShowText, LeavesShow}
-- ---- files that no crate above names
pub mod Show
pub mod Frames
pub mod Lines
pub mod Turns
pub mod AskedTurns
pub mod Draw
pub mod Batch
pub mod Words
pub mod Keeping
