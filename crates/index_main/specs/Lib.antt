-- What a caller of `index_main` reads, in this order; then what proofs above it need; then the files themselves.

-- the program's output for a command line, the index of its run, why it fails, and what is left then
pub use Rattle.index_main.specs.Program.{HasLeft, IsFault, LetsOut, RunsBy, Writes}
-- a writer that keeps what it was given before
pub use Rattle.index_main.specs.Appending.{BeginsWith}
-- ---- files that no crate above names
pub mod Appending
pub mod Program
