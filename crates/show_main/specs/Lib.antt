-- What a caller of `show_main` reads, in this order; then what proofs above it need; then the files themselves.

-- the program's output for a command line, and what is left after a refusal
pub use Rattle.show_main.specs.Program.{IsFault, Leaves, WritesPage}
-- ---- files that no crate above names
pub mod Program
