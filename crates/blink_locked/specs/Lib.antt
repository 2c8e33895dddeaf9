-- What a caller of `blink_locked` reads, in this order; then what proofs above it need; then the files themselves.

-- what a run of a batch leaves, whose answers they are, and of which replay the tree is; and why a batch isn't run
pub use Rattle.blink_locked.specs.Run.{HasFewPagesMore, IsReplayed, IsSettled, MayRefuse}
-- the book of a run: the world that its workers' steps have led to from what the run began with
pub use Rattle.blink_locked.specs.Book.{IsBookRefusal, IsLeftEarly, IsNewBook, IsSettleRefusal, MayTurn, Turns, book_stopped}
-- the workers whose threads are started: the first ones, one after another, up to the first that can't be started
pub use Rattle.blink_locked.specs.Starts.{AtEach, IsStartRefusal, TellsNext}
-- ---- files that crates above name
pub mod Run
pub mod Book
pub mod Starts
