-- What this crate offers to the proofs of the crates above.

-- a pending operation may go to another thread
pub use Rattle.blink_generation.proofs.PendingsAreSent.{pending_send}
