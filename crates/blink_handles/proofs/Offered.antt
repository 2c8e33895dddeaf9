-- What this crate offers to the proofs of the crates above.

-- a map, or what a close has left of it, may go to another thread; and a session, free or held, or its operation, with an owner of their map
pub use Rattle.blink_handles.proofs.MapsCross.{owner_send as map_owner_send, session_owner_send}
