-- What this crate offers to the proofs of the crates above.

-- what holds of each element of a list at its place
pub use Rattle.blink_locked.proofs.EachPlace.{each_from_first, each_left, each_more, each_paired}
