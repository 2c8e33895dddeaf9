-- What this crate offers to the proofs of the crates above.

-- the plain map of a store has the entries of its tree
pub use Rattle.blink_entries.proofs.Offered.{map_of-entries}
-- an entry's key maps to its pointer in a plain map, which is what a find answers, and the other way round
pub use Rattle.blink_entries.proofs.Offered.{entry-from_pointer, pointer-from_entry, found-from_pointer, pointer-from_found}
