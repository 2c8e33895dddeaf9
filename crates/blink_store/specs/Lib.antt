-- What a caller of `blink_store` reads, in this order; then what proofs above it need; then the files themselves.

-- a store as plain data, its page n, and the change of a write
pub use Rattle.blink_store.specs.Store.{HasPage, IsLawfulStore, KeepsFloorsAndLevels, PlainStore, SameFloorAndLevel, WritesPage, new_store, page_of}
-- a leaf of a store by its number
pub use Rattle.blink_store.specs.Leaf.{IsLeafOf}
-- which worker holds which page's latch
pub use Rattle.blink_store.specs.Latches.{ChangesHolder, HoldsNone, IsHeldByOne, holder_of}
-- the code of each refusal
pub use Rattle.blink_store.specs.Codes.{code_of}
-- ---- for proofs above
pub use Rattle.blink_store.specs.Latches.{Holds}
-- ---- files that no crate above names
pub mod Store
pub mod Leaf
pub mod Latches
pub mod Codes
