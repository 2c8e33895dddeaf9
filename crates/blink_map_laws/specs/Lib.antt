-- What a caller of `blink_map_laws` reads; then the files themselves.

-- a map that nobody changes, or whose sessions all come to its close
pub use Rattle.blink_map_laws.specs.Whole.{AreOnlyTheirs, HaveSameEntries}
-- two insertions of one key
pub use Rattle.blink_map_laws.specs.Racing.{OneIsInserted}
-- a counter that sessions raise
pub use Rattle.blink_map_laws.specs.Counting.{HasRaised, IsRaisedTo}
-- ---- files that no crate above names
pub mod Calls
pub mod Whole
pub mod Racing
pub mod Counting
