-- What a caller of `blink_entries` reads, in this order; then what proofs above it need; then the files themselves.

-- the content of a store: the levels of its tree, its tree's entries, and these as a plain map
pub use Rattle.blink_entries.specs.Index.{cells_of, map_of, store_of}
-- the leaf that a key belongs to
pub use Rattle.blink_entries.specs.Leaf.{IsLeafFor}
-- the entries that a scan gives, up to a key or to a number of entries
pub use Rattle.blink_entries.specs.Scan.{BringsInOrder, is_from, is_within}
-- the text of a tree at rest: a line for each page, the top level first, and each level from the left
pub use Rattle.blink_entries.specs.Dump.{entry_text, text_of_store, words_of}
-- laws of the plain map of a store and of its text
pub use Rattle.blink_entries.specs.Laws.{MapIsKept, NoOtherMapIsKept, TextIsOfLevels}
-- trees in as few pages as their entries need
pub use Rattle.blink_entries.specs.Packed.{AreFewest, ExceedsNumbers, IsFewest, IsInOrder, NeedsPages, numbered}
-- ---- for proofs above
pub use Rattle.blink_entries.specs.Packing.{AreEnough, AreLeaves, entries_in}
-- ---- files that crates above name
pub mod Index
pub mod Packed
pub mod Scan
pub mod Dump
-- ---- files that no crate above names
pub mod Leaf
pub mod Packing
pub mod Back
pub mod Laws
pub mod ScanView
pub mod BackView
