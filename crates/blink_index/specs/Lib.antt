-- What a caller of `blink_index` reads, in this order; then what proofs above it need; then the files themselves.

-- the content of an index: the levels of its tree, its tree's entries, and these as a plain map
pub use Rattle.blink_entries.specs.Index.{map_of}
-- the entries that a scan gives, up to a key or to a number of entries
pub use Rattle.blink_entries.specs.Scan.{BringsInOrder, is_from, is_within}
-- the text of a tree at rest: a line for each page, the top level first, and each level from the left
pub use Rattle.blink_entries.specs.Dump.{entry_text, text_of_store, words_of}
-- the entries at the ends of a plain map, and those on one side of a key
pub use Rattle.blink_index.specs.Ends.{first_of, is_above, is_below, is_up_to, last_of}
-- what one operation makes of a tree at rest, in place
pub use Rattle.blink_index.specs.Edit.{HasPagesFor, IsEditRefusal, SplitsLeaf, StopsEdits}
-- why an index can't be made of entries
pub use Rattle.blink_index.specs.Sorted.{CanBePacked, IsFirstUnsorted, IsSortedRefusal}
-- the code of each refusal
pub use Rattle.blink_index.specs.Codes.{code_of, code_of_edit, code_of_sorted}
-- laws of the plain map of an index and of its text
pub use Rattle.blink_entries.specs.{MapIsKept, NoOtherMapIsKept, TextIsOfLevels}
-- trees in as few pages as their entries need
pub use Rattle.blink_entries.specs.Packed.{AreFewest, ExceedsNumbers, IsFewest, IsInOrder, NeedsPages, numbered}
-- ---- for proofs above
pub use Rattle.blink_index.specs.Edit.{IsEdited, for_answers, for_next}
-- ---- files that no crate above names
pub mod Ends
pub mod Edit
pub mod Drive
pub mod Sorted
pub mod Codes
-- ---- what stands below, by its files
pub use Rattle.blink_entries.specs.Index
pub use Rattle.blink_entries.specs.Scan
pub use Rattle.blink_entries.specs.Dump
pub use Rattle.blink_entries.specs.Packed
