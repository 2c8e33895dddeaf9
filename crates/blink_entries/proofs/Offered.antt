-- What this crate offers to the proofs of the crates above.

-- the plain map of a store has the entries of its tree, and the tree has no other map
pub use Rattle.blink_entries.proofs.MapOfStore.{map_of-entries, no_other_map_is_kept, pointer_of-entries_from, the_map_is_kept}
-- an entry's key maps to its pointer in a plain map, which is what a find answers, and the other way round
pub use Rattle.blink_entries.proofs.EntriesOfMaps.{entry-from_pointer, found-from_pointer, pointer-from_entry, pointer-from_found}
-- the leaf of a key says what the key maps to
pub use Rattle.blink_entries.proofs.WayDown.{leaf_pointer, leaf_value}
-- a scan brings its entries in order
pub use Rattle.blink_entries.proofs.StretchOfScan.{brings_in_order}
-- the entries that a scan of a tree at rest gives
pub use Rattle.blink_entries.proofs.WhereLinksLead.{scan_of_all, scan_of_rest}
-- the text of a store is that of the levels of its tree
pub use Rattle.blink_entries.proofs.LevelsAsLines.{the_text_is_of_the_levels}
-- the pages that entries need depend on their number alone
pub use Rattle.blink_entries.proofs.packed.FewestPages.{same_needs}
-- no tree has fewer pages
pub use Rattle.blink_entries.proofs.packed.NoTreeHasFewer.{no_tree_has_fewer}
-- entries in ascending order, read one by one
pub use Rattle.blink_entries.proofs.packed.SortedEntries.{all_rise, ascending_of, length-pairs_of, pairs_more, rising_at, rising_first, rising_next}
-- the entries that a scan gives to a tree that is packed
pub use Rattle.blink_entries.proofs.packed.EntriesOfScan.{all_given, counted, fewer_so_far, length-entries_from, needs_no_more, next_above, parts_more}
-- there are enough page numbers
pub use Rattle.blink_entries.proofs.packed.NumbersSuffice.{no_more_pages, number_for_entry, numbers_above}
