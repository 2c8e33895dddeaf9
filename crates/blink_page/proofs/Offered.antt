-- What this crate offers to the proofs of the crates above: what follows of keys in order, and what keeps a page lawful.

-- how keys that rise or cover are joined, and where they end
pub use Rattle.blink_page.proofs.RisingKeys.{from_at_most_to, rising_from_below, IsRising-append, covers_rising, covers_next, Covers-append, rising_rises, length-rising, next_at_most_to, next_key-last, rising_rest, rising_to_next}
-- what a look-up finds
pub use Rattle.blink_page.proofs.LookUps.{none_unless_some, value_at-below, value_at-above, value_at-append_prefix, value_at-append_rest, child_for-append_prefix, child_for-append_rest, child_for-covers, value_at-added, value_at-added_other, value_at-removed, value_at-removed_other, value_at-replaced, value_at-replaced_other}
-- what one entry more is in a leaf and in an inner page
pub use Rattle.blink_page.proofs.ChangedEntries.{entries_with-leaf, entries_with-inner, ValuesWithin-append, values_wider, length-added, length-removed, length-replaced}
-- a change of one page's entries is a change of those of the pages in a row
pub use Rattle.blink_page.proofs.EntriesOfPagesInARow.{added-append_prefix, added-append_rest, removed-append_prefix, removed-append_rest, replaced-append_prefix, replaced-append_rest, posted-append_prefix, posted-append_rest, posted_there, others_there}
-- pages that are lawful after a change
pub use Rattle.blink_page.proofs.LawfulPages.{lawful_with_room, lawful_removed, lawful_replaced, lawful_entries_with, length-entries_with, lawful_leaf, lawful_added}
-- the two halves of a split, and the separator between them
pub use Rattle.blink_page.proofs.HalvesOfSplit.{lower-append-upper, separator_above_floor, separator_below_high, lawful_lower, lawful_upper}
-- what stands where a search within a page ends, and that a search in an inner page ends at a child
pub use Rattle.blink_page.proofs.WhereSearchesEnd.{place_at_most, child_for-place, value_at-place, value_at-place_other, value_at-place_end, rising_get}
pub use Rattle.blink_page.proofs.LawfulPages.{place_inside, child_inside}
