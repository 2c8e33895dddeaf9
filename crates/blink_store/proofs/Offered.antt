-- What this crate offers to the proofs of the crates above: pages by their numbers, lists after a change, and who holds a page.

-- which numbers have a page, and what a write makes of the pages
pub use Rattle.blink_store.proofs.PagesByNumber.{has_page, page_there, page_lawful, pages-write, pages-add}
-- the list of the pages after a write, for whoever writes to it
pub use Rattle.blink_store.proofs.PagesAfterChange.{lawful_for, lawful-write, writes-write, lawful-add, writes-add}
pub use Rattle.blink_store.proofs.LeavesInPlace.{page_at_place}
-- what stands at a place of a list after a change
pub use Rattle.blink_store.proofs.ChangedLists.{slice_get-set_same, slice_get-set_other, slice_get-push_same, slice_get-push_other, same_at_each}
-- who holds a page
pub use Rattle.blink_store.proofs.HoldersOfPages.{some_or_none, holder_of-holds, nobody, one_page_each}
