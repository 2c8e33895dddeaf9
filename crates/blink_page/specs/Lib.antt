-- What a caller of `blink_page` reads, in this order; then what proofs above it need; then the files themselves.

-- a page of the tree as plain data, and what makes it lawful
pub use Rattle.blink_page.specs.Page.{IsKeyOf, IsLawfulPage, PlainPage, empty_leaf, entries_with, root_over, with_entries}
-- the entries of a page as a list of pairs of a key and a value: look-ups, and the list after a change
pub use Rattle.blink_page.specs.Entries.{ValuesWithin, added, child_for, last_key, posted, removed, replaced, value_at}
-- ascending keys: the range of a list of entries, from a least key to an excluded end
pub use Rattle.blink_page.specs.Rising.{IsRising, least_above}
-- where a search for a key goes from a page
pub use Rattle.blink_page.specs.Way.{Leads}
-- facts for one result of a `put`
pub use Rattle.blink_page.specs.Put.{IfPresent, UnlessPresent}
-- facts for one result of a `post`
pub use Rattle.blink_page.specs.Post.{OnAlready, UnlessAlready}
-- the split of a full page with one more entry
pub use Rattle.blink_page.specs.Split.{kept_count, lower_half, separator_of, upper_half}
-- the bounds of a page's number of entries, and of page numbers
pub use Rattle.blink_page.specs.Limits.{ExceedsPageLimit, IsBadFan, IsFan, IsPageNumber}
-- laws of postings, for any page
pub use Rattle.blink_page.specs.Laws.{PostingsCommute}
-- the end of a search within a page
pub use Rattle.blink_page.specs.Place.{place_of}
-- by their file, since they have its name or another file's word: Put.{OnDone, OnFull, UnlessDone}; Post.{OnDone, OnFull, UnlessDone}

-- ---- for proofs above
pub use Rattle.blink_page.specs.Page.{HasChildren}
pub use Rattle.blink_page.specs.Entries.{last_key_or}
pub use Rattle.blink_page.specs.Rising.{Covers, Rises, next_key}
-- ---- files that crates above name
pub mod Put
pub mod Post
-- ---- files that no crate above names
pub mod Page
pub mod Entries
pub mod Rising
pub mod Way
pub mod Split
pub mod Limits
pub mod Laws
pub mod Place
pub mod PageView
