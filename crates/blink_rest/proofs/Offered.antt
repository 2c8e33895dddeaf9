-- What this crate offers to the proofs of the crates above: chains and levels, what they say of one another, and where searches end.

-- lines of pages in parts, and what a line says of a page that stands there
pub use Rattle.blink_rest.proofs.LinesOfPages.{stands_split, stands_middle, stands_there, stands_of, AreAmong-append, AreAmong-prefix, AreAmong-rest, InLine-append, InLine-prefix, InLine-rest}
-- the entries of a level, and the one page of it that a key belongs to
pub use Rattle.blink_rest.proofs.EntriesOfLevel.{entries_along-append, line_rising, chain_rising, chain_covers, chain_spans, chain_spans_once, chain_value}
-- what a level says of the one below, where a chain begins, and where right links lead
pub use Rattle.blink_rest.proofs.ChildrenAreInChain.{page_refers, named_refers, chain_begins, line_right}
-- numbers that differ, and how many they are
pub use Rattle.blink_rest.proofs.DifferentNumbers.{among_append, among_from_Contains, Contains-from_among, AllPairs-from_differ}
pub use Rattle.blink_rest.proofs.HowManyNumbers.{at_most_n}
-- the numbers of a chain's pages
pub use Rattle.blink_rest.proofs.PagesOfChainsDiffer.{standing, stands_among, chain_differs, levels_differ}
pub use Rattle.blink_rest.proofs.NoPageLeftOut.{cells_within, levels_at_most}
pub use Rattle.blink_rest.proofs.WalkAlongLevel.{walked_within, store_numbered}
-- why levels are few: an inner page has two entries at least
pub use Rattle.blink_rest.proofs.FewLevels.{two_to, two_each}
-- there are no two cells, chains or lists of entries where there is one
pub use Rattle.blink_rest.proofs.OneListOfLevels.{same_cell, same_entries, same_chain}
pub use Rattle.blink_rest.proofs.PagesReached.{only_page}
-- a search in a tree at rest goes down from the root
pub use Rattle.blink_rest.proofs.LeafOfKey.{root_at_end}
pub use Rattle.blink_rest.proofs.PagesReached.{reached_for, child_lower}
-- laws of trees
pub use Rattle.blink_rest.proofs.EachLaw.{entries_ascend, entries_exist_at_rest, search_ends_at_leaf, as_many_levels}
-- a tree at rest has a plain map, which its pairs tell
pub use Rattle.blink_rest.proofs.MapAtRest.{ascending_from, entries_at_start, entries_from-pairs_of, pairs_of-entries_from}
