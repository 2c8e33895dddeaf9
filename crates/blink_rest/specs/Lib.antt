-- What a caller of `blink_rest` reads, in this order; then what proofs above it need; then the files themselves.

-- a chain: the pages of one level, met from its leftmost page along right links
pub use Rattle.blink_rest.specs.Chain.{InLine, IsChain, Pages}
-- the keys of a level, and its references to the level below
pub use Rattle.blink_rest.specs.Level.{entries_along, numbers_of}
-- the references of a level to the level below it
pub use Rattle.blink_rest.specs.References.{BeginsAt, IsHighKey, Refers}
-- the entries of a tree: those of its leaves, joined along the chain of level 0
pub use Rattle.blink_rest.specs.Entries.{AreEntries}
-- the same as a plain map
pub use Rattle.blink_rest.specs.TreeMap.{HasMap, IsMapOf, entries_from, pairs_of}
-- a tree at rest: no operation is under way, and every split is posted
pub use Rattle.blink_rest.specs.Rest.{AreLevels, IsAtRest, IsStoreAtRest}
-- how a search reaches a page: down from the root, and to the right
pub use Rattle.blink_rest.specs.Reach.{IsReached}
-- laws of trees, for any fan, prime block and pages
pub use Rattle.blink_rest.specs.Laws.{EachKeyIsReached, EachPageRefersBelow, EachRightLinkLeads, EntriesAreOneList, EntriesAscend, EntriesExistAtRest, ExampleIsAtRest, LevelsAreFew, SearchEndsAtLeaf}
-- lists of numbers: membership, whether all differ, and whether all are from 1 to a last one
pub use Rattle.blink_rest.specs.Numbers.{IsMember}
-- the pages that a walk along a level meets
pub use Rattle.blink_rest.specs.Walk.{IsTail}
-- by their file, since they have its name or another file's word: Chain.{Cell, cell}; Level.{children}

-- ---- for proofs above
pub use Rattle.blink_rest.specs.Chain.{AreAmong, floor_after}
pub use Rattle.blink_rest.specs.Level.{IsParentOf, high_keys, separators}
pub use Rattle.blink_rest.specs.Rest.{AreChains, EachIsParent, TopHasOne}
pub use Rattle.blink_rest.specs.Reach.{IsRoot, Reaches, at_root, down, to_right}
pub use Rattle.blink_rest.specs.Numbers.{AllDiffer, AreWithin, Avoids}
pub use Rattle.blink_rest.specs.Walk.{names_for}
-- ---- files that crates above name
pub mod Chain
pub mod Level
-- ---- files that no crate above names
pub mod References
pub mod Entries
pub mod TreeMap
pub mod Rest
pub mod Reach
pub mod Laws
pub mod Example
pub mod Numbers
pub mod Walk
pub mod Children
