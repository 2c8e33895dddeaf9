-- The entries of a tree state as a plain map.
use Rattle.std.specs.Prelude.{List}
use Rattle.blink_operation.specs.declared.Entry.{Entry}
use Rattle.blink_rest.specs.{AreEntries}
use Rattle.blink_machine.specs.TreeState.{TreeState}
-- the same of a store's tree
pub use Rattle.blink_rest.specs.{HasMap, IsMapOf, entries_from, pairs_of}

-- the tree of a tree state has the entries of this map
abbrev pub HasEntries : TreeState → List Entry → Type 0
HasEntries tree_state entries = AreEntries tree_state.fan tree_state.prime tree_state.pages (pairs_of entries)
