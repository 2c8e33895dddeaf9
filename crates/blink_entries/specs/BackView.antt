-- A `ScanBack` as a contract sees it.
use Rattle.std.specs.Prelude.{List, ◌++◌, reverse}
use Rattle.blink_operation.specs.declared.Entry.{Entry}
use Rattle.blink_rest.specs.{IsStoreAtRest, entries_from}
use Rattle.blink_entries.specs.Back.{entries_within}
use Rattle.blink_entries.specs.Index.{map_of}
use Rattle.blink_entries.specs.Scan.{at_most}
use Rattle.blink_entries.specs.declared.back.ScanBack.TheInside.{Inside}

-- the entries that the scan still gives: those that are left of its leaf, the last first, and then those up to the key where the
-- leaves before it end
abbrev pub to_come : Inside → List Entry
to_come scan = at_most scan.most (reverse (entries_within scan.lo scan.hi (map_of scan.store.now) ++ entries_from scan.entries.now))

-- the scan reads a tree at rest
abbrev pub ReadsRest : Inside → Type 0
ReadsRest scan = IsStoreAtRest scan.store.now
