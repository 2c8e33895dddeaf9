-- A `Scan` as a contract sees it.
use Rattle.std.specs.Prelude.{List, ◌++◌}
use Rattle.blink_operation.specs.declared.Entry.{Entry}
use Rattle.blink_rest.specs.{entries_from}
use Rattle.blink_entries.specs.Scan.{IsLinkOf, at_most, entries_after, entries_to}
use Rattle.blink_entries.specs.declared.scan.Scan.TheInside.{Inside}

-- the entries that the scan still gives
abbrev pub to_come : Inside → List Entry
to_come scan = at_most scan.most (entries_from scan.entries.now ++ entries_to scan.hi (entries_after scan.store.now scan.link))

-- the scan's link leads along a level
abbrev pub IsLinked : Inside → Type 0
IsLinked scan = IsLinkOf scan.store.now scan.link
