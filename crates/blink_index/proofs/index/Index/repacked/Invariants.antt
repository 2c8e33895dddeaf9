use Rattle.std.proofs.Common.{◌≡◌, ◌++◌, length}
use Rattle.blink_rest.specs.{entries_from}
use Rattle.blink_entries.specs.Index.{map_of}
use Rattle.blink_entries.specs.{AreLeaves, entries_in}
use Rattle.blink_index.proofs.index.Index.repacked.Given as goal

-- the entries that were scanned stand in the leaves, and the others are to come
abbrev pub invariant-entries : goal.invariant-entries
invariant-entries l = record {
  leaves : AreLeaves l.fan l.pages.items;
  parts : entries_from (entries_in l.pages.items) ++ l.scan ≡ map_of l.self;
}

abbrev pub decreases-entries : goal.decreases-entries
decreases-entries l = length l.scan
