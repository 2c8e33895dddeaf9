use Rattle.std.proofs.Common.{◌≡◌, ◌+◌, length}
use Rattle.blink_entries.specs.Index.{cells_of, map_of}
use Rattle.blink_entries.specs.Scan.{IsLinkOf, entries_after}
use Rattle.blink_entries.proofs.count.leaf_counts.Given as goal

-- the entries that are counted, and those of the leaves from the link on
abbrev pub invariant-leaves : goal.invariant-leaves
invariant-leaves l = record {
  is_link : IsLinkOf l.store l.link;
  parts : l.count + length (entries_after l.store l.link) ≡ length (map_of l.store);
}

-- fewer pages follow each time
abbrev pub decreases-leaves : goal.decreases-leaves
decreases-leaves l = length (cells_of l.store l.link)
