use Rattle.std.proofs.Common.{◌≡◌, length}
use Rattle.blink_entries.specs.Index.{cells_of}
use Rattle.blink_entries.specs.Scan.{IsLinkOf, entries_after}
use Rattle.blink_entries.proofs.scan.next_leaf.Given as goal

-- the pages passed so far have no entry
abbrev pub invariant-loop-link : goal.invariant-loop-link
invariant-loop-link l = record {
  is_link : IsLinkOf l.store l.link;
  same_entries : entries_after l.store l.fn.from ≡ entries_after l.store l.link;
}

-- fewer pages follow each time
abbrev pub decreases-loop-link : goal.decreases-loop-link
decreases-loop-link l = length (cells_of l.store l.link)
