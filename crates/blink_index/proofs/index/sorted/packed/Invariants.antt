use Rattle.std.proofs.Common.{◌≡◌, take}
use Rattle.blink_rest.specs.{pairs_of}
use Rattle.blink_entries.specs.{AreLeaves, entries_in}
use Rattle.blink_index.proofs.index.sorted.packed.Given as goal

-- so many entries stand in the leaves
abbrev pub invariant-loop-entry : goal.invariant-loop-entry
invariant-loop-entry l = record {
  leaves : AreLeaves l.fan l.pages.items;
  so_far : entries_in l.pages.items ≡ pairs_of (take l.entry-index l.entries);
}
