use Rattle.std.proofs.Common.{◌-◌, length}
use Rattle.blink_entries.specs.Packing.{entries_in}
use Rattle.blink_entries.proofs.packed.TreeIsBuilt.{IsUnderWay}
use Rattle.blink_entries.proofs.pack.add_levels.Given as goal

-- the levels so far
abbrev pub invariant-levels : goal.invariant-levels
invariant-levels l = record {
  so_far : IsUnderWay l.fan l.prime l.pages.items (entries_in l.fn.pages.items) (length l.fn.pages.items) l.level l.first;
}

-- each level has fewer pages than the one below
abbrev pub decreases-levels : goal.decreases-levels
decreases-levels l = length l.pages.items - l.first
