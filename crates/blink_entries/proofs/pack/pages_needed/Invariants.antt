use Rattle.std.proofs.Common.{◌+◌, ◌≤◌, ℕ, List, max}
use Rattle.std.specs.List.{sum}
use Rattle.blink_entries.specs.Packed.{NeedsPages}
use Rattle.blink_entries.proofs.packed.FewestPages.{AreAbove}
use Rattle.blink_entries.proofs.pack.pages_needed.Given as goal

-- with the levels above, that is what the tree needs
abbrev pub invariant-loop-level : goal.invariant-loop-level
invariant-loop-level l = record {
  needs : (above : List ℕ) → AreAbove l.fan l.level above → NeedsPages l.fan l.count (l.all + sum above);
  some : 1 ≤ l.level;
  bounded : l.all + l.level ≤ max l.count 2;
}

abbrev pub decreases-loop-level : goal.decreases-loop-level
decreases-loop-level l = l.level
