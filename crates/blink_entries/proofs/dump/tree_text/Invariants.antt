use Rattle.std.proofs.Common.{◌≤◌, length, string_bytes}
use Rattle.blink_entries.proofs.LevelsAsLines.{IsTextDownTo}
use Rattle.blink_entries.proofs.dump.tree_text.Given as goal

-- the levels from this one up are written
abbrev pub invariant-loop-level : goal.invariant-loop-level
invariant-loop-level l = record {
  in_range : l.level ≤ length l.store.prime;
  written : IsTextDownTo l.store l.level (string_bytes l.text);
}

-- one level fewer each time
abbrev pub decreases-loop-level : goal.decreases-loop-level
decreases-loop-level l = l.level
