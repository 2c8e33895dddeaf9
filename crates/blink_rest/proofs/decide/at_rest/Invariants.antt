use Rattle.std.proofs.Common.{◌+◌, ◌≤◌, length}
use Rattle.blink_store.specs.{page_of}
use Rattle.blink_rest.proofs.WalkDownLevels.{LevelsFrom}
use Rattle.blink_rest.proofs.decide.at_rest.Given as goal

-- the levels from this one on are as in a tree at rest
abbrev pub invariant-loop-level : goal.invariant-loop-level
invariant-loop-level l = record {
  in_range : l.level + 1 ≤ length l.store.prime;
  levels : LevelsFrom l.store.fan (page_of l.store) l.store.prime l.level l.count;
}

abbrev pub decreases-loop-level : goal.decreases-loop-level
decreases-loop-level l = l.level
