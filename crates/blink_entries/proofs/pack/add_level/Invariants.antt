use Rattle.std.proofs.Common.{◌-◌}
use Rattle.blink_entries.proofs.packed.LevelsGrow.{LevelSoFar}
use Rattle.blink_entries.proofs.pack.add_level.Given as goal

-- the level so far
abbrev pub invariant-groups : goal.invariant-groups
invariant-groups l = record {
  so_far : LevelSoFar l.fan l.level l.first l.fn.pages.items l.pages.items l.begin;
}

abbrev pub decreases-groups : goal.decreases-groups
decreases-groups l = l.end - l.begin
