use Rattle.std.proofs.Common.{◌≡◌, List, drop, length}
use Rattle.std.specs.Mem.Slots.{slots_items}
use Rattle.blink_rest.specs.{Pages, AreLevels}
use Rattle.blink_rest.specs.Chain.{Cell}
use Rattle.blink_live.specs.Words.{KeepsPages}
use Rattle.blink_live.proofs.gathered.LevelsAreAdded.{LevelsLeft}
use Rattle.blink_live.proofs.close.gather.Given as goal

-- with the levels from this one up, all would be added
abbrev pub invariant-loop-level : goal.invariant-loop-level
invariant-loop-level l = record {
  same_fan : l.store.fan ≡ l.fan;
  one_each : length l.firsts ≡ l.level;
  left : (pages : Pages) (levels : List (List Cell)) → KeepsPages l.counts (slots_items l.closed.words) pages → AreLevels l.fan l.prime pages levels
      → LevelsLeft l.counts (slots_items l.closed.words) l.fan pages (drop l.level l.prime) l.level l.child l.store.pages l.firsts levels;
}
