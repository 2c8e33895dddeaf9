use Rattle.std.proofs.Common.{ℕ, ◌-◌, ◌<◌, ◌≤◌, length}
use Rattle.std.specs.Prelude.{slice_index}
use Rattle.blink_live.proofs.keys.reach.Given as goal

abbrev pub invariant-loop-place : goal.invariant-loop-place
invariant-loop-place l = record {
  low : l.next ≤ l.place;
  high : l.place ≤ length l.keys;
  below : (n : ℕ) → l.next ≤ n → n < l.place → slice_index l.keys n < l.key;
}

abbrev pub decreases-loop-place : goal.decreases-loop-place
decreases-loop-place l = length l.keys - l.place
