use Rattle.std.proofs.Common.{ℕ, ◌<◌}
use Rattle.blink_batch.specs.Cut.{IsSplitKey}
use Rattle.blink_batch.specs.LastPlaces.{AreLastPlaces}
use Rattle.blink_batch.proofs.cut.first_split_key.Given as goal

-- no key so far is split, and each place so far is recorded
abbrev pub invariant-loop-place : goal.invariant-loop-place
invariant-loop-place l = record {
  whole : (other : ℕ) → other < l.place → ¬ IsSplitKey l.ops l.lanes other;
  recorded : AreLastPlaces l.ops l.place l.places;
}
