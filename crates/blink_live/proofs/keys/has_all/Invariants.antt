use Rattle.std.proofs.Common.{ℕ, ◌<◌, ◌≤◌, length}
use Rattle.std.specs.Prelude.{Contains, slice_index}
use Rattle.blink_live.proofs.keys.has_all.Given as goal

abbrev pub invariant-loop-place : goal.invariant-loop-place
invariant-loop-place l = record {
  found : (n : ℕ) → n < l.place → Contains l.own (slice_index l.keys n);
  inside : l.next ≤ length l.own;
}
