use Rattle.std.proofs.Common.{ℕ, ◌<◌, ◌≤◌, length}
use Rattle.std.specs.Prelude.{slice_index}
use Rattle.std.proofs.lemmas.List.Filters.{FiltersInPlace}
use Rattle.blink_live.proofs.retired.KeysWithout.{keeps}
use Rattle.blink_live.proofs.keys.keep_others.Given as goal

abbrev pub invariant-loop-place : goal.invariant-loop-place
invariant-loop-place l = record {
  filters : FiltersInPlace (keeps l.keys) l.initial.from l.from l.kept l.place;
  inside : l.next ≤ length l.keys;
  passed : (n : ℕ) → n < l.next → (m : ℕ) → l.place ≤ m → m < length l.initial.from → slice_index l.keys n < slice_index l.initial.from m;
}
