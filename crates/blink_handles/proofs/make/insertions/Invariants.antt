-- The insertions so far are those of the first entries, and there is room for the rest.
use Rattle.std.proofs.Common.{◌≡◌, ◌≤◌, length, map, take, vec_len, vec_capacity}
use Rattle.blink_handles.specs.Raw.{insertion_of}
use Rattle.blink_handles.proofs.make.insertions.Given as goal

abbrev pub invariant-loop-entry : goal.invariant-loop-entry
invariant-loop-entry l = record {
  first_insertions : l.ops.items ≡ map insertion_of (take l.entry-index l.entries);
  room : length l.entries ≤ vec_capacity l.ops;
  as_many : vec_len l.ops ≡ l.entry-index;
}
