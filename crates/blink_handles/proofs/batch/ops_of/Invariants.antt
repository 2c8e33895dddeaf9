-- The operations so far are those of the first numbers, and there is room for the rest.
use Rattle.std.proofs.Common.{◌≡◌, ◌≤◌, Some, length, map, take, vec_len, vec_capacity}
use Rattle.blink_handles.specs.Raw.{op_of}
use Rattle.blink_handles.proofs.batch.ops_of.Given as goal

abbrev pub invariant-loop-operation : goal.invariant-loop-operation
invariant-loop-operation l = record {
  first_operations : map op_of (take l.operation-index l.operations) ≡ map Some l.ops.items;
  room : length l.operations ≤ vec_capacity l.ops;
  as_many : vec_len l.ops ≡ l.operation-index;
}
