use Rattle.std.proofs.Common.{◌≡◌, ◌≤◌, ◌%◌, length, map, take, vec_capacity}
use Rattle.blink_operation.specs.Operation.{key_of}
use Rattle.blink_batch.proofs.cut.Cut.by_residue.Given as goal

-- each operation so far has its lane, and there is room for all
abbrev pub invariant-loop-op : goal.invariant-loop-op
invariant-loop-op l = record {
  cut : l.lanes.items ≡ map (λ op. key_of op % l.workers) (take l.op-index l.op-items);
  room : length l.op-items ≤ vec_capacity l.lanes;
}
