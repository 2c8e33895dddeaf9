use Rattle.std.proofs.Common.{◌≡◌, ◌≤◌, length, take, vec_capacity}
use Rattle.blink_batch.specs.Ranges.{lanes_by_ranges}
use Rattle.blink_batch.proofs.cut.Cut.by_ranges.Given as goal

-- each operation so far has its lane, and there is room for all
abbrev pub invariant-loop-op : goal.invariant-loop-op
invariant-loop-op l = record {
  cut : l.lanes.items ≡ lanes_by_ranges l.bounds (take l.op-index l.op-items);
  room : length l.op-items ≤ vec_capacity l.lanes;
}
