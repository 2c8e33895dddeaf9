use Rattle.std.proofs.Common.{◌≡◌, ◌<◌, ◌≤◌, ℕ, take, slice_index_or, count_by}
use Rattle.blink_operation.specs.declared.operation.Op.{Op}
use Rattle.blink_operation.specs.Batch.{FitsWords, is_insert}
use Rattle.blink_batch.proofs.batch.Batch.new.Given as goal

-- the operations so far are counted, and their numbers are words
abbrev pub invariant-loop-op : goal.invariant-loop-op
invariant-loop-op l = record {
  counted : l.inserts ≡ count_by is_insert (take l.op-index l.op-items);
  bounded : l.inserts ≤ l.op-index;
  words : (k : ℕ) (d : Op) → k < l.op-index → FitsWords (slice_index_or l.op-items k d);
}
