-- The deletions so far are counted.
use Rattle.std.proofs.Common.{◌≡◌, count_by, take}
use Rattle.blink_run.specs.Lanes.{uses_deletion}
use Rattle.blink_run.proofs.live.allowance_of.Given as goal

abbrev pub invariant-loop-op : goal.invariant-loop-op
invariant-loop-op l = record {
  counted : l.deletes ≡ count_by uses_deletion (take l.op-index l.op-items);
}
