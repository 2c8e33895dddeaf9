-- What was counted so far is of the lane's operations among the first places.
use Rattle.std.proofs.Common.{◌≡◌, ◌≤◌, length, map, count_by}
use Rattle.blink_batch.specs.{is_insert, key_of}
use Rattle.blink_run.specs.Lanes.{uses_deletion}
use Rattle.blink_run.proofs.LaneSoFar.{lane_so_far}
use Rattle.blink_run.proofs.live.needs.Needs.of.Given as goal

abbrev pub invariant-loop-place : goal.invariant-loop-place
invariant-loop-place l = record {
  keys : l.keys.items ≡ map key_of (lane_so_far l.ops l.lanes l.worker l.place);
  as_many : l.operations ≡ length (lane_so_far l.ops l.lanes l.worker l.place);
  inserts : l.inserts ≡ count_by is_insert (lane_so_far l.ops l.lanes l.worker l.place);
  deletes : l.deletes ≡ count_by uses_deletion (lane_so_far l.ops l.lanes l.worker l.place);
  few : l.operations ≤ l.place;
  few_inserts : l.inserts ≤ l.place;
  few_deletes : l.deletes ≤ l.place;
}
