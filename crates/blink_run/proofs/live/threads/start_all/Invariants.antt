-- The threads started so far are those of the first workers, and each of the other workers has its run among those left.
use Rattle.std.proofs.Common.{◌≡◌, ◌+◌, ◌≤◌, length, vec_capacity}
use Rattle.std.specs.Vec.Iter.{into_iter_items, into_iter_len}
use Rattle.blink_run.specs.Lanes.{MayRun, lane_ops, promise_of}
use Rattle.blink_locked.specs.{AtEach}
use Rattle.blink_run.proofs.live.threads.start_all.Given as goal

abbrev pub invariant-loop-run : goal.invariant-loop-run
invariant-loop-run g l = record {
  all_workers : length l.handles.items + into_iter_len l.run-iterator ≡ l.live_run.cut.now.workers;
  room : l.live_run.cut.now.workers ≤ vec_capacity l.handles;
  its_own : AtEach (λ worker handle. handle.promise ≡ promise_of l.live_run worker) l.handles.items;
  may : AtEach (λ place run. MayRun l.live_run.live.now (lane_ops l.live_run.batch.now l.live_run.cut.now.lanes (length l.handles.items + place)) run) (into_iter_items l.run-iterator);
}
