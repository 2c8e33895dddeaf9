-- The threads started so far are those of the first workers.
use Rattle.std.proofs.Common.{◌≡◌, ◌≤◌, length, vec_capacity}
use Rattle.blink_locked.specs.Starts.{AtEach}
use Rattle.blink_locked.proofs.run.start_all.Given as goal

abbrev pub invariant-loop-worker : goal.invariant-loop-worker
invariant-loop-worker g l = record {
  as_many : length l.handles.items ≡ l.worker;
  room : l.cut.workers ≤ vec_capacity l.handles;
  its_own : AtEach (λ worker handle. handle.promise.worker ≡ worker) l.handles.items;
}
