-- Each lane so far has its run, and the keeper has dealt these lanes and has enough left for the others.
use Rattle.std.proofs.Common.{◌≡◌, ◌≤◌, ℕ, Some, vec_len, vec_capacity}
use Rattle.std.specs.List.{slice_get}
use Rattle.blink_run.specs.declared.live.lane.LaneRun.{LaneRun}
use Rattle.blink_run.specs.Lanes.{HasDealtBefore, MayRun, lane_ops}
use Rattle.blink_run.proofs.live.dealing.deal_all.Given as goal

abbrev pub invariant-loop-worker : goal.invariant-loop-worker
invariant-loop-worker l = record {
  dealt : HasDealtBefore l.live_run.live.now l.live_run.batch.now l.live_run.cut.now.lanes l.worker l.keeper;
  as_many : vec_len l.runs ≡ l.worker;
  each : (worker : ℕ) (run : LaneRun) → slice_get l.runs.items worker ≡ Some run → MayRun l.live_run.live.now (lane_ops l.live_run.batch.now l.live_run.cut.now.lanes worker) run;
  room : l.live_run.cut.now.workers ≤ vec_capacity l.runs;
}
