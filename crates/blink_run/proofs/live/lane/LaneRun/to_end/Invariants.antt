-- The run has done the lane's operations before this place.
use Rattle.blink_run.proofs.LaneRuns.{HasDone}
use Rattle.blink_run.proofs.LaneSoFar.{lane_so_far}
use Rattle.blink_run.proofs.live.lane.LaneRun.to_end.Given as goal

abbrev pub invariant-loop-place : goal.invariant-loop-place
invariant-loop-place g l = record {
  done : HasDone l.live_run.live.now (lane_so_far l.live_run.batch.now l.live_run.cut.now.lanes l.worker l.place) l.fn.self l.self;
}
