use Rattle.std.proofs.Common.{◌∙◌, subst}
use Rattle.std.proofs.lemmas.Slice.Zip.{AllZip-long}
use Rattle.blink_run.specs.declared.live.lane.LaneRun.{LaneRun}
use Rattle.blink_run.specs.declared.live.threads.RunsLane.{RunsLane}
use Rattle.blink_run.specs.Lanes.{HasRun, lane_ops}
use Rattle.blink_locked.proofs.Offered.{each_paired}
use Rattle.blink_run.proofs.live.threads.fn.run_all.scope.Goals as goal

-- all workers have been started, and each lane has run
pub returns : goal.returns
returns g c = record {
  ended = record {
    as_many = AllZip-long _ _ _ c.join_into.ensures ∙ c.in_ok-start_all.ensures.all;
    each = each_paired (λ handle (run : LaneRun). HasRun handle.promise.live_run.live.now (lane_ops handle.promise.live_run.batch.now handle.promise.live_run.cut.now.lanes handle.promise.worker) run)
        (λ worker run. HasRun c.captures.live.now (lane_ops c.captures.batch.now c.captures.cut.now.lanes worker) run) c.start_all.new.handles.items c.join_into.result.items c.join_into.ensures
        (λ worker handle at run kept. subst (λ (promise : RunsLane). HasRun promise.live_run.live.now (lane_ops promise.live_run.batch.now promise.live_run.cut.now.lanes promise.worker) run) (c.in_ok-start_all.ensures.its_own worker handle at) kept);
  };
  refused = tt;
}
