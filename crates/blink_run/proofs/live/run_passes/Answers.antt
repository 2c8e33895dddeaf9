use Rattle.std.proofs.Common.{List, subst}
use Rattle.blink_run.specs.declared.live.lane.LaneRun.{LaneRun}
use Rattle.blink_run.specs.Lanes.{AreGathered}
use Rattle.blink_run.proofs.LanesTogether.{whole_lanes}
use Rattle.blink_run.proofs.live.run_passes.Goals as goal

pub answers_by_place-requires-clause-whole : goal.answers_by_place-requires-clause-whole
answers_by_place-requires-clause-whole g c = rw c.deref.ensures.value (whole_lanes c.args.live_run.live.now c.args.live_run.batch.now c.args.live_run.cut.now.workers c.args.live_run.cut.now.lanes c.in_ok-ended.ended.items c.requires.cut c.in_ok-ended.ensures.ended)

pub returns-in-Ok-passes_of-clause-run : goal.returns-in-Ok-passes_of-clause-run
returns-in-Ok-passes_of-clause-run g c = record {
  runs = c.in_ok-ended.ended.items;
  have_run = c.in_ok-ended.ensures.ended;
  its_passes = c.in-Ok-passes_of.ensures;
  gathered = subst (λ (runs : List LaneRun). AreGathered c.args.live_run.cut.now.lanes runs c.in-Ok-answers_by_place.answers.items) c.deref.ensures.value c.in-Ok-answers_by_place.ensures;
}
