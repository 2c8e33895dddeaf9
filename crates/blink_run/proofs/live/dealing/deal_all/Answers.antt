-- The next lane's keys are free and its changes allowed, so it is dealt; when all are, the keeper has dealt them all.
use Rattle.std.proofs.Common.{◌≡◌, ℕ, List, length, subst, sym, ap, ◌∙◌, arith}
use Rattle.std.specs.List.{slice_get}
use Rattle.std.proofs.lemmas.Option.{none-some}
use Rattle.blink_run.specs.declared.live.lane.LaneRun.{LaneRun}
use Rattle.blink_run.specs.Lanes.{HasDealtBefore, MayRun, lane_ops}
use Rattle.blink_locked.proofs.Offered.{each_more}
use Rattle.blink_run.proofs.LanesAreDealt.{dealt_all, dealt_none}
use Rattle.blink_run.proofs.live.dealing.deal_all.Goals as goal

pub loop-worker-init : goal.loop-worker-init
loop-worker-init c = record {
  dealt = dealt_none c.args.live_run.live.now c.args.live_run.batch.now c.args.live_run.cut.now.lanes c.args.keeper.now c.requires.cut.a_lane_each c.requires.keeper;
  as_many = c.in_ok-runs.ensures.len;
  each = λ worker run is. absurd (none-some run (ap (λ (runs : List LaneRun). slice_get runs worker) (sym c.in_ok-runs.ensures.items) ∙ is));
  room = omega (arith, c.in_ok-runs.ensures.capacity);
}

pub loop-worker-preserved : goal.loop-worker-preserved
loop-worker-preserved c =
    let so_far = c.loop-worker.invariant in
    let run = c.in_ok-deal_lane.field-0 in
    let MayRunLane : ℕ → LaneRun → Type 0 = λ worker run. MayRun c.args.live_run.live.now (lane_ops c.args.live_run.batch.now c.args.live_run.cut.now.lanes worker) run in
    let next : c.loop-worker.worker ≡ length c.loop-worker.runs.items = omega arith in
    record {
      dealt = c.in_ok-deal_lane.ensures.dealt;
      as_many = omega arith;
      each = λ worker is_run is. each_more MayRunLane c.loop-worker.runs.items run so_far.each (subst (λ (n : ℕ). MayRunLane n run) next c.in_ok-deal_lane.ensures.run) worker is_run (ap (λ (runs : List LaneRun). slice_get runs worker) (sym c.push_reserved.ensures.items) ∙ is);
      room = omega arith;
    }

pub returns-clause-keeper : goal.returns-clause-keeper
returns-clause-keeper c = dealt_all c.args.live_run.live.now c.args.live_run.batch.now c.args.live_run.cut.now.lanes c.args.live_run.cut.now.workers c.loop-worker.keeper
    (subst (λ (n : ℕ). HasDealtBefore c.args.live_run.live.now c.args.live_run.batch.now c.args.live_run.cut.now.lanes n c.loop-worker.keeper) (omega arith) c.loop-worker.invariant.dealt)
