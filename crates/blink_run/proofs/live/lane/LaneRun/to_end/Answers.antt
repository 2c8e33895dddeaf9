use Rattle.std.proofs.Common.{◌≡◌, List, [], ◌∷◌, ◌++◌, get_or, length, ap, subst, arith}
use Rattle.blink_batch.specs.declared.Op.{Op}
use Rattle.blink_batch.specs.declared.Op.TheVariants.{Find}
use Rattle.blink_batch.specs.{answer_of}
use Rattle.blink_live.specs.{share_of}
use Rattle.blink_run.specs.Lanes.{IsPassAfter}
use Rattle.blink_run.proofs.LaneRuns.{can_run_here, ended_here, one_done_here, other_here}
use Rattle.blink_run.proofs.live.lane.LaneRun.to_end.Goals.{then-lanes-place, else-lanes-place}
use Rattle.blink_run.proofs.live.lane.LaneRun.to_end.Goals as goal

pub run-requires : goal.run-requires
run-requires g c = record {
  can = rw c.ops-ops.ensures.ops (can_run_here c.args.live_run.live.now c.args.live_run.batch.now c.args.live_run.cut.now.lanes c.args.worker c.loop-place.place c.args.self c.loop-place.self c.requires.a_lane_each (rw c.lanes-lanes.ensures.lanes at c.loop-place-test.true) (rw c.lanes-lanes.ensures.lanes at c.if-lanes-place.true) c.requires.may c.loop-place.invariant.done);
}

pub loop-place-preserved : goal.loop-place-preserved
loop-place-preserved g c = record {
  done = elim c.if-lanes-place.branch [
    | then-lanes-place w ↦
        let here = get_or c.args.live_run.batch.now c.loop-place.place (Find 0) in
        let op : get_or c.ops-ops.result.now c.loop-place.place (Find 0) ≡ here = ap (λ (ops : List Op). get_or ops c.loop-place.place (Find 0)) c.ops-ops.ensures.ops in
        rw w.self-is (one_done_here c.args.live_run.live.now c.args.live_run.batch.now c.args.live_run.cut.now.lanes c.args.worker c.loop-place.place c.args.self c.loop-place.self c.requires.a_lane_each (rw c.lanes-lanes.ensures.lanes at c.loop-place-test.true) (rw c.lanes-lanes.ensures.lanes at w.if-lanes-place.true) c.loop-place.invariant.done w.run.new.self
        (subst (λ (op : Op). IsPassAfter c.args.live_run.live.now op c.loop-place.self.pass w.run.new.self.pass) op w.run.ensures.pass)
        (subst (λ (op : Op). w.run.new.self.answers.items ≡ c.loop-place.self.answers.items ++ answer_of (share_of c.loop-place.self.pass) op ∷ []) op w.run.ensures.answers)
        w.run.ensures.capacity)
    | else-lanes-place w ↦ rw w.self-is (other_here c.args.live_run.live.now c.args.live_run.batch.now c.args.live_run.cut.now.lanes c.args.worker c.loop-place.place c.args.self c.loop-place.self c.requires.a_lane_each (rw c.lanes-lanes.ensures.lanes at c.loop-place-test.true) (rw c.lanes-lanes.ensures.lanes at w.if-lanes-place.false) c.loop-place.invariant.done)
  ];
}

pub returns : goal.returns
returns g c = ended_here c.args.live_run.live.now c.args.live_run.batch.now c.args.live_run.cut.now.lanes c.args.worker c.loop-place.place c.args.self c.loop-place.self (let long = ap length c.lanes-lanes.ensures.lanes in omega arith) c.requires.may c.loop-place.invariant.done
