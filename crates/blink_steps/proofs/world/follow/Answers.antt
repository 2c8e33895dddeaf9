use Rattle.std.proofs.Common.{◌≡◌, ◌<◌, All, ℕ, List, length, take, get_or, ap, subst, sym, ◌∙◌, arith}
use Rattle.std.proofs.lemmas.List.{take_all, take_more}
use Rattle.std.proofs.lemmas.Result.{err_from_is_err_and}
use Rattle.blink_batch.specs.{Assignment}
use Rattle.blink_steps.specs.World.{IsReplay, IsScheduleRefusal, IsStepRefusal}
use Rattle.blink_steps.proofs.worlds.WorldsGoFurther.{schedule_refusal, replays_further, workers_more}
use Rattle.blink_steps.proofs.world.follow.Goals as goal

-- who took a step is a worker
is_worker : (c : goal.In_ok-step) → get_or c.args.schedule.now c.loop-worker.worker-index 0 < c.args.world.now.run.assignment.workers
is_worker c =
    let below = c.in_ok-step.ensures.worker in
    let same = ap (λ (a : Assignment). a.workers) c.loop-worker.invariant.same_assignment in
    omega arith

pub loop-worker-preserved : goal.loop-worker-preserved
loop-worker-preserved c =
    let kept = c.loop-worker.invariant in
    let index = c.loop-worker.worker-index in
    let within : index < length c.args.schedule.now = omega (arith, c.loop-worker-test.true) in
    record {
      follows = λ start ops assignment begun. subst (λ (prefix : List ℕ). IsReplay start ops assignment prefix c.step.new.self) (sym (take_more c.args.schedule.now index 0 within))
          (replays_further start ops assignment (take index c.args.schedule.now) c.loop-worker.world c.step.new.self (get_or c.args.schedule.now index 0) c.in_ok-step.field-0 (kept.follows start ops assignment begun) c.in_ok-step.ensures.step);
      workers = workers_more c.args.world.now.run.assignment.workers c.args.schedule.now index within kept.workers (is_worker c);
      same_assignment = c.step.ensures.same_batch.same_assignment ∙ kept.same_assignment;
    }

pub returns-clause-world : goal.returns-clause-world
returns-clause-world c start ops assignment begun =
    let all : take c.loop-worker.worker-index c.args.schedule.now ≡ c.args.schedule.now = take_all c.loop-worker.worker-index c.args.schedule.now (omega arith) in
    subst (λ (prefix : List ℕ). IsReplay start ops assignment prefix c.loop-worker.world) all (c.loop-worker.invariant.follows start ops assignment begun)

pub returns-clause-workers : goal.returns-clause-workers
returns-clause-workers c =
    let all : take c.loop-worker.worker-index c.args.schedule.now ≡ c.args.schedule.now = take_all c.loop-worker.worker-index c.args.schedule.now (omega arith) in
    subst (All (λ worker. worker < c.args.world.now.run.assignment.workers)) all c.loop-worker.invariant.workers

pub returns-in_err-step-clause-refused : goal.returns-in_err-step-clause-refused
returns-in_err-step-clause-refused c =
    let workers = c.args.world.now.run.assignment.workers in
    let index = c.loop-worker.worker-index in
    let refused = subst (λ (a : Assignment). IsStepRefusal a.workers (get_or c.args.schedule.now index 0) c.in_err-step.field-0.0) c.loop-worker.invariant.same_assignment c.in_err-step.ensures.refused in
    let told = err_from_is_err_and c.from_residual.result c.from_residual.ensures.1 in
    rw told.1 (subst (IsScheduleRefusal workers c.args.schedule.now) (sym told.2)
    (schedule_refusal workers c.args.schedule.now index c.in_err-step.field-0.0 (omega (arith, c.loop-worker-test.true)) c.loop-worker.invariant.workers refused))
