use Rattle.std.proofs.Common.{[], ◌∙◌, ◌++◌, ◌<◌, List, ℕ, inl, sym, ap, append_assoc, get_or, subst, string_bytes, arith}
use Rattle.std.proofs.lemmas.List.{append-nil, take_all, take_more}
use Rattle.std.proofs.lemmas.List.Elements.{All-get_or}
use Rattle.std.proofs.lemmas.Result.{err_from_is_err_and}
use Rattle.blink_replay.specs.Replay.{IsTraced}
use Rattle.blink_replay.specs.Trace.{turn_line}
use Rattle.blink_settings.specs.declared.error.ServeError.TheVariants as serve
use Rattle.blink_replay.proofs.TraceOfTurns.{no_turn, one_turn, only_memory}
use Rattle.blink_replay.proofs.trace.trace_steps.Goals as goal

-- no turn is taken yet
pub loop-worker-init : goal.loop-worker-init
loop-worker-init c = ([], no_turn c.args.world.now, sym (append-nil (string_bytes c.args.trace.now)))

-- one turn more is taken and told
pub loop-worker-preserved : goal.loop-worker-preserved
loop-worker-preserved c =
    let so_far = c.loop-worker.invariant in
    let worker = get_or c.args.schedule.now c.loop-worker.worker-index 0 in
    let line = turn_line worker c.in_ok-step.step in
    let traced = one_turn c.args.world.now c.loop-worker.world c.step.new.self _ so_far.0 so_far.1 worker c.in_ok-step.step c.in_ok-step.ensures.step c.in_ok-step.ensures.goes_on c.step.ensures.same_batch in (
      so_far.0 ++ line,
      subst (λ (prefix : List ℕ). IsTraced c.args.world.now prefix c.step.new.self (so_far.0 ++ line)) (sym (take_more c.args.schedule.now c.loop-worker.worker-index 0 (omega (arith, c.loop-worker-test.true)))) traced,
      c.in_ok-push_turn.ensures ∙ ap (λ (told : List ℕ). told ++ line) so_far.2 ∙ append_assoc (string_bytes c.args.trace.now) so_far.0 line,
    )

-- a worker is refused nothing but memory
pub returns-in_err-step-clause-refused : goal.returns-in_err-step-clause-refused
returns-in_err-step-clause-refused c =
    let passed = err_from_is_err_and c.from_residual.result c.from_residual.ensures.1 in
    let same = c.loop-worker.invariant.1.same_batch.same_assignment in
    let below = All-get_or (λ (worker : ℕ). worker < c.args.world.now.run.assignment.workers) c.args.schedule.now c.loop-worker.worker-index 0 (omega (arith, c.loop-worker-test.true)) c.requires in
    rw (passed.1, passed.2) (inl (ap serve.Step (only_memory _ _ _ (rw same below) c.in_err-step.ensures.refused)))

-- all turns are taken
pub returns-clause-traced : goal.returns-clause-traced
returns-clause-traced c =
    let so_far = c.loop-worker.invariant in (
      so_far.0,
      subst (λ (prefix : List ℕ). IsTraced c.args.world.now prefix c.loop-worker.world so_far.0) (take_all c.loop-worker.worker-index c.args.schedule.now (omega (arith, c.loop-worker-test.false))) so_far.1,
      so_far.2,
    )
