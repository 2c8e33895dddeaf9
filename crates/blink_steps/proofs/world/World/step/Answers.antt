use Rattle.std.proofs.Common.{◌≡◌, ◌↔◌, ◌<◌, ◌≤◌, ◌++◌, ℕ, List, [], ◌∷◌, Result, Ok, Err, refl, ap, subst, ◌∙◌, arith}
use Rattle.blink_batch.specs.declared.step_error.StepError.{StepError}
use Rattle.blink_batch.specs.declared.step_error.StepError.TheVariants.{OutOfMemory, NoWorker}
use Rattle.blink_machine.specs.declared.step.Step.{Step}
use Rattle.blink_steps.specs.World.{PlainWorld, TakesStep}
use Rattle.blink_steps.proofs.worlds.WorldsGoOn.{would_move_moves, would_wait_waits}
use Rattle.blink_steps.proofs.worlds.WorldsGoFurther.{goes_further, has_turn_more, same_batch}
use Rattle.blink_steps.proofs.worlds.WorldPromises.{promises, can_take_turn}
use Rattle.blink_steps.proofs.world.World.step.Goals as goal

-- a worker that is one is not refused as none
is_one : (workers worker told : ℕ) (result : Result Step StepError) → told ≡ workers → worker < told → (result ≡ Err (NoWorker worker) → ⊥) → (result ≡ Err (NoWorker worker)) ↔ (workers ≤ worker)
is_one workers worker told result same below other = (λ is. absurd (other is), λ above. absurd (omega arith))

memory_is_other : (worker : ℕ) (result : Result Step StepError) → result ≡ Err OutOfMemory → result ≡ Err (NoWorker worker) → ⊥
memory_is_other worker result memory is = absurd (cc)

step_is_other : (worker : ℕ) (step : Step) (result : Result Step StepError) → result ≡ Ok step → result ≡ Err (NoWorker worker) → ⊥
step_is_other worker step result ok is = absurd (cc)

pub returns-then-worker-workers-clause-no_worker : goal.returns-then-worker-workers-clause-no_worker
returns-then-worker-workers-clause-no_worker c = (λ is. subst (λ (workers : ℕ). workers ≤ c.args.worker) (c.workers.ensures ∙ ap (λ (world : PlainWorld). world.run.assignment.workers) c.self.view_is) c.if-worker-workers.true, λ above. refl)

pub returns-then-is_err-clause-no_worker : goal.returns-then-is_err-clause-no_worker
returns-then-is_err-clause-no_worker c = is_one _ c.args.worker _ _ (c.workers.ensures ∙ ap (λ (world : PlainWorld). world.run.assignment.workers) c.self.view_is) c.if-worker-workers.false (memory_is_other c.args.worker _ refl)

pub returns-clause-no_worker : goal.returns-clause-no_worker
returns-clause-no_worker c = is_one _ c.args.worker _ _ (c.workers.ensures ∙ ap (λ (world : PlainWorld). world.run.assignment.workers) c.self.view_is) c.if-worker-workers.false (step_is_other c.args.worker c.in_ok-step.step _ refl)

pub returns-then-worker-workers-clause-promised : goal.returns-then-worker-workers-clause-promised
returns-then-worker-workers-clause-promised c start is_world = promises start _ is_world

pub returns-then-is_err-clause-promised : goal.returns-then-is_err-clause-promised
returns-then-is_err-clause-promised c start is_world = promises start _ is_world

pub turn-requires : goal.turn-requires
turn-requires c = can_take_turn (record { run = c.self.inside.run; schedule = c.self.inside.schedule.items }) c.self.invariant c.args.worker (omega (arith, c.workers.ensures)) (omega (arith, c.self.inside.schedule.small, c.self.inside.schedule.ok))

pub returns-in_err-step-clause-promised : goal.returns-in_err-step-clause-promised
returns-in_err-step-clause-promised c start is_world = promises start _ is_world

-- the turn, as the schedule tells it
taken : (c : goal.After-push_reserved) → TakesStep (record { run = c.self.inside.run; schedule = c.self.inside.schedule.items }) c.args.worker c.in_ok-step.step (record { run = c.turn.new.self; schedule = c.push_reserved.new.self.items })
taken c =
    let turn = c.in_ok-step.ensures.turn in
    record {
      taken = turn.0;
      same_worker = turn.1;
      same_step = turn.2;
      turn = turn.3;
      told = c.push_reserved.ensures.items ∙ ap (λ (xs : List ℕ). xs ++ c.args.worker ∷ []) c.reserve.ensures.items;
    }

pub invariant_of-self-2 : goal.invariant_of-self-2
invariant_of-self-2 c = (c.self.invariant.0, goes_further c.self.invariant.0 _ _ c.args.worker c.in_ok-step.step c.self.invariant.1 (taken c))

pub returns-clause-step : goal.returns-clause-step
returns-clause-step c = subst (λ (world : PlainWorld). TakesStep world c.args.worker c.in_ok-step.step (record { run = c.turn.new.self; schedule = c.push_reserved.new.self.items })) c.self.view_is (taken c)

pub returns-clause-goes_on : goal.returns-clause-goes_on
returns-clause-goes_on c start is_world = has_turn_more start c.args.self.now _ c.args.worker c.in_ok-step.step is_world (returns-clause-step c)

pub returns-clause-same_batch : goal.returns-clause-same_batch
returns-clause-same_batch c = let takes = returns-clause-step c in same_batch c.args.self.now.run _ takes.taken takes.turn

pub returns-clause-promised : goal.returns-clause-promised
returns-clause-promised c start is_world = promises start _ is_world

pub returns-clause-would_move : goal.returns-clause-would_move
returns-clause-would_move c = would_move_moves c.args.self.now _ c.args.worker c.in_ok-step.step (returns-clause-step c)

pub returns-clause-would_wait : goal.returns-clause-would_wait
returns-clause-would_wait c = would_wait_waits c.args.self.now _ c.args.worker c.in_ok-step.step (returns-clause-step c)
