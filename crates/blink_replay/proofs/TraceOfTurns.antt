-- A world's trace, turn by turn.
use Rattle.std.proofs.Common.{◌≡◌, ◌<◌, ℕ, List, [], ◌∷◌, ◌++◌, refl, ap, sym, ◌∙◌, append_assoc, reverse, arith}
use Rattle.std.proofs.lemmas.Grind.{flat_map-append}
use Rattle.std.proofs.lemmas.List.{append-nil, reverse-append}
use Rattle.std.specs.List.{flat_map}
use Rattle.blink_store.specs.{PlainStore}
use Rattle.blink_machine.specs.declared.Step.{Step}
use Rattle.blink_steps.specs.declared.StepError.{StepError}
use Rattle.blink_steps.specs.declared.StepError.TheVariants as step
use Rattle.blink_steps.specs.{Event, PlainWorld, GoesOnBy, IsStepRefusal, IsWorldOf, SameBatch, TakesStep}
use Rattle.blink_replay.specs.Replay.{HasTurnsMore, IsTraced}
use Rattle.blink_replay.specs.Trace.{trace_of, turn_line}

-- where no turn is taken nothing is told
pub no_turn : (world : PlainWorld) → IsTraced world [] world []
no_turn world = record {
  told = sym (append-nil world.schedule);
  same_batch = record { same_ops = refl; same_assignment = refl };
  goes_on = λ start is_world. record { turns = []; now = is_world; more = refl; traced = refl };
}

-- one turn more is one line more
trace_of-cons : (taken : Event) (turns : List Event) → trace_of (taken ∷ turns) ≡ trace_of turns ++ turn_line taken.worker taken.step
trace_of-cons taken turns =
    let line : Event → List ℕ = λ t. turn_line t.worker t.step in
    ap (λ (ts : List Event). flat_map line ts) (reverse-append (taken ∷ []) turns)
    ∙ flat_map-append line (reverse turns) (taken ∷ [])
    ∙ ap (λ (line : List ℕ). trace_of turns ++ line) (append-nil (turn_line taken.worker taken.step))

module _ (old world new : PlainWorld) (schedule : List ℕ) (trace : List ℕ) (so_far : IsTraced old schedule world trace) (worker : ℕ) (step : Step) where
  pub one_turn : TakesStep world worker step new → GoesOnBy world worker step new → SameBatch world.run new.run → IsTraced old (schedule ++ worker ∷ []) new (trace ++ turn_line worker step)
  one_turn takes goes same = record {
    told = takes.told ∙ ap (λ (told : List ℕ). told ++ worker ∷ []) so_far.told ∙ append_assoc old.schedule schedule (worker ∷ []);
    same_batch = record { same_ops = same.same_ops ∙ so_far.same_batch.same_ops; same_assignment = same.same_assignment ∙ so_far.same_batch.same_assignment };
    goes_on = λ start is_world. turn_more start is_world (so_far.goes_on start is_world);
  }
    where
      turn_more : (start : PlainStore) (is_world : IsWorldOf start old) → HasTurnsMore start old is_world world trace → HasTurnsMore start old is_world new (trace ++ turn_line worker step)
      turn_more start is_world before =
          let more = goes start before.now in
          let line : turn_line more.taken.worker more.taken.step ≡ turn_line worker step = rw (more.same_worker, more.same_step) refl in
          record {
            turns = more.taken ∷ before.turns;
            now = more.now;
            more = more.one_more ∙ ap (λ (history : List Event). more.taken ∷ history) before.more;
            traced = rw before.traced (rw (← line) (sym (trace_of-cons more.taken before.turns)));
          }

-- nothing but memory is refused to a worker
pub only_memory : (workers worker : ℕ) (error : StepError) → worker < workers → IsStepRefusal workers worker error → error ≡ step.OutOfMemory
only_memory workers worker step.OutOfMemory below refusal = refl
only_memory workers worker (step.NoWorker number) below refusal = absurd (omega (arith, refusal.1))
only_memory workers worker step.TooLarge below refusal = absurd refusal
