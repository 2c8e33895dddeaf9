-- Idle workers, waiting workers, the picked worker, and runs that go on by picked turns alone.
use Rattle.std.specs.Prelude.{◌≡◌, ℕ, ◌-◌, ◌*◌, ◌<◌, Option, Some, List, ◌++◌, length, map, reverse, slice_get, sum}
use Rattle.blink_page.specs.declared.limits.TheConstants.{MAX_PAGE}
use Rattle.blink_machine.specs.declared.step.Step.TheVariants.{Waited}
use Rattle.blink_steps.specs.Acts.{Acts}
use Rattle.blink_machine.specs.{PlainMachine}
use Rattle.blink_steps.specs.Run.{PlainRun, Event, IsHistory, IsNextOf, idle_seat}
use Rattle.blink_steps.specs.StepBounds.{steps_at_most_with}
use Rattle.blink_steps.specs.World.{PlainWorld, IsAtLanesEnd, OnEachTurn}

-- the worker has no operation that is begun and not ended
pub record IsIdleWorker (run : PlainRun) (worker : ℕ) : Type 0 where
  pub next : Option ℕ
  pub seated : slice_get run.seats worker ≡ Some (idle_seat next)

-- the next step of the worker's operation would be a wait
pub record WouldWait (run : PlainRun) (worker : ℕ) : Type 0 where
  pub place : ℕ
  pub m : PlainMachine
  pub next : Option ℕ
  pub is_next : IsNextOf run worker place m next
  pub waits : Acts run.shared worker m Waited m run.shared

-- the worker's next turn would be a step: the worker doesn't wait, and its lane isn't at its end
pub record WouldMove (run : PlainRun) (worker : ℕ) : Type 0 where
  pub not_waiting : ¬ WouldWait run worker
  pub not_at_end : ¬ IsAtLanesEnd run worker

-- the worker would move, and no smaller worker would
pub record IsFirstMover (run : PlainRun) (worker : ℕ) : Type 0 where
  pub a_worker : worker < run.assignment.workers
  pub would_move : WouldMove run worker
  pub none_before : (other : ℕ) → other < worker → ¬ WouldMove run other

-- turns that the schedule records lead from one world to another, each of them the first mover's
pub record GoesOnPicked (old new : PlainWorld) : Type 0 where
  -- the last turn first
  pub turns : List Event
  pub follows : IsHistory old.run turns new.run
  pub picked : OnEachTurn (λ (before : PlainRun) (taken : Event) (after : PlainRun). IsFirstMover before taken.worker) old.run turns new.run follows
  pub told : new.schedule ≡ old.schedule ++ reverse (map (λ (taken : Event). taken.worker) turns)

-- the run's operations together take no more steps than this, however many pages the tree has
abbrev pub steps_at_most : PlainRun → ℕ
steps_at_most run = length run.ops * steps_at_most_with MAX_PAGE

-- so no more steps than this are left
abbrev pub steps_left : PlainRun → ℕ
steps_left run = steps_at_most run - sum run.outcome.moves
