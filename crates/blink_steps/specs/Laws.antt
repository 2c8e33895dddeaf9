-- Laws of turns, for any run.
use Rattle.std.specs.Prelude.{◌≡◌, ◌≢◌, ◌↔◌, ℕ, ◌+◌, Option, [], ◌∷◌, ◌++◌, length}
use Rattle.blink_store.specs.{PlainStore}
use Rattle.blink_machine.specs.declared.step.Step.{Step}
use Rattle.blink_machine.specs.declared.step.Step.TheVariants.{Moved, Idle}
use Rattle.blink_machine.specs.{write_page, PlainMachine, NeedsNew, IsItsOperation, Steps}
use Rattle.blink_machine.specs.TreeState.{TreeState}
use Rattle.blink_machine.specs.Invariant.{Invariant}
use Rattle.blink_steps.specs.Run.{PlainRun, Event, AppliesEvent, IsNextOf, idle_seat, tree_state_of}
use Rattle.blink_steps.specs.World.{PlainWorld, IsWorld}

-- ---- turns and steps

-- a new page gets the number after the last
abbrev pub TakesNextNumber : PlainStore → PlainMachine → Step → Type 0
TakesNextNumber store m step = NeedsNew m → step ≡ Moved (write_page (length store.pages + 1))

-- the turn is an atomic step of the worker's operation, between the tree states before and after it
pub record IsStepOfTreeStates (old : PlainRun) (taken : Event) (new : PlainRun) : Type 0 where
  pub its : IsItsOperation (tree_state_of old) taken.worker taken.before
  pub steps : Steps (tree_state_of old) taken.worker taken.before taken.step taken.after (tree_state_of new)
  pub next_number : TakesNextNumber old.shared.store taken.before taken.step

-- each turn that moves or waits is such a step
abbrev pub TurnsAreSteps : Type 0
TurnsAreSteps = (old new : PlainRun) (taken : Event) → AppliesEvent old taken new → taken.step ≢ Idle → IsStepOfTreeStates old taken new

-- the turn that takes a step of the operation at this place
abbrev pub turn_of : ℕ → ℕ → PlainMachine → Step → PlainMachine → Event
turn_of worker place m step after = record { worker = worker; step = step; place = place; before = m; after = after }

-- a turn that leads to this tree state
pub record HasTurnTo (old : PlainRun) (taken : Event) (then : TreeState) : Type 0 where
  pub new : PlainRun
  pub turn : AppliesEvent old taken new
  pub same_tree_state : tree_state_of new ≡ then

-- each such step of a world's operation, with that number for a new page, is a turn
abbrev pub StepsAreTurns : Type 0
StepsAreTurns = (world : PlainWorld) (worker place : ℕ) (m after : PlainMachine) (next : Option ℕ) (step : Step) (then : TreeState) → IsWorld world
    → IsNextOf world.run worker place m next → Steps (tree_state_of world.run) worker m step after then
    → TakesNextNumber world.run.shared.store m step → HasTurnTo world.run (turn_of worker place m step after) then

-- ---- idle workers

-- the run with one more worker, who is idle
abbrev pub with_idle_worker : PlainRun → Option ℕ → PlainRun
with_idle_worker run next = record run { seats = run.seats ++ idle_seat next ∷ [] }

-- the invariant holds for the tree state with that worker exactly if it holds without
abbrev pub IdleWorkersDontMatter : Type 0
IdleWorkersDontMatter = (run : PlainRun) (next : Option ℕ) → Invariant (tree_state_of (with_idle_worker run next)) ↔ Invariant (tree_state_of run)
