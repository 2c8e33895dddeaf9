-- A world: a run with its schedule, and the world that a schedule leads to.
use Rattle.std.specs.Prelude.{◌≡◌, ℕ, ◌+◌, ◌*◌, ◌<◌, ◌≤◌, Some, None, List, [], ◌∷◌, ◌++◌, length, map, reverse, All, count_by, slice_get, ⊤}
use Rattle.blink_batch.specs.declared.Op.{Op}
use Rattle.blink_batch.specs.{FitsWords, is_insert, Assignment, AreLanes}
use Rattle.blink_page.specs.declared.limits.TheConstants.{MAX_PAGE}
use Rattle.blink_page.specs.{ExceedsPageLimit}
use Rattle.blink_rest.specs.{IsStoreAtRest}
use Rattle.blink_store.specs.{holder_of, PlainStore, IsLawfulStore, page_of}
use Rattle.blink_batch.specs.declared.step_error.StepError.{StepError}
use Rattle.blink_batch.specs.declared.step_error.StepError.TheVariants.{OutOfMemory, NoWorker, TooLarge}
use Rattle.blink_machine.specs.declared.step.Step.{Step}
use Rattle.blink_machine.specs.declared.step.Step.TheVariants.{Moved}
use Rattle.blink_page.specs.declared.limits.TheConstants.{MAX_NEW_PAGES_PER_INSERT}
use Rattle.blink_machine.specs.{write_page, IsItsToWrite}
use Rattle.blink_steps.specs.Run.{PlainRun, Event, AppliesEvent, IsHistory, IsOpeningRun, idle_seat}

-- a tree at rest, and a batch with lanes, that a run may begin with
pub record MayBegin (start : PlainStore) (ops : List Op) (assignment : Assignment) : Type 0 where
  pub lawful_store : IsLawfulStore start
  pub at_rest : IsStoreAtRest start
  pub words : All FitsWords ops
  pub lanes : AreLanes assignment.workers assignment.lanes
  pub a_lane_each : length assignment.lanes ≡ length ops
  pub numbers_suffice : length start.pages + MAX_NEW_PAGES_PER_INSERT * count_by is_insert ops ≤ MAX_PAGE

-- a run with its schedule: the worker of each turn so far
pub record PlainWorld : Type 0 where
  pub run : PlainRun
  pub schedule : List ℕ

-- the world of a schedule: from the first tree state over this tree, one turn for each number of the schedule
pub record IsWorldOf (start : PlainStore) (world : PlainWorld) : Type 0 where
  pub may_begin : MayBegin start world.run.ops world.run.assignment
  pub opening : PlainRun
  pub is_opening : IsOpeningRun start world.run.ops world.run.assignment opening
  -- the events, the last first
  pub history : List Event
  pub follows : IsHistory opening history world.run
  pub same_schedule : world.schedule ≡ reverse (map (λ (taken : Event). taken.worker) history)

-- the world began with some tree
abbrev pub IsWorld : PlainWorld → Type 0
IsWorld world = (start : PlainStore) × IsWorldOf start world

-- a world before its first turn
pub record IsStart (start : PlainStore) (ops : List Op) (assignment : Assignment) (world : PlainWorld) : Type 0 where
  pub is_world : IsWorldOf start world
  pub same_ops : world.run.ops ≡ ops
  pub same_assignment : world.run.assignment ≡ assignment
  pub same_schedule : world.schedule ≡ []

-- the world of this schedule
pub record IsReplay (start : PlainStore) (ops : List Op) (assignment : Assignment) (schedule : List ℕ) (world : PlainWorld) : Type 0 where
  pub is_world : IsWorldOf start world
  pub same_ops : world.run.ops ≡ ops
  pub same_assignment : world.run.assignment ≡ assignment
  pub same_schedule : world.schedule ≡ schedule

-- from a start the world of this schedule
abbrev pub FollowsSchedule : PlainWorld → List ℕ → PlainWorld → Type 0
FollowsSchedule old schedule new = (start : PlainStore) (ops : List Op) (assignment : Assignment) → IsStart start ops assignment old → IsReplay start ops assignment schedule new

-- the world after one turn of a worker, which its schedule records
pub record TakesStep (old : PlainWorld) (worker : ℕ) (step : Step) (new : PlainWorld) : Type 0 where
  pub taken : Event
  pub same_worker : taken.worker ≡ worker
  pub same_step : taken.step ≡ step
  pub turn : AppliesEvent old.run taken new.run
  pub told : new.schedule ≡ old.schedule ++ worker ∷ []

-- the world has one more turn: its history is the old one after this event
pub record HasTurnMore (start : PlainStore) (old : PlainWorld) (is_world : IsWorldOf start old) (worker : ℕ) (step : Step) (new : PlainWorld) : Type 0 where
  pub taken : Event
  pub same_worker : taken.worker ≡ worker
  pub same_step : taken.step ≡ step
  pub turn : AppliesEvent old.run taken new.run
  pub now : IsWorldOf start new
  pub same_opening : now.opening ≡ is_world.opening
  pub one_more : now.history ≡ taken ∷ is_world.history

-- the world goes on by such a turn, over whatever tree it began with
abbrev pub GoesOnBy : PlainWorld → ℕ → Step → PlainWorld → Type 0
GoesOnBy old worker step new = (start : PlainStore) (is_world : IsWorldOf start old) → HasTurnMore start old is_world worker step new

-- the new world began with the same tree as the old, whatever that is
abbrev pub KeepsItsStart : PlainWorld → PlainWorld → Type 0
KeepsItsStart old new = (start : PlainStore) → IsWorldOf start old → IsWorldOf start new

-- the fact holds of the world's history, over whatever tree it began with
abbrev pub InItsHistory : PlainWorld → (List Event → Type 0) → Type 0
InItsHistory world fact = (start : PlainStore) (is_world : IsWorldOf start world) → fact is_world.history

-- the batch and its lanes are as before
pub record SameBatch (old new : PlainRun) : Type 0 where
  pub same_ops : new.ops ≡ old.ops
  pub same_assignment : new.assignment ≡ old.assignment

-- the world with one more turn in its schedule, and otherwise as before
abbrev pub with_turn : PlainWorld → ℕ → PlainWorld
with_turn world worker = record world { schedule = world.schedule ++ worker ∷ [] }

-- a batch is too large if its insertions might need more page numbers than exist, the prime block's included
abbrev pub IsTooLarge : PlainStore → List Op → Type 0
IsTooLarge start ops = ExceedsPageLimit (length start.pages) (count_by is_insert ops)

-- the first number of a schedule that is no worker's
pub record IsFirstNoWorker (workers : ℕ) (schedule : List ℕ) (number : ℕ) : Type 0 where
  pub prefix : List ℕ
  pub rest : List ℕ
  pub parts : schedule ≡ prefix ++ number ∷ rest
  pub no_worker : workers ≤ number
  pub workers_before : All (λ worker. worker < workers) prefix

-- the worker is idle, and its lane is at its end
abbrev pub IsAtLanesEnd : PlainRun → ℕ → Type 0
IsAtLanesEnd run worker = slice_get run.seats worker ≡ Some (idle_seat None)

-- every operation has ended: each worker is at its lane's end
abbrev pub HasEnded : PlainRun → Type 0
HasEnded run = (worker : ℕ) → worker < run.assignment.workers → IsAtLanesEnd run worker

-- the fact holds of each turn of a history
abbrev pub OnEachTurn : (PlainRun → Event → PlainRun → Type 0) → (start : PlainRun) (history : List Event) (run : PlainRun) → IsHistory start history run → Type 0
OnEachTurn fact start [] run follows = ⊤
OnEachTurn fact start (taken ∷ history) run follows = fact follows.0 taken run × OnEachTurn fact start history follows.0 follows.1

-- the fact holds of the run after each turn of a history
abbrev pub AfterEachTurn : (PlainRun → Type 0) → (start : PlainRun) (history : List Event) (run : PlainRun) → IsHistory start history run → Type 0
AfterEachTurn fact start history run follows = OnEachTurn (λ (before : PlainRun) (taken : Event) (after : PlainRun). fact after) start history run follows

-- a worker writes only a page whose latch it holds, or under a number that no page has
abbrev pub WritesItsOwn : PlainRun → Event → PlainRun → Type 0
WritesItsOwn before taken after = (number : ℕ) → taken.step ≡ Moved (write_page number)
    → IsItsToWrite (holder_of before.shared.latches) (page_of before.shared.store) taken.worker number

-- the refusals of a replay: memory; the schedule's first number that is no worker's; or a batch that is too large
abbrev pub IsReplayRefusal : PlainStore → List Op → ℕ → List ℕ → StepError → Type 0
IsReplayRefusal start ops workers schedule OutOfMemory = ⊤
IsReplayRefusal start ops workers schedule (NoWorker number) = IsFirstNoWorker workers schedule number
IsReplayRefusal start ops workers schedule TooLarge = IsTooLarge start ops

-- the refusals of a step: memory, or a worker that doesn't exist
abbrev pub IsStepRefusal : ℕ → ℕ → StepError → Type 0
IsStepRefusal workers worker OutOfMemory = ⊤
IsStepRefusal workers worker (NoWorker number) = (number ≡ worker) × (workers ≤ worker)
IsStepRefusal workers worker TooLarge = ⊥

-- the refusals of a schedule's turns: memory, or the first number that is no worker's
abbrev pub IsScheduleRefusal : ℕ → List ℕ → StepError → Type 0
IsScheduleRefusal workers schedule OutOfMemory = ⊤
IsScheduleRefusal workers schedule (NoWorker number) = IsFirstNoWorker workers schedule number
IsScheduleRefusal workers schedule TooLarge = ⊥
