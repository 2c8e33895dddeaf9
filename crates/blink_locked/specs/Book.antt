-- The book of a run: the world that its workers' steps have led to from what the run began with.
use Rattle.std.specs.Prelude.{◌≡◌, ◌↔◌, ℕ, ◌⊎◌, Bool, true, false, Some, List, All, slice_get}
use Rattle.blink_batch.specs.declared.Op.{Op}
use Rattle.blink_batch.specs.{Assignment}
use Rattle.blink_store.specs.{PlainStore}
use Rattle.blink_machine.specs.declared.step.Step.TheVariants.{Moved}
use Rattle.blink_steps.specs.{HasMoved, IsIdleWorker, WouldMove, WouldWait, HasAnswerAt, PlainRun, Event, PlainWorld, HasEnded, IsStart, IsWorldOf, TakesStep}
use Rattle.blink_settings.specs.declared.error.RunError.{RunError}
use Rattle.blink_settings.specs.declared.error.RunError.TheVariants.{Foreign, OutOfMemory, TooLarge}
use Rattle.blink_locked.specs.declared.book.Turn.{Turn}
use Rattle.blink_locked.specs.declared.book.Turn.TheVariants.{Took, Over, Waits, Stopped}

-- the run's world, and whether the run is stopped
pub record PlainBook : Type 0 where
  pub world : PlainWorld
  pub stopped : Bool

-- each turn moved: none waited, and none was idle
abbrev pub AllMoved : List Event → Type 0
AllMoved history = All (λ (taken : Event). HasMoved taken.step) history

-- the world is that of its schedule, over this tree, this batch and these lanes, and each turn of the schedule moved
pub record IsBook (start : PlainStore) (ops : List Op) (assignment : Assignment) (world : PlainWorld) : Type 0 where
  pub is_world : IsWorldOf start world
  pub same_ops : world.run.ops ≡ ops
  pub same_assignment : world.run.assignment ≡ assignment
  pub all_moved : AllMoved is_world.history

-- the book of the same run at another world
abbrev pub with_world : PlainBook → PlainWorld → PlainBook
with_world book world = record book { world = world }

-- the same book, stopped
abbrev pub book_stopped : PlainBook → PlainBook
book_stopped book = record book { stopped = true }

-- the operation has its answer, and its worker has none under way
abbrev pub HasEndedOp : PlainRun → ℕ → ℕ → Type 0
HasEndedOp run worker op = HasAnswerAt run.outcome.answers op × IsIdleWorker run worker

-- the worker may take a turn for the operation: the book isn't stopped, and the operation is one of the worker's
pub record MayTurn (book : PlainBook) (worker op : ℕ) : Type 0 where
  pub not_stopped : book.stopped ≡ false
  pub its_own : slice_get book.world.run.assignment.lanes op ≡ Some worker

-- a worker's due step: it is taken, and returned with whether the operation has ended by it; or it is refused memory, and the
-- book is stopped with nothing else changed
abbrev pub BookStepsPage : PlainBook → ℕ → Turn → PlainBook → Type 0
BookStepsPage old worker (Took kind ended) new = TakesStep old.world worker (Moved kind) new.world × (new ≡ with_world old new.world)
    × ((ended ≡ true) ↔ IsIdleWorker new.world.run worker)
BookStepsPage old worker Over new = ⊥
BookStepsPage old worker Waits new = ⊥
BookStepsPage old worker Stopped new = new ≡ book_stopped old

-- the book after a turn that the worker may take; if the operation had ended before, or its step would be a wait, nothing
-- changes; otherwise the step is due
abbrev pub Turns : PlainBook → ℕ → ℕ → Turn → PlainBook → Type 0
Turns old worker op Over new = HasEndedOp old.world.run worker op × (new ≡ old)
Turns old worker op Waits new = WouldWait old.world.run worker × (new ≡ old)
Turns old worker op turn new = (¬ HasEndedOp old.world.run worker op) × WouldMove old.world.run worker × BookStepsPage old worker turn new

-- why a book isn't made
abbrev pub IsBookRefusal : RunError → Type 0
IsBookRefusal refusal = (refusal ≡ TooLarge) ⊎ (refusal ≡ OutOfMemory)

-- the run isn't stopped, and operations are left
pub record IsLeftEarly (book : PlainBook) : Type 0 where
  pub not_stopped : book.stopped ≡ false
  pub left : ¬ HasEnded book.world.run

-- why a book gives no result
abbrev pub IsSettleRefusal : RunError → Type 0
IsSettleRefusal refusal = (refusal ≡ Foreign) ⊎ (refusal ≡ OutOfMemory)

-- the book of this run before its first step
pub record IsNewBook (start : PlainStore) (ops : List Op) (assignment : Assignment) (book : PlainBook) : Type 0 where
  pub is_start : IsStart start ops assignment book.world
  pub not_stopped : book.stopped ≡ false
