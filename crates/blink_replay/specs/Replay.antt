-- A batch's replay: the turns of a schedule, with a trace of them, and then picked turns to the end.
use Rattle.std.specs.Prelude.{◌≡◌, ◌⊎◌, ℕ, Some, List, ◌++◌, map}
use Rattle.blink_batch.specs.declared.Answer.{Answer}
use Rattle.blink_batch.specs.declared.Op.{Op}
use Rattle.blink_batch.specs.{Assignment}
use Rattle.blink_store.specs.{PlainStore}
use Rattle.blink_steps.specs.{GoesOnPicked, IsPromised, Event, PlainWorld, IsReplay, IsWorldOf, HasEnded, IsTooLarge, KeepsItsStart, SameBatch}
use Rattle.blink_steps.specs.declared.StepError.TheVariants as step
use Rattle.blink_settings.specs.declared.error.ServeError.{ServeError}
use Rattle.blink_settings.specs.declared.error.ServeError.TheVariants.{Step, OutOfMemory}
use Rattle.blink_settings.specs.{lanes_by_residue}
use Rattle.blink_replay.specs.Trace.{trace_of}

-- the worker of each operation is the remainder of its key
abbrev pub by_residue : ℕ → List Op → Assignment
by_residue workers ops = record { workers = workers; lanes = lanes_by_residue workers ops }

-- a batch runs over a tree: a turn for each number of the schedule, which the trace shows, and then picked turns until all
-- operations have ended, which it doesn't show
pub record RunsBatch (workers : ℕ) (schedule : List ℕ) (before : PlainStore) (ops : List Op) (after : PlainStore) (trace : List ℕ) : Type 0 where
  pub world : PlainWorld
  pub replay : IsReplay before ops (by_residue workers ops) schedule world
  pub traced : trace ≡ trace_of replay.is_world.history
  pub finished : PlainWorld
  pub picked : GoesOnPicked world finished
  pub ended : HasEnded finished.run
  pub same_tree : finished.run.shared.store ≡ after

-- the world has these further turns, over the tree that it began with
pub record HasTurnsMore (start : PlainStore) (old : PlainWorld) (is_world : IsWorldOf start old) (new : PlainWorld) (trace : List ℕ) : Type 0 where
  pub turns : List Event
  pub now : IsWorldOf start new
  pub more : now.history ≡ turns ++ is_world.history
  pub traced : trace ≡ trace_of turns

-- a world goes on by a turn for each number of the schedule, and the trace shows them
pub record IsTraced (old : PlainWorld) (schedule : List ℕ) (new : PlainWorld) (trace : List ℕ) : Type 0 where
  pub told : new.schedule ≡ old.schedule ++ schedule
  pub same_batch : SameBatch old.run new.run
  pub goes_on : (start : PlainStore) (is_world : IsWorldOf start old) → HasTurnsMore start old is_world new trace

-- the trace stands after the trace before it
abbrev pub TellsSteps : PlainWorld → List ℕ → PlainWorld → List ℕ → List ℕ → Type 0
TellsSteps old schedule new before after = (trace : List ℕ) × IsTraced old schedule new trace × (after ≡ before ++ trace)

-- a world goes on by a turn for each number of the schedule, which the trace shows, and by picked turns to the end, with these
-- answers
pub record IsRunToEnd (old : PlainWorld) (schedule : List ℕ) (new : PlainWorld) (trace : List ℕ) (given : List Answer) : Type 0 where
  pub replayed : PlainWorld
  pub traced : IsTraced old schedule replayed trace
  pub picked : GoesOnPicked replayed new
  pub same_start : KeepsItsStart replayed new
  pub same_batch : SameBatch replayed.run new.run
  pub promised : IsPromised new
  pub ended : HasEnded new.run
  pub all_given : new.run.outcome.answers ≡ map Some given

-- the trace stands after the trace before it
abbrev pub TellsRun : PlainWorld → List ℕ → PlainWorld → List ℕ → List ℕ → List Answer → Type 0
TellsRun old schedule new before after given = (trace : List ℕ) × IsRunToEnd old schedule new trace given × (after ≡ before ++ trace)

-- memory is refused, to a step or to the trace
abbrev pub IsRefusedMemory : ServeError → Type 0
IsRefusedMemory error = (error ≡ Step step.OutOfMemory) ⊎ (error ≡ OutOfMemory)

-- a batch runs over a tree, and the trace of its schedule's turns stands after the trace before it
abbrev pub TellsBatch : ℕ → List ℕ → PlainStore → List Op → List ℕ → List ℕ → PlainStore → Type 0
TellsBatch workers schedule before ops old new after = (trace : List ℕ) × RunsBatch workers schedule before ops after trace × (new ≡ old ++ trace)

-- why a batch isn't run to its end: it is too large for this tree, or memory was refused
abbrev pub IsReplayFault : PlainStore → List Op → ServeError → Type 0
IsReplayFault before ops error = ((error ≡ Step step.TooLarge) × IsTooLarge before ops) ⊎ IsRefusedMemory error
