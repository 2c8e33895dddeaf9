-- What a caller of `blink_steps` reads, in this order; then what proofs above it need; then the files themselves.

-- a batch's run over a tree, as plain data: the tree, the workers, and the outcome; and one turn of a worker
pub use Rattle.blink_steps.specs.Run.{Event, PlainRun, working_of}
-- a world: a run with its schedule, and the world that a schedule leads to
pub use Rattle.blink_steps.specs.World.{GoesOnBy, HasEnded, InItsHistory, IsAtLanesEnd, IsFirstNoWorker, IsReplay, IsReplayRefusal, IsStart, IsStepRefusal, IsTooLarge, IsWorld, IsWorldOf, KeepsItsStart, PlainWorld, SameBatch, TakesStep, with_turn}
-- the promises of the world of every schedule, over every tree at rest, for every batch and all lanes
pub use Rattle.blink_steps.specs.Promises.{HasAnswerAt, IsPromised}
-- what one thread would answer and leave, whatever the schedule was; and in every tree state each key then present is reached
pub use Rattle.blink_steps.specs.Headline.{IsOneThread, IsReachedThroughout, NoKeyIsLost}
-- laws of turns, for any run
pub use Rattle.blink_steps.specs.Laws.{IdleWorkersDontMatter, StepsAreTurns, TurnsAreSteps}
-- idle workers, waiting workers, the picked worker, and runs that go on by picked turns alone
pub use Rattle.blink_steps.specs.Pick.{GoesOnPicked, IsFirstMover, IsIdleWorker, WouldMove, WouldWait, steps_left}
-- counts of a history's operations: new page numbers taken, pages and prime blocks written, pages read, and moves
pub use Rattle.blink_steps.specs.Counts.{HasMoved, HasWaited, moves_in, page_reads_in}
-- the length of an operation: it reads no page twice in its descent and latches none twice, so the number of pages bounds its steps
pub use Rattle.blink_steps.specs.StepBounds.{steps_at_most_with}
-- the effect of an operation's step on the store and the latches that workers share
pub use Rattle.blink_steps.specs.Acts.{PlainShared}
-- the code of each refusal
pub use Rattle.blink_batch.specs.{code_of_step_error}
-- by their file, since they have its name or another file's word: RunInvariant.{RunInvariant}

-- ---- for proofs above
pub use Rattle.blink_steps.specs.Run.{IsNextOf, idle_seat}
pub use Rattle.blink_steps.specs.Promises.{KeepsItsPromises}
pub use Rattle.blink_steps.specs.RunInvariant.{IdleInvariant}
-- ---- what stands below, by its files
pub use Rattle.blink_machine.specs.Machine
pub use Rattle.blink_machine.specs.Table
pub use Rattle.blink_machine.specs.Needs
pub use Rattle.blink_machine.specs.TreeState
pub use Rattle.blink_machine.specs.Owned
pub use Rattle.blink_machine.specs.TreeWithDebts
pub use Rattle.blink_machine.specs.Tree
pub use Rattle.blink_machine.specs.Placed
pub use Rattle.blink_machine.specs.Kept
pub use Rattle.blink_machine.specs.MachineView
pub use Rattle.blink_machine.specs.Invariant
pub use Rattle.blink_machine.specs.InOrder
pub use Rattle.blink_machine.specs.Places
pub use Rattle.blink_machine.specs.OnTheWay
pub use Rattle.blink_machine.specs.Kinds
pub use Rattle.blink_machine.specs.TreeMap
pub use Rattle.blink_machine.specs.Allowance
pub use Rattle.blink_machine.specs.StepLaw
pub use Rattle.blink_machine.specs.OneResult
-- ---- files that crates above name
pub mod RunInvariant
-- ---- files that no crate above names
pub mod Run
pub mod World
pub mod Promises
pub mod Headline
pub mod Laws
pub mod Pick
pub mod Counts
pub mod StepBounds
pub mod Bounds
pub mod Outcome
pub mod LaneQueues
pub mod Decided
pub mod Acts
pub mod Seats
pub mod RunView
