-- A batch's run over a tree, as plain data: the tree, the workers, and the outcome; and one turn of a worker.
use Rattle.std.specs.Prelude.{◌≡◌, ℕ, ◌+◌, ◌<◌, Option, Some, None, List, [], ◌∷◌, length, slice_get, slice_set}
use Rattle.blink_batch.specs.declared.Op.{Op}
use Rattle.blink_batch.specs.{Assignment, next_place}
use Rattle.blink_store.specs.{holder_of, PlainStore, page_of}
use Rattle.blink_steps.specs.declared.seat.WorkerState.{WorkerState}
use Rattle.blink_steps.specs.declared.seat.Working.{Working}
use Rattle.blink_machine.specs.declared.step.Kind.{Kind}
use Rattle.blink_machine.specs.declared.step.Step.{Step}
use Rattle.blink_machine.specs.declared.step.Step.TheVariants.{Moved, Waited, Idle}
use Rattle.blink_steps.specs.Acts.{PlainShared, Acts}
use Rattle.blink_steps.specs.Outcome.{PlainOutcome, empty_outcome, recorded}
use Rattle.blink_machine.specs.{PlainMachine, fresh, goes_on}
use Rattle.blink_machine.specs.TreeState.{TreeState}

pub record PlainRun : Type 0 where
  pub shared : PlainShared
  pub ops : List Op
  pub assignment : Assignment
  -- the state of each worker
  pub seats : List WorkerState
  -- what is decided, and how far each operation has come
  pub outcome : PlainOutcome

-- an idle worker, with the place of its next operation
abbrev pub idle_seat : Option ℕ → WorkerState
idle_seat next = record { working = None; next = next }

-- a worker with the operation of this place, and the place of its next one
abbrev pub busy_seat : ℕ → PlainMachine → Option ℕ → WorkerState
busy_seat place m next = record { working = Some (record { place = place; machine = m }); next = next }

-- the operation that a worker has under way
abbrev pub machine_in : Option Working → Option PlainMachine
machine_in None = None
machine_in (Some working) = Some working.machine

-- the working part of a worker's state
abbrev pub working_of : Option WorkerState → Option Working
working_of None = None
working_of (Some seat) = seat.working

abbrev pub machine_of_seat : Option WorkerState → Option PlainMachine
machine_of_seat None = None
machine_of_seat (Some seat) = machine_in seat.working

-- the tree state of a run, between which steps of the tree lead
abbrev pub tree_state_with : PlainShared → (ℕ → Option PlainMachine) → TreeState
tree_state_with shared machines = record {
  fan = shared.store.fan;
  prime = shared.store.prime;
  pages = page_of shared.store;
  holder = holder_of shared.latches;
  machines = machines;
}

abbrev pub tree_state_of : PlainRun → TreeState
tree_state_of run = tree_state_with run.shared (λ worker. machine_of_seat (slice_get run.seats worker))

-- a worker's state after a step of its operation: with the operation, or without it if it has ended
abbrev pub seat_after : Option PlainMachine → ℕ → Option ℕ → WorkerState
seat_after None place next = idle_seat next
seat_after (Some m) place next = busy_seat place m next

-- the run after a step of this kind of the operation at a place, which was `m` and is `after`
abbrev pub after_move : PlainRun → ℕ → ℕ → Option ℕ → PlainMachine → Kind → PlainMachine → PlainShared → PlainRun
after_move old worker place next m kind after shared = record old {
  shared = shared;
  seats = slice_set old.seats worker (seat_after (goes_on after after.state) place next);
  outcome = recorded old.outcome place kind m.answer after.answer;
}

-- the operation of a worker's step, and the place of the one after it: the operation under way, or, if the worker is idle, the
-- next of its lane, which has taken no step
pub data IsNextOf (run : PlainRun) (worker place : ℕ) (m : PlainMachine) (next : Option ℕ) : Type 0 where
  under_way : slice_get run.seats worker ≡ Some (busy_seat place m next) → IsNextOf run worker place m next
  taken_on : (op : Op) → slice_get run.seats worker ≡ Some (idle_seat (Some place)) → slice_get run.ops place ≡ Some op
      → m ≡ fresh run.shared.store.fan op → next ≡ next_place run.assignment.lanes worker (place + 1) → IsNextOf run worker place m next

-- one turn of a worker and what became of it; if it took a step, also the operation's place, and the operation before and after
pub record Event : Type 0 where
  pub worker : ℕ
  pub step : Step
  pub place : ℕ
  pub before : PlainMachine
  pub after : PlainMachine

-- a turn: the worker's operation moves; or it waits, and nothing changes; or the lane is at its end, and nothing changes
pub data AppliesEvent (old : PlainRun) (taken : Event) (new : PlainRun) : Type 0 where
  moves : (next : Option ℕ) (kind : Kind) → IsNextOf old taken.worker taken.place taken.before next → taken.step ≡ Moved kind
      → Acts old.shared taken.worker taken.before (Moved kind) taken.after new.shared
      → new ≡ after_move old taken.worker taken.place next taken.before kind taken.after new.shared → AppliesEvent old taken new
  waits : (next : Option ℕ) → IsNextOf old taken.worker taken.place taken.before next → taken.step ≡ Waited
      → Acts old.shared taken.worker taken.before Waited taken.after old.shared → new ≡ old → AppliesEvent old taken new
  idles : slice_get old.seats taken.worker ≡ Some (idle_seat None) → taken.step ≡ Idle → new ≡ old → AppliesEvent old taken new

-- the worker takes a turn with this result
abbrev pub AppliesSomeEvent : PlainRun → ℕ → Step → PlainRun → Type 0
AppliesSomeEvent old worker step new = (taken : Event) × (taken.worker ≡ worker) × (taken.step ≡ step) × AppliesEvent old taken new

-- turns, the last first, lead from one state of a run to another
abbrev pub IsHistory : PlainRun → List Event → PlainRun → Type 0
IsHistory start [] run = run ≡ start
IsHistory start (taken ∷ history) run = (before : PlainRun) × IsHistory start history before × AppliesEvent before taken run

-- the first state of a run: no latch is held, every worker is idle, and no operation is decided
pub record IsOpeningRun (start : PlainStore) (ops : List Op) (assignment : Assignment) (run : PlainRun) : Type 0 where
  pub same_store : run.shared.store ≡ start
  pub no_latch : (page : ℕ) → holder_of run.shared.latches page ≡ None
  pub same_ops : run.ops ≡ ops
  pub same_assignment : run.assignment ≡ assignment
  pub a_seat_each : length run.seats ≡ assignment.workers
  pub all_idle : (worker : ℕ) → worker < assignment.workers → slice_get run.seats worker ≡ Some (idle_seat (next_place assignment.lanes worker 0))
  pub nothing_recorded : run.outcome ≡ empty_outcome (length ops)
