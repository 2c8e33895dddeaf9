-- The state of a worker between two turns.
use Rattle.std.specs.Prelude.{◌≡◌, ℕ, Option, Some, None, List, slice_get, slice_set, Result, IfOk, OnErr}
use Rattle.blink_batch.specs.declared.Answer.{Answer}
use Rattle.blink_steps.specs.Acts.{PlainShared, Acts, CanAct}
use Rattle.blink_batch.specs.declared.step_error.StepError.{StepError}
use Rattle.blink_machine.specs.declared.step.Step.{Step}
use Rattle.blink_steps.specs.declared.seat.WorkerState.{WorkerState}
use Rattle.blink_steps.specs.declared.seat.Working.{Working}
use Rattle.blink_batch.specs.declared.Op.{Op}
use Rattle.blink_machine.specs.{PlainMachine, fresh, goes_on}
use Rattle.blink_steps.specs.Run.{PlainRun, IsNextOf, busy_seat}

-- the operation of a place, if it goes on
abbrev pub working_after : Option PlainMachine → ℕ → Option Working
working_after None place = None
working_after (Some m) place = Some (record { place = place; machine = m })

-- what stays in the worker's state: its operation, if that goes on
abbrev pub left_in_seat : WorkerState → WorkerState
left_in_seat seat = record { working = left_of seat.working; next = seat.next }
  where
    left_of : Option Working → Option Working
    left_of None = None
    left_of (Some working) = working_after (goes_on working.machine working.machine.state) working.place

-- the answer of the operation under way
abbrev pub answer_in_seat : WorkerState → Option Answer
answer_in_seat seat = answer_of seat.working
  where
    answer_of : Option Working → Option Answer
    answer_of None = None
    answer_of (Some working) = working.machine.answer

-- the operation under way can take its next step
abbrev pub IsAbleInSeat : PlainShared → ℕ → WorkerState → Type 0
IsAbleInSeat shared worker seat = (working : Working) × (seat.working ≡ Some working) × CanAct shared worker working.machine

-- the operation under way took this step, and is still under way
abbrev pub ActsInSeat : PlainShared → ℕ → WorkerState → Result Step StepError → WorkerState → PlainShared → Type 0
ActsInSeat old worker before result after new = (working : Working) → before.working ≡ Some working →
    (m : PlainMachine) × (after ≡ record { working = Some (record { place = working.place; machine = m }); next = before.next })
    × IfOk result (λ step. Acts old worker working.machine step m new) × OnErr result ((m ≡ working.machine) × (new ≡ old))

-- the worker has an operation under way
pub record HasOperation (run : PlainRun) (worker : ℕ) : Type 0 where
  pub place : ℕ
  pub m : PlainMachine
  pub next : Option ℕ
  pub seated : slice_get run.seats worker ≡ Some (busy_seat place m next)

-- the run with another seat of the worker
abbrev pub with_seat : PlainRun → ℕ → WorkerState → PlainRun
with_seat run worker seat = record run { seats = slice_set run.seats worker seat }

-- the worker was idle, and the next operation of its lane is in its seat, before the operation's first step
pub record SeatsNext (old : PlainRun) (worker place : ℕ) (new : PlainRun) : Type 0 where
  pub op : Op
  pub m : PlainMachine
  pub next : Option ℕ
  pub same_machine : m ≡ fresh old.shared.store.fan op
  pub was_next : IsNextOf old worker place m next
  pub its_own : slice_get old.assignment.lanes place ≡ Some worker
  pub seated : new ≡ with_seat old worker (busy_seat place m next)

-- the next place of each worker is one of its own lane
abbrev pub AreOfLanes : List ℕ → List WorkerState → Type 0
AreOfLanes lanes seats = (worker place : ℕ) (seat : WorkerState) → slice_get seats worker ≡ Some seat → seat.next ≡ Some place → slice_get lanes place ≡ Some worker
