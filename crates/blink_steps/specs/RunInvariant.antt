-- The invariant of a run: what holds in every one of its tree states.
use Rattle.std.specs.Prelude.{◌≡◌, ◌≢◌, ℕ, ◌+◌, ◌<◌, Bool, true, false, Option, Some, None, List, length, All, count_by, slice_get, slice_index_or, take, ◌^◌}
use Rattle.blink_batch.specs.declared.Answer.{Answer}
use Rattle.blink_batch.specs.declared.Entry.{Entry}
use Rattle.blink_batch.specs.{FitsWords, AreLanes, part_of, places_from, next_place, IsAscending}
use Rattle.blink_store.specs.{IsLawfulStore}
use Rattle.blink_machine.specs.declared.machine.State.TheVariants.{Ended}
use Rattle.blink_steps.specs.declared.seat.WorkerState.{WorkerState}
use Rattle.blink_steps.specs.declared.seat.Working.{Working}
use Rattle.blink_steps.specs.Acts.{CanAct}
use Rattle.blink_steps.specs.Decided.{IsDecided}
use Rattle.blink_machine.specs.{PlainMachine}
use Rattle.blink_steps.specs.Run.{PlainRun, IsNextOf, idle_seat, tree_state_of}
use Rattle.blink_machine.specs.Invariant.{Invariant}

-- the operation has its answer
abbrev pub is_answered : Option Answer → Bool
is_answered None = false
is_answered (Some answer) = true

-- the place up to which a worker's lane is decided: its operation's own place, and one more once the operation has its answer
abbrev pub decided_below : ℕ → Option Answer → ℕ
decided_below place None = place
decided_below place (Some answer) = place + 1

-- the worker's part of the order is its lane up to a place
abbrev pub HasDecided : PlainRun → ℕ → ℕ → Type 0
HasDecided run worker place = part_of run.assignment.lanes worker run.outcome.order ≡ part_of run.assignment.lanes worker (take place (places_from 0 run.assignment.lanes))

-- a worker with an operation of its lane, which hasn't ended
pub record WorkingInvariant (run : PlainRun) (worker : ℕ) (working : Working) (next : Option ℕ) : Type 0 where
  pub own : slice_get run.assignment.lanes working.place ≡ Some worker
  pub goes_on : working.machine.state ≢ Ended
  pub same_op : slice_get run.ops working.place ≡ Some working.machine.op
  pub same_answer : slice_get run.outcome.answers working.place ≡ Some working.machine.answer
  pub next_of_lane : next ≡ next_place run.assignment.lanes worker (working.place + 1)
  pub decided : HasDecided run worker (decided_below working.place working.machine.answer)

-- an idle worker has decided its lane up to the next place
pub record IdleInvariant (run : PlainRun) (worker : ℕ) (next : Option ℕ) : Type 0 where
  pub from : ℕ
  pub next_of_lane : next ≡ next_place run.assignment.lanes worker from
  pub decided : HasDecided run worker from

abbrev pub WorkerInvariant : PlainRun → ℕ → Option Working → Option ℕ → Type 0
WorkerInvariant run worker None next = IdleInvariant run worker next
WorkerInvariant run worker (Some working) next = WorkingInvariant run worker working next

-- the lists of a run have the right lengths, and its operations and lanes are those of a batch
pub record IsShaped (run : PlainRun) : Type 0 where
  pub lawful_store : IsLawfulStore run.shared.store
  pub words : All FitsWords run.ops
  pub lanes : AreLanes run.assignment.workers run.assignment.lanes
  pub a_lane_each : length run.assignment.lanes ≡ length run.ops
  pub a_seat_each : length run.seats ≡ run.assignment.workers
  pub an_answer_each : length run.outcome.answers ≡ length run.ops
  pub a_read_count_each : length run.outcome.reads ≡ length run.ops
  pub a_move_count_each : length run.outcome.moves ≡ length run.ops

pub record RunInvariant (entries : List Entry) (run : PlainRun) : Type 0 where
  pub invariant : Invariant (tree_state_of run)
  pub shaped : IsShaped run
  pub ascending : IsAscending entries
  pub decided : IsDecided entries run
  pub as_many_decided : count_by is_answered run.outcome.answers ≡ length run.outcome.order
  pub seats : (worker : ℕ) (seat : WorkerState) → slice_get run.seats worker ≡ Some seat → WorkerInvariant run worker seat.working seat.next

-- a worker's next operation can act
abbrev pub NextCanAct : PlainRun → ℕ → Type 0
NextCanAct run worker = (place : ℕ) (m : PlainMachine) (next : Option ℕ) → IsNextOf run worker place m next → CanAct run.shared worker m

-- what a worker's turn requires: a worker state, a place of the batch, a step that can be taken, and room to record it
pub record CanTakeTurn (run : PlainRun) (worker : ℕ) : Type 0 where
  pub seated : worker < length run.seats
  pub next_of_batch : (place : ℕ) → slice_get run.seats worker ≡ Some (idle_seat (Some place)) → place < length run.ops
  pub can_act : NextCanAct run worker
  pub place_of_batch : (place : ℕ) (m : PlainMachine) (next : Option ℕ) → IsNextOf run worker place m next → place < length run.outcome.answers
  pub room : (place : ℕ) (m : PlainMachine) (next : Option ℕ) → IsNextOf run worker place m next → m.answer ≡ None → length run.outcome.order < length run.outcome.answers
  pub countable : (place : ℕ) (m : PlainMachine) (next : Option ℕ) → IsNextOf run worker place m next
      → (slice_index_or run.outcome.reads place 0 + 1 < 2 ^ 64) × (slice_index_or run.outcome.moves place 0 + 1 < 2 ^ 64)
