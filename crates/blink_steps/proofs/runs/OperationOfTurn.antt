-- The operation of a worker's turn: it is one that a step of the tree state may take, and has what is so of a busy worker's.
use Rattle.std.proofs.Common.{◌≡◌, ◌≢◌, ℕ, ◌+◌, ◌⊎◌, Option, Some, None, List, set, refl, ap, sym, ◌∙◌, subst, inl, inr}
use Rattle.std.proofs.lemmas.Option.{slice_get_within}
use Rattle.std.specs.List.{slice_get}
use Rattle.blink_batch.specs.declared.Entry.{Entry}
use Rattle.blink_batch.specs.declared.Op.{Op}
use Rattle.blink_batch.specs.{next_place}
use Rattle.blink_batch.proofs.Offered.{fresh_from_part, next_place_is, part_of-next_place}
use Rattle.blink_store.proofs.Offered.{slice_get-set_other, slice_get-set_same}
use Rattle.blink_steps.specs.declared.seat.WorkerState.{WorkerState}
use Rattle.blink_machine.specs.declared.step.Kind.{Kind}
use Rattle.blink_machine.specs.declared.step.Step.{Step}
use Rattle.blink_machine.specs.declared.step.Step.TheVariants.{Moved, Waited, Idle}
use Rattle.blink_steps.specs.Acts.{PlainShared, Acts, ActsOn}
use Rattle.blink_machine.specs.declared.machine.Need.{Need}
use Rattle.blink_machine.specs.declared.machine.Need.TheVariants.{WriteNew}
use Rattle.blink_steps.specs.Laws.{TakesNextNumber, TurnsAreSteps}
use Rattle.blink_machine.specs.{PlainMachine, fresh, IsItsOperation, under_way as is_under_way, taken_on as is_taken_on, IsWorkersNow, Steps, goes_on}
use Rattle.blink_steps.specs.Run.{PlainRun, IsNextOf, under_way, taken_on, Event, AppliesEvent, moves, waits, idles, after_move, busy_seat, idle_seat, machine_of_seat, tree_state_of, seat_after}
use Rattle.blink_steps.specs.RunInvariant.{HasDecided, WorkingInvariant, IdleInvariant, RunInvariant}
use Rattle.blink_steps.proofs.runs.ActsAreSteps.{acts_are_steps, waits_are_steps}

-- ---- the operation and the tree state

-- it is the worker's own, or one that an idle worker takes on
pub next_is_its : (run : PlainRun) (worker place : ℕ) (m : PlainMachine) (next : Option ℕ) → IsNextOf run worker place m next → IsItsOperation (tree_state_of run) worker m
next_is_its run worker place m next (under_way seat) = is_under_way (ap machine_of_seat seat)
next_is_its run worker place m next (taken_on op seat there is following) = is_taken_on op (ap machine_of_seat seat) is

-- its worker has a seat
pub next_has_seat : (run : PlainRun) (worker place : ℕ) (m : PlainMachine) (next : Option ℕ) → IsNextOf run worker place m next → (seat : WorkerState) × (slice_get run.seats worker ≡ Some seat)
next_has_seat run worker place m next (under_way seat) = (busy_seat place m next, seat)
next_has_seat run worker place m next (taken_on op seat there is following) = (idle_seat (Some place), seat)

-- the operations under way, by worker
abbrev pub machines_of : List WorkerState → ℕ → Option PlainMachine
machines_of seats worker = machine_of_seat (slice_get seats worker)

-- a seat after a step has the operation that goes on
machine_of_seat_after : (now : Option PlainMachine) (place : ℕ) (next : Option ℕ) → machine_of_seat (Some (seat_after now place next)) ≡ now
machine_of_seat_after None place next = refl
machine_of_seat_after (Some m) place next = refl

-- after a move the worker's operation is the one that goes on, and the others' are as before
pub seats_after_move : (seats : List WorkerState) (worker place : ℕ) (after : PlainMachine) (next : Option ℕ) (seat : WorkerState) → slice_get seats worker ≡ Some seat
    → IsWorkersNow (machines_of seats) (machines_of (set seats worker (seat_after (goes_on after after.state) place next))) worker after
seats_after_move seats worker place after next seat there = record {
  own = ap machine_of_seat (slice_get-set_same seats worker (seat_after (goes_on after after.state) place next) (slice_get_within seats worker seat there))
      ∙ machine_of_seat_after (goes_on after after.state) place next;
  others = λ other differs. ap machine_of_seat (slice_get-set_other seats worker other (seat_after (goes_on after after.state) place next) differs);
}

-- ---- turns

-- a turn as a step of the tree state
pub record IsTurnStep (old : PlainRun) (taken : Event) (new : PlainRun) : Type 0 where
  pub its : IsItsOperation (tree_state_of old) taken.worker taken.before
  pub steps : Steps (tree_state_of old) taken.worker taken.before taken.step taken.after (tree_state_of new)

-- a move is a step
pub move_is_step : (old : PlainRun) (worker place : ℕ) (m after : PlainMachine) (next : Option ℕ) (kind : Kind) (shared : PlainShared) → IsNextOf old worker place m next
    → Acts old.shared worker m (Moved kind) after shared → Steps (tree_state_of old) worker m (Moved kind) after (tree_state_of (after_move old worker place next m kind after shared))
move_is_step old worker place m after next kind shared is_next acts =
    let seat = next_has_seat old worker place m next is_next in
    acts_are_steps old.shared shared (machines_of old.seats) (machines_of (set old.seats worker (seat_after (goes_on after after.state) place next))) worker m after kind acts
    (seats_after_move old.seats worker place after next seat.0 seat.1)

-- a turn is a step of the tree state, or is passed over at the lane's end
pub turn_is_step : (old : PlainRun) (taken : Event) (new : PlainRun) → AppliesEvent old taken new → IsTurnStep old taken new ⊎ ((taken.step ≡ Idle) × (new ≡ old))
turn_is_step old taken new (moves next kind is_next step acts is) =
    let there : PlainRun = after_move old taken.worker taken.place next taken.before kind taken.after new.shared in
    let moved = move_is_step old taken.worker taken.place taken.before taken.after next kind new.shared is_next acts in
    inl (record {
      its = next_is_its old taken.worker taken.place taken.before next is_next;
      steps = subst (λ (step : Step). Steps (tree_state_of old) taken.worker taken.before step taken.after (tree_state_of new)) (sym step)
          (subst (λ (run : PlainRun). Steps (tree_state_of old) taken.worker taken.before (Moved kind) taken.after (tree_state_of run)) (sym is) moved);
    })
turn_is_step old taken new (waits next is_next step acts is) =
    let waited = waits_are_steps old.shared old.shared (machines_of old.seats) taken.worker taken.before taken.after acts in
    inl (record {
      its = next_is_its old taken.worker taken.place taken.before next is_next;
      steps = subst (λ (step : Step). Steps (tree_state_of old) taken.worker taken.before step taken.after (tree_state_of new)) (sym step)
          (subst (λ (run : PlainRun). Steps (tree_state_of old) taken.worker taken.before Waited taken.after (tree_state_of run)) (sym is) waited);
    })
turn_is_step old taken new (idles seat step is) = inr (step, is)

-- a new page gets the number after the last
next_number : (old : PlainRun) (taken : Event) (new : PlainRun) → AppliesEvent old taken new → taken.step ≢ Idle → TakesNextNumber old.shared.store taken.before taken.step
next_number old taken new (moves next kind is_next step acts is) not_idle needs =
    let written : ActsOn WriteNew old.shared taken.worker taken.before (Moved kind) taken.after new.shared =
    subst (λ (need : Need). ActsOn need old.shared taken.worker taken.before (Moved kind) taken.after new.shared) needs acts in
    step ∙ ap Moved written.0
next_number old taken new (waits next is_next step acts is) not_idle needs =
    let written : ActsOn WriteNew old.shared taken.worker taken.before Waited taken.after old.shared =
    subst (λ (need : Need). ActsOn need old.shared taken.worker taken.before Waited taken.after old.shared) needs acts in
    absurd written
next_number old taken new (idles seat step is) not_idle needs = absurd (not_idle step)

-- so a turn that moves or waits is a step of the tree state, with that number
pub turns_are_steps : TurnsAreSteps
turns_are_steps old new taken turn not_idle = elim (turn_is_step old taken new turn) [
  | inl step ↦ record { its = step.its; steps = step.steps; next_number = next_number old taken new turn not_idle }
  | inr passed ↦ absurd (not_idle passed.0)
]

-- ---- what is so of it

-- an operation that is taken on is undecided, and its worker has decided what comes before it
taken_on_is_busy : (entries : List Entry) (run : PlainRun) (worker place : ℕ) (next : Option ℕ) (op : Op) → RunInvariant entries run → slice_get run.seats worker ≡ Some (idle_seat (Some place))
    → slice_get run.ops place ≡ Some op → next ≡ next_place run.assignment.lanes worker (place + 1) → WorkingInvariant run worker (record { place = place; machine = fresh run.shared.store.fan op }) next
taken_on_is_busy entries run worker place next op invariant seat there following =
    let lanes : List ℕ = run.assignment.lanes in
    let idle : IdleInvariant run worker (Some place) = invariant.seats worker (idle_seat (Some place)) seat in
    let found : next_place lanes worker idle.from ≡ Some place = sym idle.next_of_lane in
    let is = next_place_is lanes worker idle.from place found in
    let decided : HasDecided run worker place = idle.decided ∙ sym (part_of-next_place lanes worker idle.from place found) in
    record {
      own = is.2;
      same_op = there;
      goes_on = λ ended. cc;
      same_answer = invariant.decided.undecided place (slice_get_within run.ops place op there) (fresh_from_part lanes worker run.outcome.order place is.2 decided);
      next_of_lane = following;
      decided = decided;
    }

-- where the invariant of runs holds it has what a busy worker's operation has
pub next_is_busy : (entries : List Entry) (run : PlainRun) (worker place : ℕ) (m : PlainMachine) (next : Option ℕ) → RunInvariant entries run → IsNextOf run worker place m next
    → WorkingInvariant run worker (record { place = place; machine = m }) next
next_is_busy entries run worker place m next invariant (under_way seat) = invariant.seats worker (busy_seat place m next) seat
next_is_busy entries run worker place m next invariant (taken_on op seat there is following) =
    subst (λ (n : PlainMachine). WorkingInvariant run worker (record { place = place; machine = n }) next) (sym is) (taken_on_is_busy entries run worker place next op invariant seat there following)
