-- Where the invariant of runs holds, each worker's turn can be taken.
use Rattle.std.proofs.Common.{◌≡◌, ℕ, ◌+◌, ◌<◌, ◌≤◌, Option, List, length, refl, arith}
use Rattle.std.proofs.lemmas.Option.{slice_get_within}
use Rattle.blink_batch.specs.declared.Entry.{Entry}
use Rattle.blink_batch.specs.declared.cut.TheConstants.{WORKER_LIMIT}
use Rattle.blink_page.specs.declared.limits.TheConstants.{MAX_PAGE}
use Rattle.blink_store.specs.declared.latches.TheConstants.{WORKERS}
use Rattle.blink_store.proofs.Offered.{has_page}
use Rattle.blink_machine.specs.declared.machine.Need.{Need}
use Rattle.blink_machine.specs.declared.machine.Need.TheVariants.{ReadPrime, ReadPage, Latch, WriteNew, WritePage, WritePrime, Unlatch, End}
use Rattle.blink_machine.specs.declared.machine.State.{State}
use Rattle.blink_machine.specs.declared.machine.State.TheVariants.{Start, Going, Want, Held, Change, SplitNew, SplitOld, AskPrime, Root, NewPrime, Leave, Posting, Ended}
use Rattle.blink_machine.specs.{IsInOrder, PlainMachine, NeedsNew, need_at, IsItsOperation}
use Rattle.blink_steps.specs.Acts.{CanAct, CanActOn}
use Rattle.blink_steps.specs.Run.{PlainRun, IsNextOf, tree_state_of}
use Rattle.blink_steps.specs.RunInvariant.{RunInvariant}
use Rattle.blink_machine.specs.StepLaw.{StepLaw}
use Rattle.blink_steps.proofs.runs.OperationOfTurn.{next_has_seat, next_is_busy, next_is_its}
use Rattle.blink_steps.proofs.runs.RunStatements.{TurnIsReady}

-- one that needs nothing has ended
at_end : (state : State) → need_at state ≡ End → state ≡ Ended
at_end Start needs = absurd (cc)
at_end (Going page level) needs = absurd (cc)
at_end (Want page) needs = absurd (cc)
at_end (Held page) needs = absurd (cc)
at_end (Change page changed kept) needs = absurd (cc)
at_end (SplitNew page before) needs = absurd (cc)
at_end (SplitOld page lower debt) needs = absurd (cc)
at_end (AskPrime page debt) needs = absurd (cc)
at_end (Root page debt prime) needs = absurd (cc)
at_end (NewPrime page debt root prime) needs = absurd (cc)
at_end (Leave page next) needs = absurd (cc)
at_end Posting needs = absurd (cc)
at_end Ended needs = refl

-- ---- the turn

module _ (laws : StepLaw) (entries : List Entry) (run : PlainRun) (worker place : ℕ) (m : PlainMachine) (next : Option ℕ) (invariant : RunInvariant entries run)
    (is_next : IsNextOf run worker place m next) (room : NeedsNew m → length run.shared.store.pages < MAX_PAGE) where
  -- the operation is the worker's
  its : IsItsOperation (tree_state_of run) worker m
  its = next_is_its run worker place m next is_next

  -- the run's tree state is in order
  order : IsInOrder (tree_state_of run)
  order = laws.invariant_gives_order (tree_state_of run) invariant.invariant

  -- its worker is one of those that may hold a latch
  may_hold : worker < WORKERS
  may_hold =
      let seat = next_has_seat run worker place m next is_next in
      let within : worker < length run.seats = slice_get_within run.seats worker seat.0 seat.1 in
      let many : length run.seats ≡ run.assignment.workers = invariant.shaped.a_seat_each in
      let few : run.assignment.workers ≤ WORKER_LIMIT = invariant.shaped.lanes.allowed.1 in
      omega arith

  -- for each need
  can_act_on : (need : Need) → need_at m.state ≡ need → CanActOn need run.shared worker m
  can_act_on ReadPrime needs = order.few_levels
  can_act_on (ReadPage number) needs =
      let reads = order.reads_page worker number m its needs in
      record { exists = has_page run.shared.store number reads.page reads.there; page = reads.page; there = reads.there; has_level = reads.readable.has_level; floor_below = reads.readable.floor_below }
  can_act_on (Latch number) needs = (may_hold, (order.latches worker number m its needs).holds_none)
  can_act_on WriteNew needs =
      let below : length run.shared.store.pages < MAX_PAGE = room needs in
      let good = order.writes_new worker (length run.shared.store.pages + 1) m its needs (omega arith, omega arith) in
      (below, good.at_most_fan)
  can_act_on (WritePage number) needs =
      let writes = order.writes_page worker number m its needs in
      record {
        exists = has_page run.shared.store number writes.before writes.there;
        before = writes.before;
        there = writes.there;
        same_floor_and_level = (writes.same_floor, writes.same_level);
        at_most_fan = writes.lawful.at_most_fan;
      }
  can_act_on WritePrime needs = tt
  can_act_on (Unlatch number) needs = order.unlatches worker number m its needs
  can_act_on End needs = (next_is_busy entries run worker place m next invariant is_next).goes_on (at_end m.state needs)

  -- so the turn can be taken
  pub can_act : CanAct run.shared worker m
  can_act = (order.same_fan worker m its, can_act_on (need_at m.state) refl)

-- each worker's turn can be taken, if there is a number left for a new page
pub turn_is_ready : StepLaw → TurnIsReady
turn_is_ready laws entries run worker place m next invariant is_next room = can_act laws entries run worker place m next invariant is_next room
