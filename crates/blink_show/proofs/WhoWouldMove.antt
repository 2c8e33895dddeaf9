-- Which workers would move, by what a world tells of them.
use Rattle.std.proofs.Common.{◌≡◌, ℕ, ◌+◌, ◌<◌, List, Option, Some, None, length, get_or, refl, sym, arith}
use Rattle.std.proofs.lemmas.Option.{slice_get-get_or}
use Rattle.std.specs.List.{slice_get}
use Rattle.blink_batch.specs.declared.Op.{Op}
use Rattle.blink_batch.specs.declared.Op.TheVariants.{Find}
use Rattle.blink_batch.specs.{next_place}
use Rattle.blink_batch.proofs.Offered.{next_place_is}
use Rattle.blink_machine.specs.{fresh}
use Rattle.blink_steps.specs.{IsIdleWorker, WouldMove, WouldWait, IsPromised, IsNextOf, PlainRun, idle_seat, IdleInvariant, IsWorld, PlainWorld}
use Rattle.blink_steps.specs.RunInvariant.{RunInvariant}
use Rattle.blink_steps.proofs.Offered.{next_is_unanswered, invariant}
use Rattle.blink_show.specs.Draw.{LeavesUndecided}

-- an idle worker whose lane goes on leaves an operation undecided
pub idle_leaves : (world : PlainWorld) (worker place : ℕ) → IsWorld world → slice_get world.run.seats worker ≡ Some (idle_seat (Some place))
    → LeavesUndecided world.run.outcome.answers world.run.assignment.lanes worker
idle_leaves world worker place is seated =
    let run : PlainRun = world.run in
    let lanes : List ℕ = run.assignment.lanes in
    let found = invariant world is in
    let invariant : RunInvariant found.0 run = found.1 in
    let idle : IdleInvariant run worker (Some place) = invariant.seats worker (idle_seat (Some place)) seated in
    let its = next_place_is lanes worker idle.from place (sym idle.next_of_lane) in
    let below : place < length lanes = its.1 in
    let within : place < length run.ops = omega (arith, invariant.shaped.a_lane_each) in
    let op : Op = get_or run.ops place (Find 0) in
    let there : slice_get run.ops place ≡ Some op = slice_get-get_or run.ops place (Find 0) within in
    let next : Option ℕ = next_place lanes worker (place + 1) in
    record {
      place = place;
      its = its.2;
      undecided = next_is_unanswered found.0 run worker place (fresh run.shared.store.fan op) next invariant (IsNextOf.taken_on op seated there refl refl) refl;
    }

module _ (world : PlainWorld) (worker : ℕ) where
  -- who would wait wouldn't move
  pub waiter : WouldWait world.run worker → ¬ WouldMove world.run worker
  waiter waits moves = moves.not_waiting waits

  -- who has an operation under way, and wouldn't wait, would move
  pub goes_on : ¬ WouldWait world.run worker → ¬ IsIdleWorker world.run worker → WouldMove world.run worker
  goes_on no_wait busy = record { not_waiting = no_wait; not_at_end = λ at_end. busy (record { next = None; seated = at_end }) }

  -- an idle worker would move if it leaves an operation undecided
  pub leaver : IsWorld world → IsPromised world → ¬ WouldWait world.run worker → LeavesUndecided world.run.outcome.answers world.run.assignment.lanes worker → WouldMove world.run worker
  leaver is promised no_wait leaves = record {
    not_waiting = no_wait;
    not_at_end = (promised is.0 is.1).each_has_its_turn worker (record { place = leaves.place; of_lane = leaves.its; undecided = leaves.undecided });
  }

  -- and only then
  pub left : IsWorld world → IsIdleWorker world.run worker → WouldMove world.run worker → LeavesUndecided world.run.outcome.answers world.run.assignment.lanes worker
  left is idle moves = by_next idle.next idle.seated
    where
      by_next : (next : Option ℕ) → slice_get world.run.seats worker ≡ Some (idle_seat next) → LeavesUndecided world.run.outcome.answers world.run.assignment.lanes worker
      by_next None seated = absurd (moves.not_at_end seated)
      by_next (Some place) seated = idle_leaves world worker place is seated
