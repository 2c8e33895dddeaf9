-- What is promised of every world, and that every worker's turn can be taken.
use Rattle.std.proofs.Common.{ℕ, ◌+◌, ◌<◌, ◌^◌, List, Option, length, subst}
use Rattle.blink_batch.specs.declared.Op.{Op}
use Rattle.blink_batch.specs.{Assignment}
use Rattle.blink_steps.specs.Headline.{NoKeyIsLost}
use Rattle.blink_batch.specs.declared.Entry.{Entry}
use Rattle.blink_store.specs.{PlainStore}
use Rattle.blink_steps.specs.StepBounds.{WithinStepBound}
use Rattle.blink_machine.specs.{PlainMachine}
use Rattle.blink_steps.specs.Promises.{KeepsItsPromises}
use Rattle.blink_steps.specs.Run.{IsNextOf}
use Rattle.blink_steps.specs.RunInvariant.{IsShaped, RunInvariant, CanTakeTurn}
use Rattle.blink_steps.specs.World.{PlainWorld, IsWorldOf, IsWorld, IsReplay}
use Rattle.blink_steps.proofs.runs.RunLaws.{run_laws}
use Rattle.blink_steps.proofs.runs.RunStatements.{CountsAreOf}
use Rattle.blink_machine.proofs.Offered.{entries_at_start}
use Rattle.blink_steps.proofs.worlds.WorldsGoFurther.{counts_with, place_within, promises_with, shaped_with, invariant_now, turn_can_be_taken}

-- what is promised of a world
pub promises : (start : PlainStore) (world : PlainWorld) (is_world : IsWorldOf start world) → KeepsItsPromises start world is_world
promises start world is_world = let found = entries_at_start start is_world.may_begin.at_rest in promises_with run_laws start world is_world found.0 found.1

-- its lists have their lengths
pub shaped : (world : PlainWorld) → IsWorld world → IsShaped world.run
shaped world is = let found = entries_at_start is.0 is.1.may_begin.at_rest in shaped_with run_laws is.0 world is.1 found.0 found.1

-- a worker's turn can be taken
pub can_take_turn : (world : PlainWorld) → IsWorld world → (worker : ℕ) → worker < world.run.assignment.workers → length world.schedule + 1 < 2 ^ 64 → CanTakeTurn world.run worker
can_take_turn world is worker within short = let found = entries_at_start is.0 is.1.may_begin.at_rest in turn_can_be_taken run_laws is.0 world is.1 found.0 found.1 worker within short

-- the pages that an operation has read are counted, and so are its steps
pub counted : (start : PlainStore) (world : PlainWorld) (is_world : IsWorldOf start world) → CountsAreOf is_world.history world.run
counted start world is_world = let found = entries_at_start start is_world.may_begin.at_rest in counts_with run_laws start world is_world found.0 found.1

-- its run has the invariant, whatever map its tree had at the start
pub invariant : (world : PlainWorld) → IsWorld world → (entries : List Entry) × RunInvariant entries world.run
invariant world is = let found = entries_at_start is.0 is.1.may_begin.at_rest in (found.0, invariant_now run_laws is.0 world is.1 found.0 found.1)

-- the way of each of its operations is short
pub short : (start : PlainStore) (world : PlainWorld) (is_world : IsWorldOf start world) → WithinStepBound start is_world.history world.run
short start world is_world =
    let found = entries_at_start start is_world.may_begin.at_rest in
    run_laws.history_is_short start world.run.ops world.run.assignment is_world.opening world.run is_world.history found.0 is_world.may_begin found.1.ascending found.1.kept is_world.is_opening is_world.follows

-- the place of a worker's next operation is one of the batch
pub place_of_next : (world : PlainWorld) → IsWorld world → (worker place : ℕ) (m : PlainMachine) (next : Option ℕ) → IsNextOf world.run worker place m next → place < length world.run.ops
place_of_next world is worker place m next is_next =
    let found = entries_at_start is.0 is.1.may_begin.at_rest in place_within run_laws is.0 world is.1 found.0 found.1 worker place m next is_next

-- a replayed world has the batch and the lanes that it was given
pub replay_loses_no_key : (start : PlainStore) (ops : List Op) (assignment : Assignment) (schedule : List ℕ) (world : PlainWorld) → IsReplay start ops assignment schedule world
    → NoKeyIsLost start ops assignment world
replay_loses_no_key start ops assignment schedule world is =
    subst (λ (xs : List Op). NoKeyIsLost start xs assignment world) is.same_ops
    (subst (λ (a : Assignment). NoKeyIsLost start world.run.ops a world) is.same_assignment (record {
      answers_place_by_place = λ entries is_map cut ended. ((promises start world is.is_world).one_thread cut ended).same_answers entries is_map;
      entries_of_one_thread = λ entries is_map cut ended. ((promises start world is.is_world).one_thread cut ended).same_entries entries is_map;
      reached_at_every_tree_state = λ is_world. (promises start world is_world).reached_throughout;
      steps_bounded = λ is_world. (short start world is_world).moves_in_all;
    }))
