-- How a book begins and goes on, and what it shows at its end.
use Rattle.std.proofs.Common.{◌≡◌, ℕ, ◌<◌, Bool, true, false, Option, Some, None, is_some, List, [], length, map, get_or, refl, ap, sym, ◌∙◌, subst, arith}
use Rattle.std.specs.Prelude.{slice_get}
use Rattle.std.proofs.lemmas.List.Elements.{All-cons}
use Rattle.std.proofs.lemmas.Option.{get_or_from_slice_get, slice_get-get_or, slice_get_within}
use Rattle.blink_batch.specs.declared.Answer.{Answer}
use Rattle.blink_batch.specs.declared.Op.{Op}
use Rattle.blink_batch.specs.{Assignment, IsLawfulCut}
use Rattle.blink_store.specs.{PlainStore}
use Rattle.blink_machine.specs.declared.step.Step.{Step}
use Rattle.blink_steps.proofs.Offered.{IsDone, no_turn_yet, fan_stays, pages_stay_few}
use Rattle.blink_steps.specs.{HasMoved, IsIdleWorker, HasAnswerAt, IsPromised, KeepsItsPromises, PlainRun, Event, PlainWorld, GoesOnBy, HasEnded, IsAtLanesEnd, IsStart, IsWorldOf, SameBatch}
use Rattle.blink_locked.specs.Book.{AllMoved, HasEndedOp, IsBook}
use Rattle.blink_locked.specs.Run.{HasFewPagesMore, IsSettled}

-- ---- the book's beginning

-- a world whose schedule tells no turn has moved at each
none_moved : (start : PlainStore) (world : PlainWorld) (is_world : IsWorldOf start world) → world.schedule ≡ [] → AllMoved is_world.history
none_moved start world is_world none = subst AllMoved (sym (no_turn_yet start world is_world none)) (λ k default within. absurd (omega arith))

-- a world that begins is a book's, whatever names what it began with
pub begins_book : (start : PlainStore) (ops : List Op) (assignment : Assignment) (world : PlainWorld) → IsStart start ops assignment world
    → (tree : PlainStore) (batch : List Op) (lanes : Assignment) → tree ≡ start → batch ≡ ops → lanes ≡ assignment → IsBook tree batch lanes world
begins_book start ops assignment world is tree batch lanes same_tree same_batch same_lanes = record {
  is_world = subst (λ (s : PlainStore). IsWorldOf s world) (sym same_tree) is.is_world;
  same_ops = is.same_ops ∙ sym same_batch;
  same_assignment = is.same_assignment ∙ sym same_lanes;
  all_moved = none_moved tree world (subst (λ (s : PlainStore). IsWorldOf s world) (sym same_tree) is.is_world) is.same_schedule;
}

-- ---- a turn

-- a book goes on by a turn that moved
pub moves_book : (start : PlainStore) (ops : List Op) (assignment : Assignment) (old new : PlainWorld) (worker : ℕ) (step : Step) → IsBook start ops assignment old
    → GoesOnBy old worker step new → SameBatch old.run new.run → HasMoved step → IsBook start ops assignment new
moves_book start ops assignment old new worker step is goes same moved =
    let more = goes start is.is_world in
    let moved_too : HasMoved more.taken.step = subst HasMoved (sym more.same_step) moved in
    record {
      is_world = more.now;
      same_ops = same.same_ops ∙ is.same_ops;
      same_assignment = same.same_assignment ∙ is.same_assignment;
      all_moved = subst AllMoved (sym more.one_more) (All-cons (λ (taken : Event). HasMoved taken.step) more.taken is.is_world.history moved_too is.all_moved);
    }

-- where nothing of the world changed it stays one
pub stays_book : (start : PlainStore) (ops : List Op) (assignment : Assignment) (old new : PlainWorld) → IsBook start ops assignment old → new ≡ old → IsBook start ops assignment new
stays_book start ops assignment old new is same = subst (λ (world : PlainWorld). IsBook start ops assignment world) (sym same) is

-- an answer that is found
answer_there : (given : List (Option Answer)) (op : ℕ) → op < length given → is_some (get_or given op None) ≡ true → HasAnswerAt given op
answer_there given op within some = by_found (get_or given op None) refl some
  where
    by_found : (found : Option Answer) → get_or given op None ≡ found → is_some found ≡ true → HasAnswerAt given op
    by_found None found some = absurd (cc)
    by_found (Some answer) found some = (answer, slice_get-get_or given op None within ∙ ap (λ (o : Option Answer). Some o) found)

-- and one that isn't
pub no_answer : (given : List (Option Answer)) (op : ℕ) → is_some (get_or given op None) ≡ false → HasAnswerAt given op → ⊥
no_answer given op none has =
    let found : get_or given op None ≡ Some has.0 = get_or_from_slice_get given op (Some has.0) None has.1 in
    let some : is_some (get_or given op None) ≡ true = ap is_some found in
    absurd (cc)

-- an operation with its answer has ended where its worker is idle
pub ended_where_idle : (run : PlainRun) (worker op : ℕ) (idle : Bool) → op < length run.outcome.answers → is_some (get_or run.outcome.answers op None) ≡ true
    → (idle ≡ true → IsIdleWorker run worker) × (IsIdleWorker run worker → idle ≡ true) → (idle ≡ true → HasEndedOp run worker op) × (HasEndedOp run worker op → idle ≡ true)
ended_where_idle run worker op idle within some exact = (λ yes. (answer_there run.outcome.answers op within some, exact.0 yes), λ ended. exact.1 ended.1)

-- an operation of the worker's is one of the batch
pub own_within : (start : PlainStore) (world : PlainWorld) → IsWorldOf start world → (worker op : ℕ) → slice_get world.run.assignment.lanes op ≡ Some worker → op < length world.run.ops
own_within start world is_world worker op own = omega (arith, slice_get_within world.run.assignment.lanes op worker own, is_world.may_begin.a_lane_each)

-- who has an operation is one of the run's workers
pub is_worker : (start : PlainStore) (world : PlainWorld) → IsWorldOf start world → (worker op : ℕ) → slice_get world.run.assignment.lanes op ≡ Some worker
    → worker < world.run.assignment.workers
is_worker start world is_world worker op own =
    let found : get_or world.run.assignment.lanes op 0 ≡ worker = get_or_from_slice_get world.run.assignment.lanes op worker 0 own in
    subst (λ lane. lane < world.run.assignment.workers) found
    (is_world.may_begin.lanes.lanes_are_workers op 0 (slice_get_within world.run.assignment.lanes op worker own))

-- a worker whose operation hasn't ended isn't at its lane's end
pub has_more : (start : PlainStore) (world : PlainWorld) (is_world : IsWorldOf start world) (worker op : ℕ) → KeepsItsPromises start world is_world → length world.run.outcome.answers ≡ length world.run.ops
    → slice_get world.run.assignment.lanes op ≡ Some worker → op < length world.run.ops → ¬ HasEndedOp world.run worker op → ¬ IsAtLanesEnd world.run worker
has_more start world is_world worker op kept one_each own within goes_on at_end = by_answer (get_or world.run.outcome.answers op None) (slice_get-get_or world.run.outcome.answers op None (omega arith))
  where
    by_answer : (found : Option Answer) → slice_get world.run.outcome.answers op ≡ Some found → ⊥
    by_answer None there = kept.each_has_its_turn worker (record { place = op; of_lane = own; undecided = there }) at_end
    by_answer (Some answer) there = goes_on ((answer, there), record { next = None; seated = at_end })

-- ---- the end

-- a book at its end is settled
pub settled : (start : PlainStore) (ops : List Op) (assignment : Assignment) (world : PlainWorld) → IsBook start ops assignment world → IsPromised world
    → IsLawfulCut ops assignment.workers assignment.lanes → HasEnded world.run → (given : List Answer) → world.run.outcome.answers ≡ map Some given
    → (tree : PlainStore) → tree ≡ world.run.shared.store → IsSettled start ops assignment tree given
settled start ops assignment world is promised lawful ended given all_given tree same =
    let kept = promised start is.is_world in
    let cut : IsLawfulCut world.run.ops world.run.assignment.workers world.run.assignment.lanes =
    subst (λ (xs : List Op). IsLawfulCut xs world.run.assignment.workers world.run.assignment.lanes) (sym is.same_ops)
    (subst (λ (a : Assignment). IsLawfulCut ops a.workers a.lanes) (sym is.same_assignment) lawful) in
    subst (λ (t : PlainStore). IsSettled start ops assignment t given) (sym same)
    (record {
      replayed = record {
        world = world;
        replay = record { is_world = is.is_world; same_ops = is.same_ops; same_assignment = is.same_assignment; same_schedule = refl };
        all_moved = is.all_moved;
        all_ended = ended;
        same_tree = refl;
        reached = kept.reached_throughout;
      };
      same_answers = all_given;
      one_thread = kept.one_thread cut ended;
      at_rest = (kept.ended ended).at_rest;
      same_fan = fan_stays start world is.is_world;
      few_pages = subst (λ (xs : List Op). HasFewPagesMore start xs world.run.shared.store) is.same_ops (pages_stay_few start world is.is_world kept);
    })

-- a settled run is done
pub settled_done : (before after : PlainStore) (ops : List Op) (assignment : Assignment) (given : List Answer) → IsSettled before ops assignment after given → IsDone before after ops given
settled_done before after ops assignment given settled = record {
  run = settled.replayed.world.run;
  same_ops = settled.replayed.replay.same_ops;
  same_answers = settled.same_answers;
  same_tree = settled.replayed.same_tree;
  one_thread = settled.one_thread;
  at_rest = settled.at_rest;
}
