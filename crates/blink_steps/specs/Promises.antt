-- The promises of the world of every schedule, over every tree at rest, for every batch and all lanes.
use Rattle.std.specs.Prelude.{◌≡◌, ℕ, ◌<◌, Option, Some, None, List, length, map, Contains, slice_get, take}
use Rattle.blink_batch.specs.declared.Answer.{Answer}
use Rattle.blink_batch.specs.declared.Entry.{Entry}
use Rattle.blink_batch.specs.{IsLawfulCut, part_of, lane_of, AnswersInOrder, IsWholeOrder}
use Rattle.blink_rest.specs.{IsStoreAtRest}
use Rattle.blink_store.specs.{holder_of, PlainStore}
use Rattle.blink_steps.specs.StepBounds.{WithinStepBound}
use Rattle.blink_steps.specs.Bounds.{IsBounded}
use Rattle.blink_steps.specs.Decided.{IsDecided}
use Rattle.blink_steps.specs.Headline.{IsOneThread, IsReachedThroughout, ReachesPresent}
use Rattle.blink_machine.specs.{HoldOneLatchEach, IsMapOf, HasMap, IsTreeWithDebts}
use Rattle.blink_steps.specs.Run.{PlainRun, tree_state_of}
use Rattle.blink_steps.specs.World.{PlainWorld, IsWorldOf, HasEnded, IsAtLanesEnd, OnEachTurn, WritesItsOwn}

-- the operation at a place has its answer
abbrev pub HasAnswerAt : List (Option Answer) → ℕ → Type 0
HasAnswerAt given place = (answer : Answer) × (slice_get given place ≡ Some (Some answer))

-- no place is decided twice, and the decided places are those with an answer
pub record EachOnce (run : PlainRun) : Type 0 where
  pub at_most_once : (first second place : ℕ) → slice_get run.outcome.order first ≡ Some place
      → slice_get run.outcome.order second ≡ Some place → first ≡ second
  pub has_answer : (place : ℕ) → Contains run.outcome.order place → HasAnswerAt run.outcome.answers place
  pub is_decided : (place : ℕ) → HasAnswerAt run.outcome.answers place → Contains run.outcome.order place

-- the decided places of a worker's lane are a prefix of the lane, in its order
abbrev pub IsPrefixOfLane : PlainRun → ℕ → Type 0
IsPrefixOfLane run worker =
    (count : ℕ)
    × (part_of run.assignment.lanes worker run.outcome.order
    ≡ take count (lane_of run.assignment.lanes worker))

-- the worker's lane has an undecided operation
pub record HasUndecided (run : PlainRun) (worker : ℕ) : Type 0 where
  pub place : ℕ
  pub of_lane : slice_get run.assignment.lanes place ≡ Some worker
  pub undecided : slice_get run.outcome.answers place ≡ Some None

-- every operation has its answer and is decided in its lane's order, and the tree is at rest
pub record IsWholeRun (run : PlainRun) : Type 0 where
  pub all_answered : (place : ℕ) → place < length run.ops → HasAnswerAt run.outcome.answers place
  pub whole_order : IsWholeOrder run.ops run.assignment.lanes run.outcome.order
  pub at_rest : IsStoreAtRest run.shared.store

-- at the end the answers are those of the order of deciding steps, each at its operation's place
pub record IsAnsweredInOrder (entries : List Entry) (run : PlainRun) : Type 0 where
  pub given : List Answer
  pub all_given : run.outcome.answers ≡ map Some given
  pub in_order : AnswersInOrder entries run.ops run.outcome.order given

-- the operations on each key are one worker's
abbrev pub IsLawfullyCut : PlainRun → Type 0
IsLawfullyCut run = IsLawfulCut run.ops run.assignment.workers run.assignment.lanes

pub record KeepsItsPromises (start : PlainStore) (world : PlainWorld)
    (is_world : IsWorldOf start world) : Type 0 where
  pub tree : IsTreeWithDebts (tree_state_of world.run)
  pub has_map : HasMap world.run.shared.store
  pub one_latch : HoldOneLatchEach (holder_of world.run.shared.latches)
  pub writes_its_own : OnEachTurn WritesItsOwn is_world.opening is_world.history world.run is_world.follows
  -- the operations decided so far answer as on a plain map, in the order of their deciding steps, and the tree has the map's
  -- entries
  pub decided : (entries : List Entry) → IsMapOf start entries → IsDecided entries world.run
  pub reached : (entries : List Entry) → IsMapOf start entries → ReachesPresent entries world.run
  pub reached_throughout : IsReachedThroughout start world is_world
  pub once : EachOnce world.run
  pub lanes_in_order : (worker : ℕ) → IsPrefixOfLane world.run worker
  -- a worker whose lane has an undecided operation isn't at its lane's end
  pub each_has_its_turn : (worker : ℕ) → HasUndecided world.run worker
      → ¬ IsAtLanesEnd world.run worker
  pub bounded : IsBounded start is_world.history world.run
  pub short : WithinStepBound start is_world.history world.run
  pub ended : HasEnded world.run → IsWholeRun world.run
  pub ended_in_order : (entries : List Entry) → IsMapOf start entries → HasEnded world.run
      → IsAnsweredInOrder entries world.run
  -- if each key is one worker's, the order doesn't matter
  pub one_thread : IsLawfullyCut world.run → HasEnded world.run → IsOneThread start world.run

-- the promises, over whatever tree the world began with
abbrev pub IsPromised : PlainWorld → Type 0
IsPromised world = (start : PlainStore) (is_world : IsWorldOf start world)
    → KeepsItsPromises start world is_world
