-- What one thread would answer and leave, whatever the schedule was; and in every tree state each key then present is reached.
use Rattle.std.specs.Prelude.{◌≡◌, ℕ, ◌+◌, ◌*◌, ◌≤◌, Some, List, length, map, count_by}
use Rattle.blink_batch.specs.declared.Entry.{Entry}
use Rattle.blink_batch.specs.declared.Op.{Op}
use Rattle.blink_batch.specs.{is_insert, Assignment, IsLawfulCut, answers, map_after_all, pointer_of}
use Rattle.blink_rest.specs.{IsReached}
use Rattle.blink_store.specs.{PlainStore, page_of}
use Rattle.blink_steps.specs.Decided.{map_now}
use Rattle.blink_page.specs.declared.limits.TheConstants.{MAX_NEW_PAGES_PER_INSERT}
use Rattle.blink_steps.specs.Run.{PlainRun}
use Rattle.blink_machine.specs.{IsMapOf}
use Rattle.blink_steps.specs.StepBounds.{all_moves, steps_at_most_with}
use Rattle.blink_steps.specs.World.{PlainWorld, IsWorldOf, HasEnded, AfterEachTurn}

-- the answers, and the tree's entries afterwards, are those of one thread that runs the batch in its own order on the plain list
-- of the entries at the start
pub record IsOneThread (start : PlainStore) (run : PlainRun) : Type 0 where
  pub same_answers : (entries : List Entry) → IsMapOf start entries
      → run.outcome.answers ≡ map Some (answers entries run.ops)
  pub same_entries : (entries : List Entry) → IsMapOf start entries
      → IsMapOf run.shared.store (map_after_all entries run.ops)

-- each key present after the operations decided so far is reached from the root, with its pointer
abbrev pub ReachesPresent : List Entry → PlainRun → Type 0
ReachesPresent entries run = (key pointer : ℕ) → pointer_of (map_now entries run) key ≡ Some pointer
    → IsReached run.shared.store.prime (page_of run.shared.store) key pointer

-- each present key is reached so at the first tree state, and after each turn
pub record IsReachedThroughout (start : PlainStore) (world : PlainWorld)
    (is_world : IsWorldOf start world) : Type 0 where
  pub at_first : (entries : List Entry) → IsMapOf start entries → ReachesPresent entries is_world.opening
  pub after_each : (entries : List Entry) → IsMapOf start entries
      → AfterEachTurn (ReachesPresent entries) is_world.opening is_world.history world.run is_world.follows

-- **The headline** of a batch's run over a tree, by some lanes and any schedule
pub record NoKeyIsLost (start : PlainStore) (ops : List Op) (assignment : Assignment) (world : PlainWorld) : Type 0 where
  -- if each key is one worker's and all operations have ended, answer i is the one that one thread gives to operation i
  pub answers_place_by_place : (entries : List Entry) → IsMapOf start entries → IsLawfulCut ops assignment.workers assignment.lanes → HasEnded world.run
      → world.run.outcome.answers ≡ map Some (answers entries ops)
  -- under the same conditions the tree's entries are those that one thread leaves
  pub entries_of_one_thread : (entries : List Entry) → IsMapOf start entries → IsLawfulCut ops assignment.workers assignment.lanes → HasEnded world.run
      → IsMapOf world.run.shared.store (map_after_all entries ops)
  -- in every tree state, whatever the lanes, each key then present is reached from the root
  pub reached_at_every_tree_state : (is_world : IsWorldOf start world) → IsReachedThroughout start world is_world
  -- no schedule has more moving steps than this
  pub steps_bounded : (is_world : IsWorldOf start world)
      → all_moves is_world.history ≤ length ops * steps_at_most_with (length start.pages + MAX_NEW_PAGES_PER_INSERT * count_by is_insert ops)
