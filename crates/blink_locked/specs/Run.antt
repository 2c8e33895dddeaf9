-- What a run of a batch leaves, whose answers they are, and of which replay the tree is; and why a batch isn't run.
use Rattle.std.specs.Prelude.{◌≡◌, ◌+◌, ◌*◌, ◌<◌, ◌≤◌, ℕ, Some, List, count_by, length, map}
use Rattle.blink_batch.specs.declared.Answer.{Answer}
use Rattle.blink_batch.specs.declared.Op.{Op}
use Rattle.blink_batch.specs.{Assignment, is_insert}
use Rattle.blink_page.specs.declared.limits.TheConstants.{MAX_NEW_PAGES_PER_INSERT}
use Rattle.blink_rest.specs.{IsStoreAtRest}
use Rattle.blink_store.specs.{PlainStore}
use Rattle.blink_steps.specs.{IsOneThread, IsReachedThroughout, PlainWorld, IsReplay, IsTooLarge, HasEnded}
use Rattle.blink_locked.specs.Book.{AllMoved}
use Rattle.blink_settings.specs.declared.error.RunError.{RunError}
use Rattle.blink_settings.specs.declared.error.RunError.TheVariants.{TooLarge, OutOfMemory, Worker, Foreign}

-- a replay of the batch and its lanes leads from the tree before to the tree after; in its schedule every turn moved, and all
-- operations end
pub record IsReplayed (before : PlainStore) (ops : List Op) (assignment : Assignment) (after : PlainStore) : Type 0 where
  pub world : PlainWorld
  pub replay : IsReplay before ops assignment world.schedule world
  pub all_moved : AllMoved replay.is_world.history
  pub all_ended : HasEnded world.run
  pub same_tree : world.run.shared.store ≡ after
  -- in every tree state of the replay each key then present is reached from the root
  pub reached : IsReachedThroughout before world replay.is_world

-- a tree has at most the pages of the tree before, and 22 for each insertion of the batch
abbrev pub HasFewPagesMore : PlainStore → List Op → PlainStore → Type 0
HasFewPagesMore before ops after = length after.pages ≤ length before.pages + MAX_NEW_PAGES_PER_INSERT * count_by is_insert ops

-- these are the run's answers, place by place; they and the entries are those of one thread, and the tree is at rest
pub record IsSettled (before : PlainStore) (ops : List Op) (assignment : Assignment) (after : PlainStore) (given : List Answer) : Type 0 where
  pub replayed : IsReplayed before ops assignment after
  pub same_answers : replayed.world.run.outcome.answers ≡ map Some given
  pub one_thread : IsOneThread before replayed.world.run
  pub at_rest : IsStoreAtRest after
  pub same_fan : after.fan ≡ before.fan
  pub few_pages : HasFewPagesMore before ops after

-- why a batch isn't run on this tree by so many workers: it is too large for the tree; or it isn't, and memory was refused, or the
-- thread of one of the workers couldn't be started, or one of them left its lane before the end
abbrev pub MayRefuse : ℕ → PlainStore → List Op → RunError → Type 0
MayRefuse workers before ops TooLarge = IsTooLarge before ops
MayRefuse workers before ops OutOfMemory = ¬ IsTooLarge before ops
MayRefuse workers before ops (Worker worker) = (¬ IsTooLarge before ops) × worker < workers
MayRefuse workers before ops Foreign = ¬ IsTooLarge before ops
