-- The decisions of a run's operations so far.
use Rattle.std.specs.Prelude.{◌≡◌, ℕ, ◌<◌, Option, Some, None, List, length, All, Contains, slice_get}
use Rattle.std.specs.List.{zip}
use Rattle.blink_batch.specs.declared.Answer.{Answer}
use Rattle.blink_batch.specs.declared.Entry.{Entry}
use Rattle.blink_batch.specs.declared.Op.{Op}
use Rattle.blink_batch.specs.{answers, map_after_all, operations_at}
use Rattle.blink_steps.specs.Run.{PlainRun, tree_state_of}
use Rattle.blink_machine.specs.{HasEntries}

-- the answers so far are those of a run on a map in the given order, each at its operation's place
abbrev pub AnswersSoFar : List Entry → List Op → List ℕ → List (Option Answer) → Type 0
AnswersSoFar entries ops order given =
    All (λ decided. slice_get given decided.0 ≡ Some (Some decided.1))
    (zip order (answers entries (operations_at ops order)))

-- a map after the operations decided so far, one after another in the order of their deciding steps
abbrev pub map_now : List Entry → PlainRun → List Entry
map_now entries run = map_after_all entries (operations_at run.ops run.outcome.order)

-- answers and entries are those of a run of the operations on the entries at the start, in the order of their deciding steps
pub record IsDecided (entries : List Entry) (run : PlainRun) : Type 0 where
  pub places_of_batch : All (λ place. place < length run.ops) run.outcome.order
  pub answered : AnswersSoFar entries run.ops run.outcome.order run.outcome.answers
  pub undecided : (place : ℕ) → place < length run.ops → ¬ Contains run.outcome.order place
      → slice_get run.outcome.answers place ≡ Some None
  pub kept : HasEntries (tree_state_of run) (map_now entries run)
