-- The length of an operation: it reads no page twice in its descent and latches none twice, so the number of pages bounds its
-- steps.
use Rattle.std.specs.Prelude.{◌≡◌, ◌≢◌, ℕ, ◌+◌, ◌*◌, ◌≤◌, ◌==◌, ◌&&◌, if◌then◌else◌, Option, Some, None, List, length, count_by, slice_get, AllPairs}
use Rattle.std.specs.List.{filter_map}
use Rattle.blink_batch.specs.declared.Op.TheVariants.{Find}
use Rattle.blink_batch.specs.{is_insert}
use Rattle.blink_store.specs.{PlainStore}
use Rattle.blink_machine.specs.declared.machine.State.{State}
use Rattle.blink_machine.specs.declared.machine.State.TheVariants.{Going, Want}
use Rattle.blink_page.specs.declared.limits.TheConstants.{MAX_NEW_PAGES_PER_INSERT}
use Rattle.blink_steps.specs.Counts.{moves_in, page_reads_in}
use Rattle.blink_machine.specs.{has_moved}
use Rattle.blink_steps.specs.Run.{PlainRun, Event}

-- the page that a descending operation reads at a state
abbrev pub page_on_way : State → Option ℕ
page_on_way (Going page level) = Some page
page_on_way state = None

-- the page that an operation latches at a state
abbrev pub page_to_latch : State → Option ℕ
page_to_latch (Want page) = Some page
page_to_latch state = None

-- of the moving turns of the operation at a place, the pages of those at such a state
abbrev pub pages_of_turns : (State → Option ℕ) → List Event → ℕ → List ℕ
pages_of_turns page_at history place =
    filter_map (λ (taken : Event). if taken.place == place && has_moved taken.step then page_at taken.before.state else None) history

-- the pages that the operation has read in its descent
abbrev pub read_on_way : List Event → ℕ → List ℕ
read_on_way history place = pages_of_turns page_on_way history place

-- the pages that the operation has latched
abbrev pub latched_by : List Event → ℕ → List ℕ
latched_by history place = pages_of_turns page_to_latch history place

-- no two of these pages are the same
abbrev pub AreDifferent : List ℕ → Type 0
AreDifferent pages = AllPairs (λ (page other : ℕ). page ≢ other) pages

-- the number of moving turns of all operations
abbrev pub all_moves : List Event → ℕ
all_moves history = count_by (λ (taken : Event). has_moved taken.step) history

-- no operation takes more steps than this in a tree of this many pages: it reads each at most once in its descent and latches
-- each at most once
abbrev pub steps_at_most_with : ℕ → ℕ
steps_at_most_with pages = 4 * pages + 90

pub record WithinStepBound (start : PlainStore) (history : List Event) (run : PlainRun) : Type 0 where
  pub reads_no_page_twice : (place : ℕ) → AreDifferent (read_on_way history place)
  pub latches_no_page_twice : (place : ℕ) → AreDifferent (latched_by history place)
  pub reads_of_find : (place key : ℕ) → slice_get run.ops place ≡ Some (Find key) → page_reads_in history place ≤ length run.shared.store.pages
  pub moves : (place : ℕ) → moves_in history place ≤ steps_at_most_with (length run.shared.store.pages)
  pub moves_in_all : all_moves history ≤ length run.ops * steps_at_most_with (length start.pages + MAX_NEW_PAGES_PER_INSERT * count_by is_insert run.ops)
