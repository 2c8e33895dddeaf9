-- The law that all other facts about steps follow from, in nine parts. It says how the invariant begins to hold, what it says,
-- what a step keeps, decides and uses up, and how it ends. It speaks of pages, latches and operations as partial maps, whatever
-- memory holds them, and of any number of workers.
use Rattle.std.specs.Prelude.{◌≡◌, ℕ, ◌<◌, ◌≤◌, Some, None, List, length}
use Rattle.blink_operation.specs.declared.Entry.{Entry}
use Rattle.blink_operation.specs.declared.Op.{Op}
use Rattle.blink_operation.specs.{FitsWords, answer_of, map_after, IsAscending}
use Rattle.blink_page.specs.{IsFan, IsPageNumber, PlainPage}
use Rattle.blink_rest.specs.{IsAtRest}
use Rattle.blink_machine.specs.declared.step.Step.{Step}
use Rattle.blink_page.specs.declared.limits.TheConstants.{MAX_NEW_PAGES_PER_INSERT, MAX_PAGE_WRITES_PER_INSERT}
use Rattle.blink_machine.specs.Allowance.{HasEnough, UsesUp, numbers_left, writes_left, primes_left}
use Rattle.blink_machine.specs.InOrder.{IsInOrder}
use Rattle.blink_machine.specs.Machine.{PlainMachine, fresh}
use Rattle.blink_machine.specs.TreeState.{TreeState, IsItsOperation, Steps}
use Rattle.blink_machine.specs.Places.{KeepsPlaces, GoesFurther}
use Rattle.blink_machine.specs.Invariant.{Invariant}
use Rattle.blink_machine.specs.Table.{SeesPage}
use Rattle.blink_machine.specs.TreeMap.{HasEntries}

-- ---- 1: it begins

-- a tree at rest, with no latch held and every worker idle
pub record IsOpening (tree_state : TreeState) : Type 0 where
  pub fan_in_range : IsFan tree_state.fan
  pub some_level : 0 < length tree_state.prime
  pub numbers_in_range : (number : ℕ) (page : PlainPage) → tree_state.pages number ≡ Some page → IsPageNumber number
  pub at_rest : IsAtRest tree_state.fan tree_state.prime tree_state.pages
  pub no_latch : (page : ℕ) → tree_state.holder page ≡ None
  pub all_idle : (worker : ℕ) → tree_state.machines worker ≡ None

-- the invariant holds for such a tree state
abbrev pub OpeningHasInvariant : Type 0
OpeningHasInvariant = (tree_state : TreeState) → IsOpening tree_state → Invariant tree_state

-- ---- 2: what it says

-- if the invariant holds, the tree is lawful except for debts, and each operation can take its next step
abbrev pub InvariantGivesOrder : Type 0
InvariantGivesOrder = (tree_state : TreeState) → Invariant tree_state → IsInOrder tree_state

-- ---- 3: its entries

-- the entries of the tree state's tree are this plain map
pub record IsMapAt (tree_state : TreeState) (entries : List Entry) : Type 0 where
  pub ascending : IsAscending entries
  pub kept : HasEntries tree_state entries

-- the tree's entries are exactly one plain map
pub record HasOneMap (tree_state : TreeState) : Type 0 where
  pub entries : List Entry
  pub is_map : IsMapAt tree_state entries
  pub only : (others : List Entry) → IsMapAt tree_state others → others ≡ entries

abbrev pub InvariantGivesOneMap : Type 0
InvariantGivesOneMap = (tree_state : TreeState) → Invariant tree_state → HasOneMap tree_state

-- ---- 4: idle workers

-- the tree states agree on each page number and on each worker; a worker without an operation isn't part of a tree state, so one
-- of the two may have it and the other not
pub record TellTheSame (tree_state other : TreeState) : Type 0 where
  pub same_fan : other.fan ≡ tree_state.fan
  pub same_prime : other.prime ≡ tree_state.prime
  pub same_pages : (number : ℕ) → other.pages number ≡ tree_state.pages number
  pub same_holder : (number : ℕ) → other.holder number ≡ tree_state.holder number
  pub same_machines : (worker : ℕ) → other.machines worker ≡ tree_state.machines worker

-- so one idle worker more or less doesn't matter
abbrev pub IdleWorkersDontMatter : Type 0
IdleWorkersDontMatter = (tree_state other : TreeState) → TellTheSame tree_state other → Invariant tree_state → Invariant other

-- ---- 5: what a step keeps

-- a step keeps the invariant, whatever operation an idle worker begins, and whatever free number a new page gets
abbrev pub StepKeepsInvariant : Type 0
StepKeepsInvariant = (old new : TreeState) (worker : ℕ) (m after : PlainMachine) (step : Step) → Invariant old → FitsWords m.op → IsItsOperation old worker m
    → Steps old worker m step after new → Invariant new

-- ---- 6: what it decides

-- a deciding step answers as the plain map does, and changes the entries as the operation changes the map; no other step changes
-- the entries
pub data Decides (new : TreeState) (m after : PlainMachine) (entries : List Entry) : Type 0 where
  deciding : m.answer ≡ None → after.answer ≡ Some (answer_of entries m.op) → HasEntries new (map_after entries m.op) → Decides new m after entries
  other : after.answer ≡ m.answer → HasEntries new entries → Decides new m after entries

abbrev pub StepDecides : Type 0
StepDecides = (old new : TreeState) (worker : ℕ) (m after : PlainMachine) (step : Step) (entries : List Entry) → Invariant old → FitsWords m.op → IsItsOperation old worker m
    → Steps old worker m step after new → IsAscending entries → HasEntries old entries → Decides new m after entries

-- ---- 7: how it ends

-- if every worker is idle, no latch is held, and the tree is at rest
pub record IsAllAtRest (tree_state : TreeState) : Type 0 where
  pub no_latch : (page : ℕ) → tree_state.holder page ≡ None
  pub at_rest : IsAtRest tree_state.fan tree_state.prime tree_state.pages

abbrev pub AllIdleIsAtRest : Type 0
AllIdleIsAtRest = (tree_state : TreeState) → Invariant tree_state → ((worker : ℕ) → tree_state.machines worker ≡ None) → IsAllAtRest tree_state

-- ---- 8: where pages stand

-- no step removes a page or changes its level or floor, and what an operation reads always leads it further
pub record PlacesStay : Type 0 where
  pub stay : (old new : TreeState) (worker : ℕ) (m after : PlainMachine) (step : Step) → Invariant old → IsItsOperation old worker m
      → Steps old worker m step after new → KeepsPlaces old.pages new.pages
  pub further : (tree_state : TreeState) (worker number : ℕ) (m after : PlainMachine) (page : PlainPage) → Invariant tree_state → IsItsOperation tree_state worker m
      → tree_state.pages number ≡ Some page → SeesPage m number page after → GoesFurther tree_state.pages m number page after

-- ---- 9: what an operation may still need

-- an operation begins with at most this many page numbers and page writes, and one write of the prime block; it has at least one
-- before each such step, and one fewer after it
pub record AllowanceIsUsedUp : Type 0 where
  pub at_its_begin : (fan : ℕ) (op : Op) → (numbers_left (fresh fan op) ≤ MAX_NEW_PAGES_PER_INSERT) × (writes_left (fresh fan op) ≤ MAX_PAGE_WRITES_PER_INSERT) × (primes_left (fresh fan op) ≤ 1)
  pub enough : (tree_state : TreeState) (worker : ℕ) (m : PlainMachine) → Invariant tree_state → IsItsOperation tree_state worker m → HasEnough m
  pub by_step : (old new : TreeState) (worker : ℕ) (m after : PlainMachine) (step : Step) → Invariant old → FitsWords m.op → IsItsOperation old worker m
      → Steps old worker m step after new → UsesUp m step after

-- ---- the whole

pub record StepLaw : Type 0 where
  pub opening_has_invariant : OpeningHasInvariant
  pub invariant_gives_order : InvariantGivesOrder
  pub invariant_gives_one_map : InvariantGivesOneMap
  pub idle_workers_dont_matter : IdleWorkersDontMatter
  pub step_keeps_invariant : StepKeepsInvariant
  pub step_decides : StepDecides
  pub all_idle_is_at_rest : AllIdleIsAtRest
  pub places_stay : PlacesStay
  pub allowance_is_used_up : AllowanceIsUsedUp
