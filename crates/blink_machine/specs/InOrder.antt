-- What the invariant gives: the tree is lawful except for debts, and each operation can take its next step, whoever runs it.
use Rattle.std.specs.Prelude.{◌≡◌, ℕ, ◌<◌, ◌≤◌, Option, Some, List, length, All}
use Rattle.blink_page.specs.{IsPageNumber, PlainPage, IsLawfulPage, least_above}
use Rattle.blink_page.specs.declared.limits.TheConstants.{LEVELS}
use Rattle.blink_rest.specs.{Pages}
use Rattle.blink_machine.specs.declared.step.Step.TheVariants.{Moved}
use Rattle.blink_machine.specs.Kinds.{write_page}
use Rattle.blink_machine.specs.Machine.{PlainMachine, NeedsPrime, NeedsPage, NeedsLatch, NeedsNew, NeedsWrite, NeedsPrimeWrite, NeedsUnlatch, level_read, target}
use Rattle.blink_machine.specs.TreeState.{TreeState, IsItsOperation, Steps}
use Rattle.blink_machine.specs.Owned.{HoldOneLatchEach, IsItsToWrite}
use Rattle.blink_machine.specs.Table.{SeesPrime, WaitsForLevel, SeesPage, PrimeOut, page_out}
use Rattle.blink_machine.specs.TreeWithDebts.{IsTreeWithDebts}

-- ---- latches

-- the page that an operation latches next exists, and its worker holds no latch
pub record LatchesWell (pages : Pages) (holder : ℕ → Option ℕ) (worker number : ℕ) : Type 0 where
  pub page : PlainPage
  pub there : pages number ≡ Some page
  pub holds_none : (held : ℕ) → ¬ (holder held ≡ Some worker)

-- ---- reads

-- the page is one that `saw_page` takes: of the level that the operation's state says, with no floor or one below its key, and
-- not too long
pub record IsReadable (m : PlainMachine) (page : PlainPage) : Type 0 where
  pub has_level : page.level ≡ level_read m
  pub floor_below : least_above page.floor ≤ target m
  pub at_most_fan : length page.entries ≤ m.fan

-- exactly one machine comes of a page that is read
pub record ReadsOneMachine (m : PlainMachine) (number : ℕ) (page : PlainPage) : Type 0 where
  pub after : PlainMachine
  pub sees : SeesPage m number page after
  pub only : (other : PlainMachine) → SeesPage m number page other → other ≡ after

-- the page that an operation reads next exists, and is readable
pub record ReadsWell (tree_state : TreeState) (m : PlainMachine) (number : ℕ) : Type 0 where
  pub page : PlainPage
  pub there : tree_state.pages number ≡ Some page
  pub lawful : IsLawfulPage tree_state.fan page
  pub readable : IsReadable m page
  pub one_machine : ReadsOneMachine m number page

-- an operation that reads the prime block waits, or exactly one machine comes of it
pub data ReadsPrimeWell (m : PlainMachine) (prime : List ℕ) : Type 0 where
  waits : WaitsForLevel m prime → ((after : PlainMachine) → ¬ SeesPrime m prime after) → ReadsPrimeWell m prime
  goes_on : (after : PlainMachine) → SeesPrime m prime after → ((other : PlainMachine) → SeesPrime m prime other → other ≡ after)
      → ¬ WaitsForLevel m prime → ReadsPrimeWell m prime

-- ---- writes

-- the page that an operation writes next exists, its worker holds the latch, and what it writes is lawful and stands as the page
-- did
pub record WritesWell (tree_state : TreeState) (worker : ℕ) (m : PlainMachine) (number : ℕ) : Type 0 where
  pub before : PlainPage
  pub there : tree_state.pages number ≡ Some before
  pub same_floor : (page_out m 0).floor ≡ before.floor
  pub same_level : (page_out m 0).level ≡ before.level
  pub lawful : IsLawfulPage tree_state.fan (page_out m 0)
  pub latched : tree_state.holder number ≡ Some worker

-- a step that writes a page writes one whose latch its worker holds, or under a number that no page has
abbrev pub WritesItsOwnPage : TreeState → Type 0
WritesItsOwnPage tree_state = (then : TreeState) (worker number : ℕ) (m after : PlainMachine) → IsItsOperation tree_state worker m → Steps tree_state worker m (Moved (write_page number)) after then
    → IsItsToWrite tree_state.holder tree_state.pages worker number

-- ---- the whole

pub record IsInOrder (tree_state : TreeState) : Type 0 where
  pub tree : IsTreeWithDebts tree_state
  pub few_levels : length tree_state.prime < LEVELS
  pub same_fan : (worker : ℕ) (m : PlainMachine) → IsItsOperation tree_state worker m → m.fan ≡ tree_state.fan
  pub one_latch : HoldOneLatchEach tree_state.holder
  pub writes_its_own : WritesItsOwnPage tree_state
  pub latches : (worker number : ℕ) (m : PlainMachine) → IsItsOperation tree_state worker m → NeedsLatch m number → LatchesWell tree_state.pages tree_state.holder worker number
  pub unlatches : (worker number : ℕ) (m : PlainMachine) → IsItsOperation tree_state worker m → NeedsUnlatch m number → tree_state.holder number ≡ Some worker
  pub reads_page : (worker number : ℕ) (m : PlainMachine) → IsItsOperation tree_state worker m → NeedsPage m number → ReadsWell tree_state m number
  pub reads_prime : (worker : ℕ) (m : PlainMachine) → IsItsOperation tree_state worker m → NeedsPrime m → ReadsPrimeWell m tree_state.prime
  pub writes_page : (worker number : ℕ) (m : PlainMachine) → IsItsOperation tree_state worker m → NeedsWrite m number → WritesWell tree_state worker m number
  pub writes_new : (worker number : ℕ) (m : PlainMachine) → IsItsOperation tree_state worker m → NeedsNew m → IsPageNumber number → IsLawfulPage tree_state.fan (page_out m number)
  pub writes_prime : (worker : ℕ) (m : PlainMachine) (prime : List ℕ) → IsItsOperation tree_state worker m → NeedsPrimeWrite m → PrimeOut m prime
      → All IsPageNumber tree_state.prime → All IsPageNumber prime
