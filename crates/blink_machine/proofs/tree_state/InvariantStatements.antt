-- What the lemmas about tree states say, beside the parts of the law of a step.
use Rattle.std.proofs.Common.{◌≡◌, ◌≢◌, ℕ, ◌<◌, ◌≤◌, Some, List, length, All}
use Rattle.blink_page.specs.{IsPageNumber, PlainPage, IsLawfulPage, least_above}
use Rattle.blink_machine.specs.declared.machine.Next.{Next}
use Rattle.blink_machine.specs.declared.machine.State.TheVariants.{Leave}
use Rattle.blink_machine.specs.InOrder.{WritesWell}
use Rattle.blink_machine.specs.Machine.{PlainMachine, NeedsPage, NeedsLatch, NeedsWrite, NeedsNew, NeedsPrimeWrite, level_of, level_read, target}
use Rattle.blink_machine.specs.TreeState.{TreeState, IsItsOperation}
use Rattle.blink_machine.specs.Owned.{latch_of}
use Rattle.blink_machine.specs.Invariant.{Invariant}
use Rattle.blink_machine.specs.Table.{PrimeOut, WaitsForLevel, page_out}

-- while an operation is under way, some worker's next step is not a wait: a worker waits for a latch only while another
-- holds it, who doesn't wait, and for a level only while another is about to make it
pub data IsWaiting (tree_state : TreeState) (m : PlainMachine) : Type 0 where
  for_latch : (page holder : ℕ) → NeedsLatch m page → tree_state.holder page ≡ Some holder → IsWaiting tree_state m
  for_level : WaitsForLevel m tree_state.prime → IsWaiting tree_state m

pub record SomeoneMoves (tree_state : TreeState) : Type 0 where
  pub worker : ℕ
  pub m : PlainMachine
  pub under_way : tree_state.machines worker ≡ Some m
  pub moves : ¬ IsWaiting tree_state m

abbrev pub NeverStuck : Type 0
NeverStuck = (tree_state : TreeState) (worker : ℕ) (m : PlainMachine) → Invariant tree_state → tree_state.machines worker ≡ Some m → SomeoneMoves tree_state

-- the page that an operation reads is there, is one of the level that its state says, and begins below its key
pub record IsThereToRead (tree_state : TreeState) (m : PlainMachine) (number : ℕ) : Type 0 where
  pub page : PlainPage
  pub there : tree_state.pages number ≡ Some page
  pub lawful : IsLawfulPage tree_state.fan page
  pub has_level : page.level ≡ level_read m
  pub floor_below : least_above page.floor ≤ target m

abbrev pub ReadsAreGood : Type 0
ReadsAreGood = (tree_state : TreeState) (worker : ℕ) (m : PlainMachine) (number : ℕ) → Invariant tree_state → IsItsOperation tree_state worker m → NeedsPage m number
    → IsThereToRead tree_state m number

-- the page that an operation writes is there, and what it writes is lawful and stands as it did
abbrev pub WritesAreGood : Type 0
WritesAreGood = (tree_state : TreeState) (worker : ℕ) (m : PlainMachine) (number : ℕ) → Invariant tree_state → IsItsOperation tree_state worker m → NeedsWrite m number
    → WritesWell tree_state worker m number

-- a new page has at most as many entries as the fan allows, and is lawful
abbrev pub NewPagesAreGood : Type 0
NewPagesAreGood = (tree_state : TreeState) (worker number : ℕ) (m : PlainMachine) → Invariant tree_state → IsItsOperation tree_state worker m → NeedsNew m → IsPageNumber number
    → IsLawfulPage tree_state.fan (page_out m number)

-- a prime block that an operation writes names page numbers only
abbrev pub PrimeWritesAreGood : Type 0
PrimeWritesAreGood = (tree_state : TreeState) (worker : ℕ) (m : PlainMachine) (prime : List ℕ) → Invariant tree_state → IsItsOperation tree_state worker m → NeedsPrimeWrite m
    → PrimeOut m prime → All IsPageNumber tree_state.prime → All IsPageNumber prime

-- fewer than 21 levels are named
abbrev pub LevelsAreFew : Type 0
LevelsAreFew = (tree_state : TreeState) → Invariant tree_state → length tree_state.prime ≤ 20

-- a job is on one of these levels, while it has a page of its level, which it is not about to leave
abbrev pub JobsAreOnLevels : Type 0
JobsAreOnLevels = (tree_state : TreeState) (worker : ℕ) (m : PlainMachine) (page : ℕ) → Invariant tree_state → tree_state.machines worker ≡ Some m → latch_of m ≡ Some page
    → ((next : Next) → m.state ≢ Leave page next) → level_of m.job < length tree_state.prime
