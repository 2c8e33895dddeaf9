-- What a step may make of each thing that operations have for themselves.
use Rattle.std.proofs.Common.{◌≡◌, ℕ, ◌+◌, ◌≤◌, ◌⊎◌, Option, Some, None, List, length, slice_get}
use Rattle.blink_page.specs.{PlainPage}
use Rattle.blink_rest.specs.{Pages, BeginsAt}
use Rattle.blink_machine.specs.declared.machine.Debt.{Debt}
use Rattle.blink_machine.specs.TreeState.{LatchPasses}
use Rattle.blink_machine.specs.TreeWithDebts.{Levels, IsDebt, IsInChain}

-- this is the debt of the level with the separator
pub record Owes (owed : Option Debt) (level separator : ℕ) : Type 0 where
  pub debt : Debt
  pub owes : owed ≡ Some debt
  pub same_level : debt.level ≡ level
  pub same_separator : debt.separator ≡ separator

-- what a step makes of the debts: each is the operation's, or was one before; what the operation owed is paid or still owed by
-- it; it owes a debt with its page; each other debt stays; and what it owes now it owed before, or nobody did
pub record DebtsPass (levels new : Levels) (before now : Option Debt) : Type 0 where
  pub made : (level separator : ℕ) → IsDebt new level separator → Owes now level separator ⊎ IsDebt levels level separator
  pub paid : (level separator : ℕ) → IsDebt new level separator → Owes before level separator → Owes now level separator
  pub is_debt : (debt : Debt) → now ≡ Some debt → IsDebt new debt.level debt.separator × BeginsAt (new debt.level) debt.page (Some debt.separator)
  pub stays : (level separator : ℕ) → IsDebt levels level separator → ¬ Owes before level separator → IsDebt new level separator
  pub taken : (debt : Debt) → now ≡ Some debt → Owes before debt.level debt.separator ⊎ ¬ IsDebt levels debt.level debt.separator

-- what it makes of the pages: each is in a chain, is the operation's, or was there before and isn't one that the operation gave up;
-- the operation's is in no chain; what is in a chain now was so before or was the operation's; and what it has now it had before,
-- or there was no such page
pub record UnlinkedPasses (pages after : Pages) (levels new : Levels) (before now : Option ℕ) : Type 0 where
  pub placed : (number : ℕ) (page : PlainPage) → after number ≡ Some page → IsInChain new number ⊎ ((now ≡ Some number) ⊎ ((there : PlainPage) × (pages number ≡ Some there) × (before ≡ Some number → now ≡ Some number)))
  pub in_no_chain : (number : ℕ) → now ≡ Some number → ¬ IsInChain new number
  pub linked : (number : ℕ) → IsInChain new number → IsInChain levels number ⊎ (before ≡ Some number)
  pub taken : (number : ℕ) → now ≡ Some number → (before ≡ Some number) ⊎ (pages number ≡ None)

-- the top level was as long before, and its leftmost page is still the operation's if it was so before
pub record WasLong (prime : List ℕ) (levels : Levels) (level leftmost : ℕ) (before now : Option ℕ) : Type 0 where
  pub top : length prime ≡ level + 1
  pub leftmost_there : slice_get prime level ≡ Some leftmost
  pub long : 2 ≤ length (levels level)
  pub kept : before ≡ Some leftmost → now ≡ Some leftmost

-- what it makes of a top level that grows: the operation's is its leftmost page, or it was so before
abbrev pub SplitPasses : List ℕ → List ℕ → Levels → Levels → Option ℕ → Option ℕ → Type 0
SplitPasses prime after levels new before now = (level leftmost : ℕ) → length after ≡ level + 1 → slice_get after level ≡ Some leftmost → 2 ≤ length (new level)
    → (now ≡ Some leftmost) ⊎ WasLong prime levels level leftmost before now

-- what it makes of the latches
pub data LatchesPass (old new : ℕ → Option ℕ) (worker : ℕ) (before now : Option ℕ) : Type 0 where
  keeps_latch : new ≡ old → now ≡ before → LatchesPass old new worker before now
  gets_latch : (page : ℕ) → before ≡ None → now ≡ Some page → old page ≡ None → LatchPasses old new page (Some worker) → LatchesPass old new worker before now
  lets_go : (page : ℕ) → before ≡ Some page → now ≡ None → LatchPasses old new page None → LatchesPass old new worker before now
