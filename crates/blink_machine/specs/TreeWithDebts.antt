-- A lawful tree with debts: what holds of the pages in every tree state, in five parts. A debt is a split that isn't posted.
use Rattle.std.specs.Prelude.{◌≡◌, ℕ, ◌+◌, ◌<◌, ◌≤◌, ◌⊎◌, Some, None, List, [], length, slice_get}
use Rattle.blink_page.specs.{value_at, PlainPage, root_over, upper_half}
use Rattle.blink_page.specs.declared.limits.TheConstants.{GREATEST_KEY}
use Rattle.blink_rest.specs.{IsChain, Pages, IsMember, entries_along, BeginsAt, IsHighKey, Refers}
use Rattle.blink_rest.specs.Chain.{Cell}
use Rattle.blink_machine.specs.declared.machine.Debt.{Debt}
use Rattle.blink_machine.specs.declared.machine.State.TheVariants.{SplitOld, NewPrime}
use Rattle.blink_machine.specs.Machine.{PlainMachine}
use Rattle.blink_machine.specs.TreeState.{TreeState}
use Rattle.blink_machine.specs.Owned.{debt_of, unlinked_of, split_of}
use Rattle.blink_machine.specs.Table.{overfull}

-- the chain of each level; a level that the prime block doesn't name has no cells
abbrev pub Levels : Type 0
Levels = ℕ → List Cell

-- ---- chains

-- each level that the prime block names is a chain of lawful pages, from its leftmost page on; no other level has pages
pub record LevelsAreChains (fan : ℕ) (prime : List ℕ) (pages : Pages) (levels : Levels)
    : Type 0 where
  pub some_level : 0 < length prime
  pub named : (level leftmost : ℕ) → slice_get prime level ≡ Some leftmost
      → IsChain fan pages level leftmost (levels level)
  pub unnamed : (level : ℕ) → length prime ≤ level → levels level ≡ []

-- ---- unlinked pages

-- the page of this number is in a chain
pub record IsInChain (levels : Levels) (number : ℕ) : Type 0 where
  pub level : ℕ
  pub cell : Cell
  pub stands : IsMember cell (levels level)
  pub same_number : cell.number ≡ number

-- an operation has written the page of this number, which is unlinked yet
pub record IsUnlinked (tree_state : TreeState) (number : ℕ) : Type 0 where
  pub worker : ℕ
  pub m : PlainMachine
  pub under_way : tree_state.machines worker ≡ Some m
  pub unlinked : unlinked_of m ≡ Some number

-- each page is in a chain or is the new page of exactly one operation
pub record PagesArePlaced (tree_state : TreeState) (levels : Levels) : Type 0 where
  pub placed : (number : ℕ) (page : PlainPage) → tree_state.pages number ≡ Some page
      → IsInChain levels number ⊎ IsUnlinked tree_state number
  pub in_no_chain : (worker number : ℕ) (m : PlainMachine) → tree_state.machines worker ≡ Some m
      → unlinked_of m ≡ Some number → ¬ IsInChain levels number
  pub of_one : (worker other number : ℕ) (m n : PlainMachine) → tree_state.machines worker ≡ Some m
      → tree_state.machines other ≡ Some n
      → unlinked_of m ≡ Some number → unlinked_of n ≡ Some number → worker ≡ other

-- the content of an operation's new page: the upper half of a page, which has those entries too until the lower half replaces
-- it; or a new root over two halves, until the prime block names it
pub data HasContent (tree_state : TreeState) (m : PlainMachine) (page : PlainPage) : Type 0 where
  is_upper_half : (number : ℕ) (whole lower : PlainPage) (debt : Debt)
      → m.state ≡ SplitOld number lower debt
      → tree_state.pages number ≡ Some whole → page ≡ upper_half m.fan whole (overfull m whole)
      → HasContent tree_state m page
  is_new_root : (left root : ℕ) (debt : Debt) (prime : List ℕ)
      → m.state ≡ NewPrime left debt root prime
      → page ≡ root_over (debt.level + 1) debt.separator left debt.page → HasContent tree_state m page

-- the page of this number exists, with the content that the operation gave it
pub record IsWritten (tree_state : TreeState) (m : PlainMachine) (number : ℕ) : Type 0 where
  pub page : PlainPage
  pub there : tree_state.pages number ≡ Some page
  pub content : HasContent tree_state m page

-- unlinked pages are the new pages of operations, which have written them
pub record NewPagesStandOutside (tree_state : TreeState) (levels : Levels) : Type 0 where
  pub placed : PagesArePlaced tree_state levels
  pub written : (worker number : ℕ) (m : PlainMachine) → tree_state.machines worker ≡ Some m
      → unlinked_of m ≡ Some number → IsWritten tree_state m number

-- ---- references

-- each level refers to the one below: its separators are high keys there, and each child begins where its entry does
abbrev pub EachRefers : Levels → Type 0
EachRefers levels = (level : ℕ) → Refers (levels level) None (entries_along (levels (level + 1)))

-- chains, each of which refers to the one below
pub record IsTree (fan : ℕ) (prime : List ℕ) (pages : Pages) (levels : Levels) : Type 0 where
  pub chains : LevelsAreChains fan prime pages levels
  pub refers : EachRefers levels

-- ---- debts

-- the key is a debt of the level: a high key below the greatest key, and no separator of the level above
pub record IsDebt (levels : Levels) (level key : ℕ) : Type 0 where
  pub is_high_key : IsHighKey (levels level) key
  pub below_greatest : key < GREATEST_KEY
  pub not_above : value_at key (entries_along (levels (level + 1))) ≡ None

-- the worker's operation owes the debt
abbrev pub IsOwing : TreeState → ℕ → PlainMachine → Debt → Type 0
IsOwing tree_state worker m debt = (tree_state.machines worker ≡ Some m) × (debt_of m ≡ Some debt)

-- an operation owes a debt of the level with this separator
pub record IsOwed (tree_state : TreeState) (level separator : ℕ) : Type 0 where
  pub worker : ℕ
  pub m : PlainMachine
  pub debt : Debt
  pub owes : IsOwing tree_state worker m debt
  pub same_level : debt.level ≡ level
  pub same_separator : debt.separator ≡ separator

-- exactly one operation owes each debt, together with the page that the debt leads to; and operations owe nothing else
pub record DebtsAreOwed (tree_state : TreeState) (levels : Levels) : Type 0 where
  pub owed : (level separator : ℕ) → IsDebt levels level separator → IsOwed tree_state level separator
  pub is_debt : (worker : ℕ) (m : PlainMachine) (debt : Debt) → IsOwing tree_state worker m debt
      → IsDebt levels debt.level debt.separator
      × BeginsAt (levels debt.level) debt.page (Some debt.separator)
  pub by_one : (worker other : ℕ) (m n : PlainMachine) (debt owing : Debt)
      → IsOwing tree_state worker m debt → IsOwing tree_state other n owing
      → debt.level ≡ owing.level → debt.separator ≡ owing.separator → worker ≡ other

-- ---- the growing top

-- an operation has split the page, and has not asked the prime block since, or is making a new root
pub record IsSplitBy (tree_state : TreeState) (page : ℕ) : Type 0 where
  pub worker : ℕ
  pub m : PlainMachine
  pub under_way : tree_state.machines worker ≡ Some m
  pub split : split_of m ≡ Some page

-- if the top level has more than one page, such an operation has split its leftmost page
abbrev pub TopIsGrowing : TreeState → Levels → Type 0
TopIsGrowing tree_state levels = (level leftmost : ℕ) → length tree_state.prime ≡ level + 1
    → slice_get tree_state.prime level ≡ Some leftmost
    → 2 ≤ length (levels level) → IsSplitBy tree_state leftmost

-- the operation that has split a page so holds its latch
pub record TopGrowsUnderLatch (tree_state : TreeState) (levels : Levels) : Type 0 where
  pub growing : TopIsGrowing tree_state levels
  pub latched : (worker page : ℕ) (m : PlainMachine) → tree_state.machines worker ≡ Some m
      → split_of m ≡ Some page → tree_state.holder page ≡ Some worker

-- ---- the whole

-- these are the levels of a lawful tree with debts
pub record IsTreeWithDebtsOf (tree_state : TreeState) (levels : Levels) : Type 0 where
  pub tree : IsTree tree_state.fan tree_state.prime tree_state.pages levels
  pub new_pages : NewPagesStandOutside tree_state levels
  pub debts : DebtsAreOwed tree_state levels
  pub top : TopGrowsUnderLatch tree_state levels

abbrev pub IsTreeWithDebts : TreeState → Type 0
IsTreeWithDebts tree_state = (levels : Levels) × IsTreeWithDebtsOf tree_state levels
