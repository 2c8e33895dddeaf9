-- What an operation guarantees at each of its states, whatever the tree is, so that it can always take its next step.
use Rattle.std.specs.Prelude.{◌≡◌, ℕ, ◌+◌, ◌<◌, List, length}
use Rattle.blink_page.specs.{IsFan, IsPageNumber, PlainPage, IsKeyOf}
use Rattle.blink_page.specs.declared.limits.TheConstants.{LEVELS, GREATEST_KEY}
use Rattle.blink_machine.specs.declared.machine.Debt.{Debt}
use Rattle.blink_machine.specs.declared.machine.Job.{Job}
use Rattle.blink_machine.specs.declared.machine.Job.TheVariants.{Leaf, Parent}
use Rattle.blink_machine.specs.declared.machine.Next.{Next}
use Rattle.blink_machine.specs.declared.machine.Next.TheVariants.{Finish, MoveRight, Post}
use Rattle.blink_machine.specs.declared.machine.State.{State}
use Rattle.blink_machine.specs.declared.machine.State.TheVariants.{Start, Going, Want, Held, Change, SplitNew, SplitOld, AskPrime, Root, NewPrime, Leave, Posting, Ended}
use Rattle.blink_machine.specs.Machine.{PlainMachine, target, level_of}
use Rattle.blink_machine.specs.Placed.{MayChange}
use Rattle.blink_machine.specs.Table.{IsFullFor, IsTopLeftmost}

-- a page can take the debt: it leads to a page, and its separator parts the keys of a root
pub record IsPostable (debt : Debt) : Type 0 where
  pub parts_keys : debt.separator < GREATEST_KEY
  pub page_number : IsPageNumber debt.page

abbrev pub KeptJob : Job → Type 0
KeptJob Leaf = Unit {0}
KeptJob (Parent debt) = IsPostable debt

abbrev pub IsParent : Job → Type 0
IsParent Leaf = ⊥
IsParent (Parent debt) = Unit {0}

-- the page can be split for the operation's entry
pub record IsToSplit (m : PlainMachine) (page : PlainPage) : Type 0 where
  pub same_level : page.level ≡ level_of m.job
  pub belongs : IsKeyOf page (target m)
  pub full : IsFullFor m page

-- a root can be made over the page and its new right neighbour
pub record IsToGrow (page : ℕ) (debt : Debt) (prime : List ℕ) : Type 0 where
  pub postable : IsPostable debt
  pub page_number : IsPageNumber page
  pub is_top : IsTopLeftmost prime debt.level page
  pub few_levels : length prime < LEVELS

-- the prime block can name the new root
pub record IsToName (root : ℕ) (prime : List ℕ) : Type 0 where
  pub root_number : IsPageNumber root
  pub few_levels : length prime < LEVELS

abbrev pub KeptForNext : PlainMachine → Next → Type 0
KeptForNext m Finish = Unit {0}
KeptForNext m (MoveRight page) = MayChange m.op m.job
KeptForNext m (Post debt) = IsPostable debt

-- the guarantee of each state; a descending operation has room to remember a page of each level that is left
abbrev pub KeptAt : PlainMachine → State → Type 0
KeptAt m Start = Unit {0}
KeptAt m (Going page level) = length m.remembered + level < LEVELS
KeptAt m (Want page) = MayChange m.op m.job
KeptAt m (Held page) = MayChange m.op m.job
KeptAt m (Change page changed kept) = Unit {0}
KeptAt m (SplitNew page before) = IsToSplit m before
KeptAt m (SplitOld page lower debt) = IsPostable debt
KeptAt m (AskPrime page debt) = IsPostable debt
KeptAt m (Root page debt prime) = IsToGrow page debt prime
KeptAt m (NewPrime page debt root prime) = IsToName root prime
KeptAt m (Leave page next) = KeptForNext m next
KeptAt m Posting = IsParent m.job
KeptAt m Ended = Unit {0}

-- the next step is the first write of a split of this page
abbrev pub IsToHalve : PlainMachine → ℕ → Type 0
IsToHalve m page = (before : PlainPage) × (m.state ≡ SplitNew page before)

-- the next step is the write of a root over this page
abbrev pub IsToRoot : PlainMachine → ℕ → Type 0
IsToRoot m page = (debt : Debt) × (prime : List ℕ) × (m.state ≡ Root page debt prime)

pub record IsMachine (m : PlainMachine) : Type 0 where
  pub fan_in_range : IsFan m.fan
  pub at_its_job : KeptJob m.job
  pub at_its_state : KeptAt m m.state
