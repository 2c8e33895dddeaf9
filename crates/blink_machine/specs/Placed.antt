-- What holds of one operation at each of its states, in a tree that others change too.
use Rattle.std.specs.Prelude.{◌≡◌, ℕ, ◌+◌, Option, Some, None, IsSome, List, [], ◌∷◌, ⊤}
use Rattle.blink_operation.specs.declared.Answer.{Answer}
use Rattle.blink_operation.specs.declared.Op.{Op}
use Rattle.blink_operation.specs.{FitsWords}
use Rattle.blink_page.specs.{IsPageNumber, PlainPage, IsKeyOf, root_over, least_above, lower_half, upper_half}
use Rattle.blink_rest.specs.Chain.{Cell}
use Rattle.blink_rest.specs.{IsMember}
use Rattle.blink_machine.specs.declared.machine.Debt.{Debt}
use Rattle.blink_machine.specs.declared.machine.Job.{Job}
use Rattle.blink_machine.specs.declared.machine.Job.TheVariants.{Leaf, Parent}
use Rattle.blink_machine.specs.declared.machine.Next.{Next}
use Rattle.blink_machine.specs.declared.machine.Next.TheVariants.{Finish, MoveRight, Post}
use Rattle.blink_machine.specs.declared.machine.State.{State}
use Rattle.blink_machine.specs.declared.machine.State.TheVariants.{Start, Going, Want, Held, Change, SplitNew, SplitOld, AskPrime, Root, NewPrime, Leave, Posting, Ended}
use Rattle.blink_machine.specs.Machine.{PlainMachine, target, level_of}
use Rattle.blink_machine.specs.TreeState.{TreeState}
use Rattle.blink_machine.specs.Table.{Brings, IsUpdate, IsChange, IsFullFor, IsTopLeftmost, overfull, debt_of_split}
use Rattle.blink_machine.specs.Tree.{BeginsBelow}
use Rattle.blink_machine.specs.TreeWithDebts.{Levels}

-- the remembered pages, one for each level from this one up: each is in its level's chain, the floors do not rise from a level
-- to the next, and none begins above `least`
abbrev pub AreRemembered : Levels → ℕ → ℕ → List ℕ → Type 0
AreRemembered levels level least [] = ⊤
AreRemembered levels level least (page ∷ above) =
    (begins : BeginsBelow (levels level) page least) × AreRemembered levels (level + 1) (least_above begins.cell.page.floor) above

-- a search or posting stands at a page: the page is in the level's chain and has a floor below the key, and so have the
-- remembered pages above it
pub record StandsAt (levels : Levels) (m : PlainMachine) (level page : ℕ) : Type 0 where
  pub begins : BeginsBelow (levels level) page (target m)
  pub remembers : AreRemembered levels (level + 1) (least_above begins.cell.page.floor) m.remembered

-- the operation may change pages; a find may not
abbrev pub MayChange : Op → Job → Type 0
MayChange op Leaf = IsUpdate op
MayChange op (Parent debt) = Unit {0}

-- the operation has latched the page, or wants to; from this page it can go on to the right
pub record IsAtWork (levels : Levels) (m : PlainMachine) (page : ℕ) : Type 0 where
  pub may_change : MayChange m.op m.job
  pub stands_at : StandsAt levels m (level_of m.job) page

-- the operation has read the latched page, which its key belongs to, and the page has not changed since
pub record HasRead (tree_state : TreeState) (m : PlainMachine) (number : ℕ) (page : PlainPage) : Type 0 where
  pub there : tree_state.pages number ≡ Some page
  pub belongs : IsKeyOf page (target m)

-- the operation has written the upper half of the page that it has latched
pub record HasHalved (tree_state : TreeState) (m : PlainMachine) (number : ℕ) (lower : PlainPage) (debt : Debt) : Type 0 where
  pub page : PlainPage
  pub read : HasRead tree_state m number page
  pub full : IsFullFor m page
  pub new_number : IsPageNumber debt.page
  pub same_debt : debt ≡ debt_of_split m page debt.page
  pub lower_half_of : lower ≡ lower_half m.fan debt.page page (overfull m page)
  pub upper_there : tree_state.pages debt.page ≡ Some (upper_half m.fan page (overfull m page))

-- the operation has split the page and held its latch since; the page ends at the debt's separator and links to the debt's new
-- page
pub record HasSplit (tree_state : TreeState) (levels : Levels) (m : PlainMachine) (number : ℕ) (debt : Debt) : Type 0 where
  pub cell : Cell
  pub stands : IsMember cell (levels debt.level)
  pub same_number : cell.number ≡ number
  pub ends_at : cell.page.high ≡ debt.separator
  pub links_to : cell.page.right ≡ Some debt.page
  pub new_number : IsPageNumber debt.page
  pub brings : Brings m.op m.job
  pub same_level : debt.level ≡ level_of m.job
  pub remembers : AreRemembered levels (debt.level + 1) debt.separator m.remembered

-- what the operation has read of the prime block is still true
pub record HasAsked (tree_state : TreeState) (number : ℕ) (debt : Debt) (prime : List ℕ) : Type 0 where
  pub same_prime : prime ≡ tree_state.prime
  pub is_top : IsTopLeftmost prime debt.level number

-- the operation's new root is written
pub record HasRoot (tree_state : TreeState) (number : ℕ) (debt : Debt) (root : ℕ) : Type 0 where
  pub root_number : IsPageNumber root
  pub root_there : tree_state.pages root ≡ Some (root_over (debt.level + 1) debt.separator number debt.page)

-- the operation has its answer from the deciding step on, and not before
abbrev pub HasAnswer : Option Answer → Type 0
HasAnswer answer = IsSome answer

abbrev pub HasNoAnswer : Option Answer → Type 0
HasNoAnswer answer = answer ≡ None

abbrev pub AnsweredInJob : Job → Option Answer → Type 0
AnsweredInJob Leaf answer = HasNoAnswer answer
AnsweredInJob (Parent debt) answer = HasAnswer answer

-- what holds of an operation by where it goes next from a page that it leaves
abbrev pub PlacedForNext : Levels → PlainMachine → Next → Type 0
PlacedForNext levels m Finish = HasAnswer m.answer
PlacedForNext levels m (MoveRight page) = IsAtWork levels m page × AnsweredInJob m.job m.answer
PlacedForNext levels m (Post debt) = AreRemembered levels (debt.level + 1) debt.separator m.remembered × HasAnswer m.answer

-- what holds of an operation at each state
abbrev pub PlacedAt : TreeState → Levels → PlainMachine → State → Type 0
PlacedAt tree_state levels m Start = (m.job ≡ Leaf) × HasNoAnswer m.answer
PlacedAt tree_state levels m (Going page level) = (m.job ≡ Leaf) × StandsAt levels m level page × HasNoAnswer m.answer
PlacedAt tree_state levels m (Want page) = IsAtWork levels m page × AnsweredInJob m.job m.answer
PlacedAt tree_state levels m (Held page) = IsAtWork levels m page × AnsweredInJob m.job m.answer
PlacedAt tree_state levels m (Change number changed kept) = IsAtWork levels m number × AnsweredInJob m.job m.answer
    × (page : PlainPage) × HasRead tree_state m number page × IsChange m page changed kept
PlacedAt tree_state levels m (SplitNew number page) = IsAtWork levels m number × AnsweredInJob m.job m.answer
    × HasRead tree_state m number page × IsFullFor m page
PlacedAt tree_state levels m (SplitOld number lower debt) = IsAtWork levels m number × AnsweredInJob m.job m.answer
    × HasHalved tree_state m number lower debt
PlacedAt tree_state levels m (AskPrime number debt) = HasAnswer m.answer × HasSplit tree_state levels m number debt
PlacedAt tree_state levels m (Root number debt prime) = HasAnswer m.answer × HasSplit tree_state levels m number debt × HasAsked tree_state number debt prime
PlacedAt tree_state levels m (NewPrime number debt root prime) = HasAnswer m.answer × HasSplit tree_state levels m number debt × HasAsked tree_state number debt prime
    × HasRoot tree_state number debt root
PlacedAt tree_state levels m (Leave page next) = PlacedForNext levels m next
PlacedAt tree_state levels m Posting = HasAnswer m.answer × (m.remembered ≡ []) × (debt : Debt) × (m.job ≡ Parent debt)
PlacedAt tree_state levels m Ended = HasAnswer m.answer

pub record IsPlaced (tree_state : TreeState) (levels : Levels) (m : PlainMachine) : Type 0 where
  pub same_fan : m.fan ≡ tree_state.fan
  pub words : FitsWords m.op
  pub at_its_state : PlacedAt tree_state levels m m.state
