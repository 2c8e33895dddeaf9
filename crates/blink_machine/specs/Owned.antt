-- What an operation has for itself: a latch, a debt, a new unlinked page, and a top level that it splits.
use Rattle.std.specs.Prelude.{◌≡◌, ℕ, ◌⊎◌, Option, Some, None}
use Rattle.blink_rest.specs.{Pages}
use Rattle.blink_machine.specs.declared.machine.Debt.{Debt}
use Rattle.blink_machine.specs.declared.machine.Job.{Job}
use Rattle.blink_machine.specs.declared.machine.Job.TheVariants.{Leaf, Parent}
use Rattle.blink_machine.specs.declared.machine.Next.{Next}
use Rattle.blink_machine.specs.declared.machine.Next.TheVariants.{Finish, MoveRight, Post}
use Rattle.blink_machine.specs.declared.machine.State.{State}
use Rattle.blink_machine.specs.declared.machine.State.TheVariants.{Start, Going, Held, Change, SplitNew, SplitOld, AskPrime, Root, NewPrime, Leave, Ended}
use Rattle.blink_machine.specs.Machine.{PlainMachine}
use Rattle.blink_machine.specs.TreeState.{TreeState}

-- the page whose latch the operation holds
abbrev pub latch_at : State → Option ℕ
latch_at (Held page) = Some page
latch_at (Change page changed kept) = Some page
latch_at (SplitNew page before) = Some page
latch_at (SplitOld page lower debt) = Some page
latch_at (AskPrime page debt) = Some page
latch_at (Root page debt prime) = Some page
latch_at (NewPrime page debt root prime) = Some page
latch_at (Leave page next) = Some page
latch_at state = None

abbrev pub latch_of : PlainMachine → Option ℕ
latch_of m = latch_at m.state

-- the debt that the job posts
abbrev pub debt_of_job : Job → Option Debt
debt_of_job Leaf = None
debt_of_job (Parent debt) = Some debt

abbrev pub debt_of_next : Job → Next → Option Debt
debt_of_next job Finish = None
debt_of_next job (MoveRight page) = debt_of_job job
debt_of_next job (Post debt) = Some debt

-- the debt that the operation owes
abbrev pub debt_at : Job → State → Option Debt
debt_at job Start = None
debt_at job (Going page level) = None
debt_at job (AskPrime page debt) = Some debt
debt_at job (Root page debt prime) = Some debt
debt_at job (NewPrime page debt root prime) = Some debt
debt_at job (Leave page next) = debt_of_next job next
debt_at job Ended = None
debt_at job state = debt_of_job job

abbrev pub debt_of : PlainMachine → Option Debt
debt_of m = debt_at m.job m.state

-- the page that the operation has written and that no other page links to or names yet
abbrev pub unlinked_at : State → Option ℕ
unlinked_at (SplitOld page lower debt) = Some debt.page
unlinked_at (NewPrime page debt root prime) = Some root
unlinked_at state = None

abbrev pub unlinked_of : PlainMachine → Option ℕ
unlinked_of m = unlinked_at m.state

-- the page that the operation has split, and whose latch it holds until it has asked whether that page was the root, or has made
-- a new root
abbrev pub split_at : State → Option ℕ
split_at (AskPrime page debt) = Some page
split_at (Root page debt prime) = Some page
split_at (NewPrime page debt root prime) = Some page
split_at state = None

abbrev pub split_of : PlainMachine → Option ℕ
split_of m = split_at m.state

-- the worker may write under this number: it holds the page's latch, or no page has the number
abbrev pub IsItsToWrite : (ℕ → Option ℕ) → Pages → ℕ → ℕ → Type 0
IsItsToWrite holder pages worker number = (holder number ≡ Some worker) ⊎ (pages number ≡ None)

-- no worker holds two latches
abbrev pub HoldOneLatchEach : (ℕ → Option ℕ) → Type 0
HoldOneLatchEach holder = (worker page other : ℕ) → holder page ≡ Some worker → holder other ≡ Some worker → page ≡ other

-- a worker holds exactly the latches that its operation's state says
pub record LatchesAreHeld (tree_state : TreeState) : Type 0 where
  pub by_state : (worker page : ℕ) (m : PlainMachine) → tree_state.machines worker ≡ Some m → latch_of m ≡ Some page → tree_state.holder page ≡ Some worker
  pub by_holder : (worker page : ℕ) → tree_state.holder page ≡ Some worker → (m : PlainMachine) × (tree_state.machines worker ≡ Some m) × (latch_of m ≡ Some page)
