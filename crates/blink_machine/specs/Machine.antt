-- One operation on a tree: what it remembers, the state that it is in, and the step that it needs next.
use Rattle.std.specs.Prelude.{◌≡◌, ℕ, ◌+◌, Option, Some, None, List, []}
use Rattle.blink_operation.specs.declared.Answer.{Answer}
use Rattle.blink_operation.specs.declared.Op.{Op}
use Rattle.blink_operation.specs.{key_of, pointer_with}
use Rattle.blink_machine.specs.declared.machine.Job.{Job}
use Rattle.blink_machine.specs.declared.machine.Job.TheVariants.{Leaf, Parent}
use Rattle.blink_machine.specs.declared.machine.Need.{Need}
use Rattle.blink_machine.specs.declared.machine.Need.TheVariants.{ReadPrime, ReadPage, Latch, WriteNew, WritePage, WritePrime, Unlatch, End}
use Rattle.blink_machine.specs.declared.machine.State.{State}
use Rattle.blink_machine.specs.declared.machine.State.TheVariants.{Start, Going, Want, Held, Change, SplitNew, SplitOld, AskPrime, Root, NewPrime, Leave, Posting, Ended}

-- the job is the operation's own key, on a leaf, or a debt, which the operation posts to the level above the debt's
pub record PlainMachine : Type 0 where
  pub fan : ℕ
  pub op : Op
  pub job : Job
  -- the pages that the operation read last on the levels above its job's, the lowest level first
  pub remembered : List ℕ
  pub state : State
  -- the operation's answer, from its deciding step on
  pub answer : Option Answer

-- an operation that has taken no step yet
abbrev pub fresh : ℕ → Op → PlainMachine
fresh fan op = record { fan = fan; op = op; job = Leaf; remembered = []; state = Start; answer = None }

-- the same operation, at another state
abbrev pub at_state : PlainMachine → State → PlainMachine
at_state m state = record m { state = state }

-- the same operation at another state, and with an answer
abbrev pub answered : PlainMachine → State → Answer → PlainMachine
answered m state answer = record m { state = state; answer = Some answer }

-- the key that a job is about
abbrev pub key_of_job : Op → Job → ℕ
key_of_job op Leaf = key_of op
key_of_job op (Parent debt) = debt.separator

abbrev pub target : PlainMachine → ℕ
target m = key_of_job m.op m.job

-- the level that a job is on
abbrev pub level_of : Job → ℕ
level_of Leaf = 0
level_of (Parent debt) = debt.level + 1

-- the value that a job adds to a page: a key's pointer, or a separator's new page
abbrev pub value_of_job : Op → Job → ℕ
value_of_job op Leaf = pointer_with op
value_of_job op (Parent debt) = debt.page

abbrev pub entry_of : PlainMachine → ℕ × ℕ
entry_of m = (target m, value_of_job m.op m.job)

-- the step that an operation needs at each state
abbrev pub need_at : State → Need
need_at Start = ReadPrime
need_at (Going page level) = ReadPage page
need_at (Want page) = Latch page
need_at (Held page) = ReadPage page
need_at (Change page changed kept) = WritePage page
need_at (SplitNew page before) = WriteNew
need_at (SplitOld page lower debt) = WritePage page
need_at (AskPrime page debt) = ReadPrime
need_at (Root page debt prime) = WriteNew
need_at (NewPrime page debt root prime) = WritePrime
need_at (Leave page next) = Unlatch page
need_at Posting = ReadPrime
need_at Ended = End

abbrev pub NeedsPrime : PlainMachine → Type 0
NeedsPrime m = need_at m.state ≡ ReadPrime

abbrev pub NeedsPage : PlainMachine → ℕ → Type 0
NeedsPage m page = need_at m.state ≡ ReadPage page

abbrev pub NeedsLatch : PlainMachine → ℕ → Type 0
NeedsLatch m page = need_at m.state ≡ Latch page

abbrev pub NeedsNew : PlainMachine → Type 0
NeedsNew m = need_at m.state ≡ WriteNew

abbrev pub NeedsWrite : PlainMachine → ℕ → Type 0
NeedsWrite m page = need_at m.state ≡ WritePage page

abbrev pub NeedsPrimeWrite : PlainMachine → Type 0
NeedsPrimeWrite m = need_at m.state ≡ WritePrime

abbrev pub NeedsUnlatch : PlainMachine → ℕ → Type 0
NeedsUnlatch m page = need_at m.state ≡ Unlatch page

-- the level of the page that the operation reads next
abbrev pub level_read_at : State → Job → ℕ
level_read_at (Going page level) job = level
level_read_at state job = level_of job

abbrev pub level_read : PlainMachine → ℕ
level_read m = level_read_at m.state m.job
