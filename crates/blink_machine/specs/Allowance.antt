-- What one operation may still need, by its state alone: page numbers, page writes, and writes of the prime block.
use Rattle.std.specs.Prelude.{◌≡◌, ℕ, ◌+◌, ◌-◌, ◌*◌, ◌≤◌, ◌&&◌, Bool, if◌then◌else◌}
use Rattle.blink_operation.specs.declared.Op.{Op}
use Rattle.blink_operation.specs.declared.Op.TheVariants.{Find, Insert}
use Rattle.blink_machine.specs.declared.machine.Job.{Job}
use Rattle.blink_machine.specs.declared.machine.Job.TheVariants.{Leaf, Parent}
use Rattle.blink_machine.specs.declared.machine.Next.{Next}
use Rattle.blink_machine.specs.declared.machine.Next.TheVariants.{Finish, MoveRight, Post}
use Rattle.blink_machine.specs.declared.machine.State.{State}
use Rattle.blink_machine.specs.declared.machine.State.TheVariants.{SplitOld, AskPrime, Root, NewPrime, Leave, Ended}
use Rattle.blink_machine.specs.declared.step.Step.{Step}
use Rattle.blink_page.specs.declared.limits.TheConstants.{MAX_NEW_PAGES_PER_INSERT, MAX_PAGE_WRITES_PER_INSERT}
use Rattle.blink_machine.specs.Kinds.{has_moved, moved_by, writes_new_page}
use Rattle.blink_machine.specs.Kinds.{is_page_write, is_prime_write}
use Rattle.blink_machine.specs.Machine.{PlainMachine, NeedsNew, NeedsPrimeWrite, level_of}
use Rattle.blink_machine.specs.Needs.{NeedsSomeWrite}

-- ---- page numbers: one for a split on each level, and one for a root

-- for a job: only a job that adds an entry splits
abbrev pub numbers_for : Job → Op → ℕ
numbers_for Leaf (Insert key pointer) = MAX_NEW_PAGES_PER_INSERT
numbers_for Leaf op = 0
numbers_for (Parent debt) op = 21 - debt.level

-- after a page that the operation leaves
abbrev pub numbers_left_for : Job → Op → Next → ℕ
numbers_left_for job op Finish = 0
numbers_left_for job op (MoveRight page) = numbers_for job op
numbers_left_for job op (Post debt) = 21 - debt.level

-- by the state: as for the whole job until the page is split
abbrev pub numbers_left_at : Job → Op → State → ℕ
numbers_left_at job op (SplitOld page lower debt) = 21 - level_of job
numbers_left_at job op (AskPrime page debt) = 21 - level_of job
numbers_left_at job op (Root page debt prime) = 21 - level_of job
numbers_left_at job op (NewPrime page debt root prime) = 0
numbers_left_at job op (Leave page next) = numbers_left_for job op next
numbers_left_at job op Ended = 0
numbers_left_at job op state = numbers_for job op

abbrev pub numbers_left : PlainMachine → ℕ
numbers_left m = numbers_left_at m.job m.op m.state

-- ---- page writes: two for a split on each level, and one for a root; one for an entry that is removed or whose pointer is
-- replaced

-- for a job
abbrev pub writes_for : Job → Op → ℕ
writes_for Leaf (Find key) = 0
writes_for Leaf (Insert key pointer) = MAX_PAGE_WRITES_PER_INSERT
writes_for Leaf op = 1
writes_for (Parent debt) op = 41 - 2 * debt.level

-- after a page that the operation leaves
abbrev pub writes_left_for : Job → Op → Next → ℕ
writes_left_for job op Finish = 0
writes_left_for job op (MoveRight page) = writes_for job op
writes_left_for job op (Post debt) = 41 - 2 * debt.level

-- by the state: as for the whole job until the page is split
abbrev pub writes_left_at : Job → Op → State → ℕ
writes_left_at job op (SplitOld page lower debt) = 42 - 2 * level_of job
writes_left_at job op (AskPrime page debt) = 41 - 2 * level_of job
writes_left_at job op (Root page debt prime) = 41 - 2 * level_of job
writes_left_at job op (NewPrime page debt root prime) = 0
writes_left_at job op (Leave page next) = writes_left_for job op next
writes_left_at job op Ended = 0
writes_left_at job op state = writes_for job op

abbrev pub writes_left : PlainMachine → ℕ
writes_left m = writes_left_at m.job m.op m.state

-- ---- prime block writes: one, for a root

-- for a job
abbrev pub primes_for : Job → Op → ℕ
primes_for Leaf (Insert key pointer) = 1
primes_for Leaf op = 0
primes_for (Parent debt) op = 1

-- after a page that the operation leaves
abbrev pub primes_left_for : Job → Op → Next → ℕ
primes_left_for job op Finish = 0
primes_left_for job op (MoveRight page) = primes_for job op
primes_left_for job op (Post debt) = 1

-- by the state: as for the whole job until the page is split
abbrev pub primes_left_at : Job → Op → State → ℕ
primes_left_at job op (SplitOld page lower debt) = 1
primes_left_at job op (AskPrime page debt) = 1
primes_left_at job op (Root page debt prime) = 1
primes_left_at job op (NewPrime page debt root prime) = 1
primes_left_at job op (Leave page next) = primes_left_for job op next
primes_left_at job op Ended = 0
primes_left_at job op state = primes_for job op

abbrev pub primes_left : PlainMachine → ℕ
primes_left m = primes_left_at m.job m.op m.state

-- ---- at least one before each such step, and one fewer after it

-- the operation has left what its next step takes
pub record HasEnough (m : PlainMachine) : Type 0 where
  pub numbers : NeedsNew m → 1 ≤ numbers_left m
  pub page_writes : NeedsSomeWrite m → 1 ≤ writes_left m
  pub prime_writes : NeedsPrimeWrite m → 1 ≤ primes_left m

-- 1 if the test is true, else 0
abbrev pub one_if : Bool → ℕ
one_if test = if test then 1 else 0

-- a step lowers what the operation may still need by what the step used
pub record UsesUp (m : PlainMachine) (step : Step) (after : PlainMachine) : Type 0 where
  pub same_op : after.op ≡ m.op
  pub numbers : numbers_left after + one_if (has_moved step && writes_new_page m.state) ≤ numbers_left m
  pub page_writes : writes_left after + one_if (moved_by is_page_write step) ≤ writes_left m
  pub prime_writes : primes_left after + one_if (moved_by is_prime_write step) ≤ primes_left m
