-- The table of states: what an operation makes of what it reads, what it writes, and its state afterwards.
use Rattle.std.specs.Prelude.{◌≡◌, ◌≢◌, ℕ, ◌+◌, ◌-◌, ◌<◌, ◌≤◌, ◌⊎◌, Option, Some, None, List, [], ◌∷◌, ◌++◌, length, slice_get}
use Rattle.std.specs.List.{last_or}
use Rattle.blink_operation.specs.declared.Answer.TheVariants.{Absent, Exists}
use Rattle.blink_operation.specs.declared.Op.{Op}
use Rattle.blink_operation.specs.declared.Op.TheVariants.{Find, Insert, Delete, Replace, Exchange, DeleteExact}
use Rattle.blink_operation.specs.{answer_at}
use Rattle.blink_page.specs.{value_at, removed, replaced, PlainPage, with_entries, entries_with, root_over, empty_leaf, lower_half, upper_half, separator_of, Leads}
use Rattle.blink_page.specs.declared.search.Way.TheVariants.{Right, Down, Here}
use Rattle.blink_machine.specs.declared.machine.Debt.{Debt}
use Rattle.blink_machine.specs.declared.machine.Job.{Job}
use Rattle.blink_machine.specs.declared.machine.Job.TheVariants.{Leaf, Parent}
use Rattle.blink_machine.specs.declared.machine.Next.{Next}
use Rattle.blink_machine.specs.declared.machine.Next.TheVariants.{Finish, MoveRight, Post}
use Rattle.blink_machine.specs.declared.machine.State.{State}
use Rattle.blink_machine.specs.declared.machine.State.TheVariants.{Start, Going, Want, Held, Change, SplitNew, SplitOld, AskPrime, Root, NewPrime, Leave, Posting, Ended}
use Rattle.blink_machine.specs.Machine.{PlainMachine, at_state, answered, target, level_of, entry_of}

-- the page is the leftmost page of the top level, and `level` is that level
pub record IsTopLeftmost (prime : List ℕ) (level page : ℕ) : Type 0 where
  pub top : length prime ≡ level + 1
  pub leftmost : slice_get prime level ≡ Some page

-- a read of the prime block, a row for each state
pub data SeesPrime (m : PlainMachine) (prime : List ℕ) (after : PlainMachine) : Type 0 where
  begins : (top : ℕ) → m.state ≡ Start → last_or None prime ≡ Some top
      → after ≡ record m { remembered = []; state = Going top (length prime - 1) } → SeesPrime m prime after
  asks_of_root : (page : ℕ) (debt : Debt) → m.state ≡ AskPrime page debt → IsTopLeftmost prime debt.level page
      → after ≡ at_state m (Root page debt prime) → SeesPrime m prime after
  asks_of_other : (page : ℕ) (debt : Debt) → m.state ≡ AskPrime page debt → ¬ IsTopLeftmost prime debt.level page
      → after ≡ at_state m (Leave page (Post debt)) → SeesPrime m prime after
  finds_leftmost : (debt : Debt) (leftmost : ℕ) → m.state ≡ Posting → m.job ≡ Parent debt → slice_get prime (debt.level + 1) ≡ Some leftmost
      → after ≡ at_state m (Want leftmost) → SeesPrime m prime after

-- the top level and its leftmost page are all that a beginning needs of the prime block
abbrev pub SeesTop : PlainMachine → ℕ → ℕ → PlainMachine → Type 0
SeesTop m level page after = (prime : List ℕ) → IsTopLeftmost prime level page → SeesPrime m prime after

-- the level that the operation posts to isn't there yet
pub record WaitsForLevel (m : PlainMachine) (prime : List ℕ) : Type 0 where
  pub debt : Debt
  pub posting : m.state ≡ Posting
  pub job : m.job ≡ Parent debt
  pub not_there : slice_get prime (debt.level + 1) ≡ None

-- the operation is an insertion, a deletion, a replacement, an exchange or a deletion of an expected pointer
abbrev pub IsUpdate : Op → Type 0
IsUpdate (Find key) = ⊥
IsUpdate op = Unit {0}

-- the operation adds its entry to a page: an insertion does, and a posting
abbrev pub Brings : Op → Job → Type 0
Brings op (Parent debt) = Unit {0}
Brings (Insert key pointer) Leaf = Unit {0}
Brings op Leaf = ⊥

-- the operation replaces the pointer that it finds for the key: a replacement any, an exchange the expected one
abbrev pub Swaps : Op → ℕ → ℕ → ℕ → Type 0
Swaps op key new found = (op ≡ Replace key new) ⊎ (op ≡ Exchange key found new)

-- the operation removes the entry that it finds for the key: a deletion any, one of an expected pointer that with this pointer
abbrev pub Removes : Op → ℕ → ℕ → Type 0
Removes op key found = (op ≡ Delete key) ⊎ (op ≡ DeleteExact key found)

-- the operation changes the key's entry only if that has the expected pointer
abbrev pub Expects : Op → ℕ → ℕ → Type 0
Expects op key expected = ((pointer : ℕ) × (op ≡ Exchange key expected pointer)) ⊎ (op ≡ DeleteExact key expected)

-- the page after the operation's change, and the pointer that a leaf had for the key before
pub data IsChange (m : PlainMachine) (page changed : PlainPage) (kept : Option ℕ) : Type 0 where
  gains : Brings m.op m.job → value_at (target m) page.entries ≡ None → length page.entries < m.fan → kept ≡ None
      → changed ≡ with_entries page (entries_with page (entry_of m)) → IsChange m page changed kept
  loses : (key pointer : ℕ) → m.job ≡ Leaf → Removes m.op key pointer → value_at key page.entries ≡ Some pointer → kept ≡ Some pointer
      → changed ≡ with_entries page (removed key page.entries) → IsChange m page changed kept
  swaps : (key new pointer : ℕ) → m.job ≡ Leaf → Swaps m.op key new pointer → value_at key page.entries ≡ Some pointer → kept ≡ Some pointer
      → changed ≡ with_entries page (replaced (key, new) page.entries) → IsChange m page changed kept

-- the page is full, and the operation has an entry to add
pub record IsFullFor (m : PlainMachine) (page : PlainPage) : Type 0 where
  pub brings : Brings m.op m.job
  pub absent : value_at (target m) page.entries ≡ None
  pub full : length page.entries ≡ m.fan

-- a read of a page in a descent, a row for each case
pub data SeesOnItsWay (m : PlainMachine) (number : ℕ) (page : PlainPage) (after : PlainMachine) : Type 0 where
  goes_right : (level next : ℕ) → m.state ≡ Going number level → Leads page (target m) (Right next)
      → after ≡ at_state m (Going next level) → SeesOnItsWay m number page after
  goes_down : (level child : ℕ) → m.state ≡ Going number (level + 1) → Leads page (target m) (Down child)
      → after ≡ record m { remembered = number ∷ m.remembered; state = Going child level } → SeesOnItsWay m number page after
  find_answers : (level key : ℕ) → m.state ≡ Going number level → Leads page (target m) Here → m.op ≡ Find key
      → after ≡ answered m Ended (answer_at (Find key) (value_at key page.entries)) → SeesOnItsWay m number page after
  update_wants : (level : ℕ) → m.state ≡ Going number level → Leads page (target m) Here → IsUpdate m.op
      → after ≡ at_state m (Want number) → SeesOnItsWay m number page after

-- a read of a page under its latch, a row for each case
pub data SeesUnderLatch (m : PlainMachine) (number : ℕ) (page : PlainPage) (after : PlainMachine) : Type 0 where
  is_above_high_key : (next : ℕ) → page.high < target m → page.right ≡ Some next
      → after ≡ at_state m (Leave number (MoveRight next)) → SeesUnderLatch m number page after
  insertion_finds_key : (key pointer kept : ℕ) → target m ≤ page.high → m.job ≡ Leaf → m.op ≡ Insert key pointer → value_at key page.entries ≡ Some kept
      → after ≡ answered m (Leave number Finish) (Exists kept) → SeesUnderLatch m number page after
  deletion_finds_none : (key : ℕ) → target m ≤ page.high → m.job ≡ Leaf → m.op ≡ Delete key → value_at key page.entries ≡ None
      → after ≡ answered m (Leave number Finish) Absent → SeesUnderLatch m number page after
  replacement_finds_none : (key pointer : ℕ) → target m ≤ page.high → m.job ≡ Leaf → m.op ≡ Replace key pointer → value_at key page.entries ≡ None
      → after ≡ answered m (Leave number Finish) Absent → SeesUnderLatch m number page after
  finds_other_pointer : (key expected : ℕ) → target m ≤ page.high → m.job ≡ Leaf → Expects m.op key expected → value_at key page.entries ≢ Some expected
      → after ≡ answered m (Leave number Finish) (answer_at m.op (value_at key page.entries)) → SeesUnderLatch m number page after
  posting_finds_separator : (debt : Debt) (child : ℕ) → target m ≤ page.high → m.job ≡ Parent debt → value_at debt.separator page.entries ≡ Some child
      → after ≡ at_state m (Leave number Finish) → SeesUnderLatch m number page after
  is_to_change : (changed : PlainPage) (kept : Option ℕ) → target m ≤ page.high → IsChange m page changed kept
      → after ≡ at_state m (Change number changed kept) → SeesUnderLatch m number page after
  is_to_split : target m ≤ page.high → IsFullFor m page
      → after ≡ at_state m (SplitNew number page) → SeesUnderLatch m number page after

-- a read of a page
pub data SeesPage (m : PlainMachine) (number : ℕ) (page : PlainPage) (after : PlainMachine) : Type 0 where
  on_its_way : SeesOnItsWay m number page after → SeesPage m number page after
  under_latch : m.state ≡ Held number → SeesUnderLatch m number page after → SeesPage m number page after

-- the entries of a page that is split, with the one that the operation adds
abbrev pub overfull : PlainMachine → PlainPage → List (ℕ × ℕ)
overfull m page = entries_with page (entry_of m)

-- the debt of the split, if the new page has this number
abbrev pub debt_of_split : PlainMachine → PlainPage → ℕ → Debt
debt_of_split m page new = record { level = level_of m.job; separator = separator_of m.fan (overfull m page); page = new }

-- the page that the next write writes; `new` is the number of a new one
abbrev pub page_out_at : PlainMachine → State → ℕ → PlainPage
page_out_at m (Change page changed kept) new = changed
page_out_at m (SplitNew page before) new = upper_half m.fan before (overfull m before)
page_out_at m (SplitOld page lower debt) new = lower
page_out_at m (Root page debt prime) new = root_over (debt.level + 1) debt.separator page debt.page
page_out_at m state new = empty_leaf

abbrev pub page_out : PlainMachine → ℕ → PlainPage
page_out m new = page_out_at m m.state new

-- the operation after a write of a page: for an operation on a leaf that write is the deciding step, and a posting has decided
-- before
abbrev pub decided_with : PlainMachine → Job → State → Option ℕ → PlainMachine
decided_with m Leaf state kept = answered m state (answer_at m.op kept)
decided_with m (Parent debt) state kept = at_state m state

-- the operation that sets out to post a debt: it wants the page that it remembers of that level, if it remembers one
abbrev pub sets_out : PlainMachine → Debt → List ℕ → PlainMachine
sets_out m debt [] = record m { job = Parent debt; remembered = []; state = Posting }
sets_out m debt (page ∷ above) = record m { job = Parent debt; remembered = above; state = Want page }

abbrev pub leaves_for : PlainMachine → Next → PlainMachine
leaves_for m Finish = at_state m Ended
leaves_for m (MoveRight page) = at_state m (Want page)
leaves_for m (Post debt) = sets_out m debt m.remembered

-- the operation between the two writes of a split: the upper half has this number, and the lower half is to be written
abbrev pub halved : PlainMachine → ℕ → PlainPage → ℕ → PlainMachine
halved m page before new = at_state m (SplitOld page (lower_half m.fan new before (overfull m before)) (debt_of_split m before new))

-- the operation after it got a latch, wrote or released a latch; `new` is the number of a new page
abbrev pub done_at : PlainMachine → State → ℕ → PlainMachine
done_at m (Want page) new = at_state m (Held page)
done_at m (Change page changed kept) new = decided_with m m.job (Leave page Finish) kept
done_at m (SplitNew page before) new = halved m page before new
done_at m (SplitOld page lower debt) new = decided_with m m.job (AskPrime page debt) None
done_at m (Root page debt prime) new = at_state m (NewPrime page debt new prime)
done_at m (NewPrime page debt root prime) new = at_state m (Leave page Finish)
done_at m (Leave page next) new = leaves_for m next
done_at m state new = m

abbrev pub done : PlainMachine → ℕ → PlainMachine
done m new = done_at m m.state new

-- the prime block with the new root added
pub data PrimeOut (m : PlainMachine) (prime : List ℕ) : Type 0 where
  adds_root : (page : ℕ) (debt : Debt) (root : ℕ) (read : List ℕ) → m.state ≡ NewPrime page debt root read → prime ≡ read ++ root ∷ [] → PrimeOut m prime
