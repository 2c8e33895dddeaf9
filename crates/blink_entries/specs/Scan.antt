-- The entries that a scan gives, up to a key or to a number of entries. They are those that are left of its leaf, and then those
-- of the leaves from its link on.
use Rattle.std.specs.Prelude.{ℕ, ◌-◌, ◌≤◌, nat_le, if◌then◌else◌, ◌&&◌, Bool, Option, Some, None, List, [], ◌∷◌, length, min, take}
use Rattle.std.specs.Iterator.{YieldsFirst}
use Rattle.std.specs.Iterator.Runs.{YieldsInOrder}
use Rattle.blink_operation.specs.declared.Entry.{Entry}
use Rattle.blink_operation.specs.{entry}
use Rattle.blink_rest.specs.Chain.{Cell}
use Rattle.blink_rest.specs.{entries_along, IsTail}
use Rattle.blink_store.specs.{PlainStore, page_of}
use Rattle.blink_entries.specs.Index.{cells_of}

-- the entry's key is from the one number to the other
abbrev pub is_within : ℕ → ℕ → Entry → Bool
is_within lo hi e = nat_le lo e.key && nat_le e.key hi

-- the entry's key is at least the number
abbrev pub is_from : ℕ → Entry → Bool
is_from lo e = nat_le lo e.key

-- the link leads to the last pages of a level, or nowhere
pub record IsLinkOf (store : PlainStore) (link : Option ℕ) : Type 0 where
  pub cells : List Cell
  pub tail : IsTail store.fan (page_of store) link cells
  pub few : length cells ≤ length store.pages

-- the entries of the pages from a link on
abbrev pub entries_after : PlainStore → Option ℕ → List (ℕ × ℕ)
entries_after store link = entries_along (cells_of store link)

-- the entries before the first whose key is greater
abbrev pub entries_to : ℕ → List (ℕ × ℕ) → List Entry
entries_to hi [] = []
entries_to hi ((key, pointer) ∷ rest) = if nat_le key hi then entry key pointer ∷ entries_to hi rest else []

-- the first entries, as many as the number says, or all if no number is given
abbrev pub at_most : Option ℕ → List Entry → List Entry
at_most None entries = entries
at_most (Some n) entries = take n entries

-- how many entries may come after one of them
abbrev pub one_fewer : Option ℕ → Option ℕ
one_fewer None = None
one_fewer (Some n) = Some (n - 1)

-- how many of so many entries may come, and how many after them
abbrev pub first_of : ℕ → Option ℕ → ℕ
first_of count None = count
first_of count (Some n) = min count n

abbrev pub fewer : Option ℕ → ℕ → Option ℕ
fewer None count = None
fewer (Some n) count = Some (n - count)

-- a computation over a scan gets the entries that the scan still gives, in order
abbrev pub BringsInOrder : Type 0
BringsInOrder = YieldsInOrder (YieldsFirst {A = Entry} (λ rest. rest)) (λ rest. rest)
