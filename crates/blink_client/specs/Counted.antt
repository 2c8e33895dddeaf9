-- How many keys of a range have an entry.
use Rattle.std.specs.Prelude.{ℕ, zero, suc, ◌+◌, ◌<◌, ◌≤◌, Option, Some, None, List, Contains}
use Rattle.blink_batch.specs.declared.Entry.{Entry}
use Rattle.blink_batch.specs.{pointer_of}
use Rattle.blink_live.specs.declared.live.Pass.{Pass}
use Rattle.blink_live.specs.{keys_of}

-- the keys from `lo` to below `end` are all the pass's
abbrev pub AllAreOwn : Pass → ℕ → ℕ → Type 0
AllAreOwn pass lo end = (key : ℕ) → lo ≤ key → key < end → Contains (keys_of pass) key

-- one for a key with a pointer
abbrev pub one_if_there : Option ℕ → ℕ
one_if_there None = 0
one_if_there (Some pointer) = 1

-- how many of the keys from this one on, so many, the map has
abbrev pub present : List Entry → ℕ → ℕ → ℕ
present map key zero = 0
present map key (suc count) = one_if_there (pointer_of map key) + present map (suc key) count
