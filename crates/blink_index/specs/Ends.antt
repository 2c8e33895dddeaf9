-- The entries at the ends of a plain map, and those on one side of a key.
use Rattle.std.specs.Prelude.{ℕ, ◌-◌, nat_le, nat_lt, Bool, Option, List, length, slice_get}
use Rattle.blink_operation.specs.declared.Entry.{Entry}

-- the first entry of a list, and the last, if there is one
abbrev pub first_of : List Entry → Option Entry
first_of entries = slice_get entries 0

abbrev pub last_of : List Entry → Option Entry
last_of entries = slice_get entries (length entries - 1)

-- the entry's key is above the number
abbrev pub is_above : ℕ → Entry → Bool
is_above key e = nat_lt key e.key

-- the entry's key is below the number
abbrev pub is_below : ℕ → Entry → Bool
is_below key e = nat_lt e.key key

-- the entry's key is at most the number
abbrev pub is_up_to : ℕ → Entry → Bool
is_up_to key e = nat_le e.key key
