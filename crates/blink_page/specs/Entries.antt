-- The entries of a page as a list of pairs of a key and a value: look-ups, and the list after a change.
use Rattle.std.specs.Prelude.{ℕ, ◌≤◌, ◌==◌, nat_le, if◌then◌else◌, Option, Some, None, List, [], ◌∷◌}

-- the value of the entry with this key
abbrev pub value_at : ℕ → List (ℕ × ℕ) → Option ℕ
value_at key [] = None
value_at key ((k, v) ∷ rest) = if k == key then Some v else value_at key rest

-- the child of the first separator that is at least `key`
abbrev pub child_for : ℕ → List (ℕ × ℕ) → Option ℕ
child_for key [] = None
child_for key ((separator, child) ∷ rest) = if nat_le key separator then Some child else child_for key rest

-- the list with an entry added, before the first entry whose key is at least as great
abbrev pub added : ℕ × ℕ → List (ℕ × ℕ) → List (ℕ × ℕ)
added (key, value) [] = (key, value) ∷ []
added (key, value) ((k, v) ∷ rest) =
    if nat_le key k then (key, value) ∷ (k, v) ∷ rest else (k, v) ∷ added (key, value) rest

-- the list without the entry of this key
abbrev pub removed : ℕ → List (ℕ × ℕ) → List (ℕ × ℕ)
removed key [] = []
removed key ((k, v) ∷ rest) = if k == key then rest else (k, v) ∷ removed key rest

-- the list with another value in the entry of this key
abbrev pub replaced : ℕ × ℕ → List (ℕ × ℕ) → List (ℕ × ℕ)
replaced (key, value) [] = []
replaced (key, value) ((k, v) ∷ rest) = if k == key then (k, value) ∷ rest else (k, v) ∷ replaced (key, value) rest

-- the list with a separator posted: the child of its place has the keys up to it, and the new child those above it
abbrev pub posted : ℕ × ℕ → List (ℕ × ℕ) → List (ℕ × ℕ)
posted (separator, new) [] = []
posted (separator, new) ((s, child) ∷ rest) =
    if nat_le separator s then (separator, child) ∷ (s, new) ∷ rest else (s, child) ∷ posted (separator, new) rest

-- the last key, or `key` if the list is empty
abbrev pub last_key_or : ℕ → List (ℕ × ℕ) → ℕ
last_key_or key [] = key
last_key_or key ((k, v) ∷ rest) = last_key_or k rest

-- the last key of a list that isn't empty
abbrev pub last_key : List (ℕ × ℕ) → ℕ
last_key entries = last_key_or 0 entries

-- each value is from `least` to `greatest`
abbrev pub ValuesWithin : ℕ → ℕ → List (ℕ × ℕ) → Type 0
ValuesWithin least greatest [] = Unit {0}
ValuesWithin least greatest ((key, value) ∷ rest) =
    (least ≤ value) × (value ≤ greatest) × ValuesWithin least greatest rest
