-- The plain map that the whole index is measured by: a list of entries whose keys strictly ascend.
use Rattle.std.specs.Prelude.{ℕ, ◌<◌, List, [], ◌∷◌, Option, Some, None, if◌then◌else◌, ◌==◌, filter, nat_lt, not}
use Rattle.std.specs.List.{AllByRecursion}
use Rattle.blink_operation.specs.declared.entry.Entry.{Entry}

-- the entry of a key and its pointer
abbrev pub entry : ℕ → ℕ → Entry
entry key pointer = record { key = key; pointer = pointer }

-- the keys strictly ascend: each is below all that follow
abbrev pub IsAscending : List Entry → Type 0
IsAscending [] = Unit {0}
IsAscending (e ∷ es) = AllByRecursion (λ after. e.key < after.key) es × IsAscending es

-- the pointer that the map has for a key
abbrev pub pointer_of : List Entry → ℕ → Option ℕ
pointer_of [] key = None
pointer_of (e ∷ es) key = if e.key == key then Some e.pointer else pointer_of es key

-- the map with an entry added in its place
abbrev pub added : List Entry → Entry → List Entry
added [] new = new ∷ []
added (e ∷ es) new = if nat_lt new.key e.key then new ∷ e ∷ es else e ∷ added es new

-- the map without the entry of a key
abbrev pub removed : List Entry → ℕ → List Entry
removed map key = filter (λ (e : Entry). not (e.key == key)) map

-- the map with another pointer in the entry of a key
abbrev pub replaced : List Entry → ℕ → ℕ → List Entry
replaced [] key pointer = []
replaced (e ∷ es) key pointer = if e.key == key then entry key pointer ∷ es else e ∷ replaced es key pointer
