-- The changes of all keys, in the order in which they happened, and the state that they leave of the opening entries.
use Rattle.std.specs.Prelude.{ℕ, List, [], ◌∷◌, ◌==◌, if◌then◌else◌, Option, Some, None, Bool, true, false}
use mathlib.Core.List.{IsPrefix}
use Rattle.blink_batch.specs.declared.Answer.{Answer}
use Rattle.blink_batch.specs.declared.Answer.TheVariants.{Inserted, Removed, Replaced}
use Rattle.blink_batch.specs.declared.Entry.{Entry}
use Rattle.blink_batch.specs.declared.Op.{Op}
use Rattle.blink_batch.specs.declared.Op.TheVariants.{Delete, Insert}
use Rattle.blink_batch.specs.{answer_at, cell_after, key_of, map_after}
use Rattle.blink_live.specs.declared.view.Change.{Change}
use Rattle.blink_live.specs.declared.view.View.{View}

-- a map of keys with another value at one key
abbrev pub put : {X : Type 0} → (ℕ → X) → ℕ → X → ℕ → X
put f at x n = if n == at then x else f n

-- each key's state after these changes
abbrev pub after : (ℕ → Option ℕ) → List Change → ℕ → Option ℕ
after f [] = f
after f (change ∷ rest) = after (put f change.key change.pointer) rest

-- the entries where the key maps to this pointer, or is absent
abbrev pub with_pointer : List Entry → ℕ → Option ℕ → List Entry
with_pointer entries key None = map_after entries (Delete key)
with_pointer entries key (Some pointer) = map_after (map_after entries (Delete key)) (Insert key pointer)

-- the entries after these changes
abbrev pub entries_after : List Entry → List Change → List Entry
entries_after entries [] = entries
entries_after entries (change ∷ rest) = entries_after (with_pointer entries change.key change.pointer) rest

-- the states that these changes gave one key, in their order: a pointer, or None if the key lost its pointer
abbrev pub states_of : ℕ → List Change → List (Option ℕ)
states_of key [] = []
states_of key (change ∷ rest) = if change.key == key then change.pointer ∷ states_of key rest else states_of key rest

-- the last of these states, or `first` if the list is empty
abbrev pub last_state : Option ℕ → List (Option ℕ) → Option ℕ
last_state first [] = first
last_state first (state ∷ rest) = last_state state rest

-- an operation with this answer has made a change, also if it replaced a pointer by the same one
abbrev pub has_changed : Answer → Bool
has_changed Inserted = true
has_changed (Removed kept) = true
has_changed (Replaced kept) = true
has_changed answer = false

-- the changes that an operation of this author makes if its key has this state
abbrev pub changes_made : ℕ → Op → Option ℕ → List Change
changes_made author op kept = if has_changed (answer_at op kept) then record { author = author; key = key_of op; pointer = cell_after op kept } ∷ [] else []

-- a view that has seen `seen` has seen all that it saw before and all of the note that it held
pub record Learns (v : View) (seen : List Change) : Type 0 where
  pub saw : IsPrefix v.seen seen
  pub heard : IsPrefix v.told seen
