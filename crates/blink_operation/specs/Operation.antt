-- The answer of an operation on a plain map, the map after it, and the same of a list of operations.
use Rattle.std.specs.Prelude.{◌≡◌, ℕ, ◌<◌, List, [], ◌∷◌, Option, Some, None, length, slice_get, take, if◌then◌else◌, ◌==◌}
use Rattle.blink_operation.specs.declared.entry.Entry.{Entry}
use Rattle.blink_operation.specs.declared.operation.Op.{Op}
use Rattle.blink_operation.specs.declared.operation.Op.TheVariants.{Find, Insert, Delete, Replace, Exchange, DeleteExact}
use Rattle.blink_operation.specs.declared.operation.Answer.{Answer}
use Rattle.blink_operation.specs.declared.operation.Answer.TheVariants.{Found, Absent, Inserted, Exists, Removed, Replaced}
use Rattle.blink_operation.specs.PlainMap.{entry, pointer_of, added, removed, replaced}

-- the key of an operation
abbrev pub key_of : Op → ℕ
key_of (Find key) = key
key_of (Insert key pointer) = key
key_of (Delete key) = key
key_of (Replace key pointer) = key
key_of (Exchange key expected pointer) = key
key_of (DeleteExact key expected) = key

-- the pointer that the operation stores: an insertion's, a replacement's or an exchange's, and 0 for the others, which store
-- none
abbrev pub pointer_with : Op → ℕ
pointer_with (Insert key pointer) = pointer
pointer_with (Replace key pointer) = pointer
pointer_with (Exchange key expected pointer) = pointer
pointer_with op = 0

-- the operation's answer, if the map has this pointer for its key, or none
abbrev pub answer_at : Op → Option ℕ → Answer
answer_at (Find key) (Some kept) = Found kept
answer_at (Insert key pointer) (Some kept) = Exists kept
answer_at (Insert key pointer) None = Inserted
answer_at (Delete key) (Some kept) = Removed kept
answer_at (Replace key pointer) (Some kept) = Replaced kept
answer_at (Exchange key expected pointer) (Some kept) = if kept == expected then Replaced kept else Exists kept
answer_at (DeleteExact key expected) (Some kept) = if kept == expected then Removed kept else Exists kept
answer_at op None = Absent

-- the pointer of that key afterwards, likewise
abbrev pub cell_after : Op → Option ℕ → Option ℕ
cell_after (Insert key pointer) None = Some pointer
cell_after (Delete key) kept = None
cell_after (Replace key pointer) (Some kept) = Some pointer
cell_after (Exchange key expected pointer) (Some kept) = Some (if kept == expected then pointer else kept)
cell_after (DeleteExact key expected) (Some kept) = if kept == expected then None else Some kept
cell_after op kept = kept

-- the whole map afterwards
abbrev pub map_at : Op → Option ℕ → List Entry → List Entry
map_at (Insert key pointer) None map = added map (entry key pointer)
map_at (Delete key) (Some kept) map = removed map key
map_at (Replace key pointer) (Some kept) map = replaced map key pointer
map_at (Exchange key expected pointer) (Some kept) map = if kept == expected then replaced map key pointer else map
map_at (DeleteExact key expected) (Some kept) map = if kept == expected then removed map key else map
map_at op kept map = map

-- apply: the answer of an operation on a map, and the map afterwards
abbrev pub answer_of : List Entry → Op → Answer
answer_of map op = answer_at op (pointer_of map (key_of op))

abbrev pub map_after : List Entry → Op → List Entry
map_after map op = map_at op (pointer_of map (key_of op)) map

-- run: the answers of operations one after another, and the last map
abbrev pub answers : List Entry → List Op → List Answer
answers map [] = []
answers map (op ∷ ops) = answer_of map op ∷ answers (map_after map op) ops

abbrev pub map_after_all : List Entry → List Op → List Entry
map_after_all map [] = map
map_after_all map (op ∷ ops) = map_after_all (map_after map op) ops

-- ---- requests for memory

-- the operation is an insertion of an absent key, so the map grows
abbrev pub AddsEntry : List Entry → Op → Type 0
AddsEntry map op = answer_of map op ≡ Inserted

-- why a run stopped at this map: memory was refused for the answers, before the first operation, or for the entry that the next
-- operation adds
pub data StopsForMemory (map : List Entry) (ops : List Op) (left : List Entry) : Type 0 where
  for_answers : 0 < length ops → left ≡ map → StopsForMemory map ops left
  for_entry : (done : ℕ) (next : Op) → slice_get ops done ≡ Some next → left ≡ map_after_all map (take done ops) → AddsEntry left next
      → StopsForMemory map ops left
