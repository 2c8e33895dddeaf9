-- What one operation makes of a tree at rest, in place.
use Rattle.std.specs.Prelude.{◌≡◌, ◌+◌, ◌*◌, ◌<◌, ◌≤◌, ℕ, None, Some, List, length, slice_get}
use Rattle.std.specs.List.{count_by}
use Rattle.blink_operation.specs.declared.Answer.{Answer}
use Rattle.blink_operation.specs.declared.Op.{Op}
use Rattle.blink_operation.specs.declared.Op.TheVariants.{Insert}
use Rattle.blink_operation.specs.{answer_of, is_insert, map_after}
use Rattle.blink_page.specs.{ExceedsPageLimit, value_at}
use Rattle.blink_page.specs.declared.limits.TheConstants.{MAX_NEW_PAGES_PER_INSERT}
use Rattle.blink_rest.specs.{IsMapOf, IsStoreAtRest}
use Rattle.blink_store.specs.{IsLeafOf, PlainStore}
use Rattle.blink_index.specs.declared.error.EditError.{EditError}
use Rattle.blink_index.specs.declared.error.EditError.TheVariants.{OutOfMemory, TooLarge}
use Rattle.blink_entries.specs.Index.{map_of}

-- the store is at rest after the operation, which has answered and changed the plain map as it has to
pub record IsEdited (old new : PlainStore) (op : Op) (answer : Answer) : Type 0 where
  pub rests : IsStoreAtRest new
  pub answers : answer ≡ answer_of (map_of old) op
  pub maps : map_of new ≡ map_after (map_of old) op
  pub kept : IsMapOf new (map_of new)
  pub same_fan : new.fan ≡ old.fan

-- the key is absent, and its leaf is full: an insertion of the key splits the leaf
pub record SplitsLeaf (store : PlainStore) (key : ℕ) : Type 0 where
  pub number : ℕ
  pub leaf_of : IsLeafOf store number key
  pub absent : value_at key leaf_of.leaf.entries ≡ None
  pub full : length leaf_of.leaf.entries ≡ store.fan

-- the tree has at most so many pages more than before as the insertions among these operations may need
abbrev pub HasPagesFor : List Op → PlainStore → PlainStore → Type 0
HasPagesFor ops before after = length after.pages ≤ length before.pages + MAX_NEW_PAGES_PER_INSERT * count_by is_insert ops

-- why an operation may be refused: only an insertion is, if it might need more page numbers than exist, or if it would split a leaf
abbrev pub IsEditRefusal : PlainStore → Op → EditError → Type 0
IsEditRefusal store (Insert key pointer) TooLarge = ExceedsPageLimit (length store.pages) 1
IsEditRefusal store (Insert key pointer) OutOfMemory = SplitsLeaf store key
IsEditRefusal store op refusal = ⊥

-- why operations stopped where this many were carried out: memory for the answers was refused, before the first operation; or the
-- next operation was refused
pub data StopsEdits (store : PlainStore) (ops : List Op) (carried_out : ℕ) (refusal : EditError) : Type 0 where
  for_answers : 0 < length ops → carried_out ≡ 0 → refusal ≡ OutOfMemory → StopsEdits store ops carried_out refusal
  for_next : (next : Op) → slice_get ops carried_out ≡ Some next → IsEditRefusal store next refusal → StopsEdits store ops carried_out refusal
