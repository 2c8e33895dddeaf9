-- The end of a search for a key in a plain map.
use Rattle.std.specs.Prelude.{ℕ, ◌≡◌, ◌<◌, ◌≤◌, List, length, slice_index_or}
use Rattle.blink_operation.specs.declared.entry.Entry.{Entry}
use Rattle.blink_operation.specs.PlainMap.{entry}

-- the key of the entry at a place
abbrev pub key_at : List Entry → ℕ → ℕ
key_at map place = let found = slice_index_or map place (entry 0 0) in found.key

-- the entry at the place has the key
pub record IsPlaceOf (map : List Entry) (key place : ℕ) : Type 0 where
  pub in_range : place < length map
  pub has_key : key_at map place ≡ key

-- the key would go to the place: smaller keys stand before it, and greater keys from it on
pub record IsGapFor (map : List Entry) (key place : ℕ) : Type 0 where
  pub in_range : place ≤ length map
  pub smaller_before : (other : ℕ) → other < place → key_at map other < key
  pub greater_after : (other : ℕ) → place ≤ other → other < length map → key < key_at map other
