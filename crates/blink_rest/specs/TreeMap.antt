-- The entries of a tree as a plain map.
use Rattle.std.specs.Prelude.{ℕ, List, map}
use Rattle.blink_operation.specs.declared.Entry.{Entry}
use Rattle.blink_operation.specs.{entry, IsAscending}
use Rattle.blink_store.specs.{PlainStore, page_of}
use Rattle.blink_rest.specs.Entries.{AreEntries}

-- the entries of a plain map as a tree stores them
abbrev pub pairs_of : List Entry → List (ℕ × ℕ)
pairs_of entries = map (λ (e : Entry). (e.key, e.pointer)) entries

-- such pairs as the entries of a plain map
abbrev pub entries_from : List (ℕ × ℕ) → List Entry
entries_from pairs = map (λ (pair : ℕ × ℕ). entry pair.0 pair.1) pairs

-- the entries of the store's tree are this plain map
pub record IsMapOf (store : PlainStore) (entries : List Entry) : Type 0 where
  pub ascending : IsAscending entries
  pub kept : AreEntries store.fan store.prime (page_of store) (pairs_of entries)

-- the store's tree has some plain map
abbrev pub HasMap : PlainStore → Type 0
HasMap store = (entries : List Entry) × IsMapOf store entries
