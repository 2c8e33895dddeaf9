-- Laws of the plain map of an index and of its text.
use Rattle.std.specs.Prelude.{◌≡◌, List}
use Rattle.blink_operation.specs.declared.Entry.{Entry}
use Rattle.blink_rest.specs.Chain.{Cell}
use Rattle.blink_rest.specs.{AreEntries, AreLevels, IsStoreAtRest, IsMapOf, pairs_of}
use Rattle.blink_store.specs.{PlainStore, page_of}
use Rattle.blink_entries.specs.Dump.{text_of, text_of_store}
use Rattle.blink_entries.specs.Index.{map_of}

-- the plain map of a store at rest ascends, and it is that of the tree
abbrev pub MapIsKept : Type 0
MapIsKept = (store : PlainStore) → IsStoreAtRest store → IsMapOf store (map_of store)

-- the tree has no other map
abbrev pub NoOtherMapIsKept : Type 0
NoOtherMapIsKept = (store : PlainStore) (entries : List Entry) → IsStoreAtRest store
    → AreEntries store.fan store.prime (page_of store) (pairs_of entries) → entries ≡ map_of store

-- the text of a store has the lines of the levels of its tree
abbrev pub TextIsOfLevels : Type 0
TextIsOfLevels = (store : PlainStore) (levels : List (List Cell)) → AreLevels store.fan store.prime (page_of store) levels
    → text_of_store store ≡ text_of levels
