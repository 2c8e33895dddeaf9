-- Laws of trees, for any fan, prime block and pages.
use Rattle.std.specs.Prelude.{◌≡◌, ℕ, ◌+◌, ◌<◌, ◌≤◌, Some, List, [], ◌∷◌, length}
use Rattle.blink_page.specs.{value_at, PlainPage, IsRising}
use Rattle.blink_page.specs.declared.limits.TheConstants.{GREATEST_KEY, LEVELS, MIN_FAN}
use Rattle.blink_store.specs.{PlainStore, IsLawfulStore, page_of}
use Rattle.blink_rest.specs.Chain.{Pages}
use Rattle.blink_rest.specs.Children.{RefersBelow}
use Rattle.blink_rest.specs.Entries.{AreEntries}
use Rattle.blink_rest.specs.Example.{example_store, example_entries}
use Rattle.blink_rest.specs.Reach.{EndsAtLeaf, IsReached}
use Rattle.blink_rest.specs.Rest.{IsAtRest, IsStoreAtRest}
use Rattle.blink_rest.specs.Walk.{IsInLine}

-- the keys of a tree's entries are strictly ascending, from 0 on, and at most the greatest
abbrev pub EntriesAscend : Type 0
EntriesAscend = (fan : ℕ) (prime : List ℕ) (pages : Pages) (entries : List (ℕ × ℕ)) → AreEntries fan prime pages entries
    → IsRising 0 entries (GREATEST_KEY + 1)

-- a tree, at rest or not, has only one list of entries
abbrev pub EntriesAreOneList : Type 0
EntriesAreOneList = (fan : ℕ) (prime : List ℕ) (pages : Pages) (entries others : List (ℕ × ℕ)) → AreEntries fan prime pages entries
    → AreEntries fan prime pages others → entries ≡ others

-- a tree at rest has entries
abbrev pub EntriesExistAtRest : Type 0
EntriesExistAtRest = (fan : ℕ) (prime : List ℕ) (pages : Pages) → IsAtRest fan prime pages
    → (entries : List (ℕ × ℕ)) × AreEntries fan prime pages entries

-- in a tree at rest a search for any key ends at one leaf, which is the leaf that the key belongs to
abbrev pub SearchEndsAtLeaf : Type 0
SearchEndsAtLeaf = (fan : ℕ) (prime : List ℕ) (pages : Pages) (entries : List (ℕ × ℕ)) (key : ℕ) → IsAtRest fan prime pages
    → AreEntries fan prime pages entries → key ≤ GREATEST_KEY → EndsAtLeaf prime pages entries key

-- in a tree at rest a search for a key that has an entry ends at one leaf, and that leaf has the entry
abbrev pub EachKeyIsReached : Type 0
EachKeyIsReached = (fan : ℕ) (prime : List ℕ) (pages : Pages) (entries : List (ℕ × ℕ)) (key value : ℕ) → IsAtRest fan prime pages
    → AreEntries fan prime pages entries → value_at key entries ≡ Some value
    → EndsAtLeaf prime pages entries key × IsReached prime pages key value

-- in a tree at rest each page above the leaves refers to the level just below it
abbrev pub EachPageRefersBelow : Type 0
EachPageRefersBelow = (fan : ℕ) (prime : List ℕ) (pages : Pages) (number : ℕ) (page : PlainPage) → IsAtRest fan prime pages
    → pages number ≡ Some page → 0 < page.level → RefersBelow fan prime pages page

-- in a tree at rest each right link is the number of a page of the same level, whose floor is the high key
abbrev pub EachRightLinkLeads : Type 0
EachRightLinkLeads = (fan : ℕ) (prime : List ℕ) (pages : Pages) (number next : ℕ) (page : PlainPage) → IsAtRest fan prime pages
    → pages number ≡ Some page → page.right ≡ Some next → IsInLine pages next page.level (Some page.high)

-- in a store at rest the prime block has room for one more level
abbrev pub LevelsAreFew : Type 0
LevelsAreFew = (store : PlainStore) → IsLawfulStore store → IsStoreAtRest store → length store.prime < LEVELS

-- the example is at rest, and has the entries of its two leaves
abbrev pub ExampleIsAtRest : Type 0
ExampleIsAtRest = (fan : ℕ) → MIN_FAN ≤ fan → IsStoreAtRest (example_store fan)
    × AreEntries fan (1 ∷ 3 ∷ []) (page_of (example_store fan)) example_entries
