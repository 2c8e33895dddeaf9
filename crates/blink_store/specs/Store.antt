-- A store as plain data, its page n, and the change of a write.
use Rattle.std.specs.Prelude.{◌≡◌, ◌≢◌, ℕ, ◌<◌, ◌≤◌, zero, suc, Option, Some, None, List, [], ◌∷◌, length, All, slice_get}
use Rattle.blink_page.specs.{IsFan, IsPageNumber, PlainPage, IsLawfulPage, empty_leaf}

-- the greatest number of entries in a page, the leftmost page of each level, and the pages; the n-th is page n
pub record PlainStore : Type 0 where
  pub fan : ℕ
  pub prime : List ℕ
  pub pages : List PlainPage

-- page n of a store; number 0 is the prime block's
abbrev pub page_of : PlainStore → ℕ → Option PlainPage
page_of store zero = None
page_of store (suc n) = slice_get store.pages n

-- page n exists
abbrev pub HasPage : PlainStore → ℕ → Type 0
HasPage store n = (1 ≤ n) × (n ≤ length store.pages)

-- what holds of a store: it names some level, each level by a page number; each page has at most `fan` entries, and each has a
-- number
pub record IsLawfulStore (store : PlainStore) : Type 0 where
  pub fan_in_range : IsFan store.fan
  pub some_level : 0 < length store.prime
  pub prime_numbers : All IsPageNumber store.prime
  pub lawful_pages : All (IsLawfulPage store.fan) store.pages
  pub count_in_range : IsPageNumber (length store.pages)

-- the store of a new tree, whose only page is an empty leaf
abbrev pub new_store : ℕ → PlainStore
new_store fan = record { fan = fan; prime = 1 ∷ []; pages = empty_leaf ∷ [] }

-- exactly page n was written
pub record WritesPage (old new : PlainStore) (n : ℕ) (page : PlainPage) : Type 0 where
  pub same_fan : new.fan ≡ old.fan
  pub same_prime : new.prime ≡ old.prime
  pub written : page_of new n ≡ Some page
  pub others : (other : ℕ) → other ≢ n → page_of new other ≡ page_of old other

-- the two pages stand alike in a tree: at one level, above one floor
abbrev pub SameFloorAndLevel : PlainPage → PlainPage → Type 0
SameFloorAndLevel old new = (new.floor ≡ old.floor) × (new.level ≡ old.level)

-- every page that existed still exists, with its floor and its level
abbrev pub KeepsFloorsAndLevels : PlainStore → PlainStore → Type 0
KeepsFloorsAndLevels old new = (n : ℕ) (page : PlainPage) → page_of old n ≡ Some page
    → (after : PlainPage) × (page_of new n ≡ Some after) × SameFloorAndLevel page after
