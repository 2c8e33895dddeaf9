-- The tree at rest that words hold, and the store that it is copied into.
use Rattle.std.specs.Prelude.{◌≡◌, ℕ, List, length}
use Rattle.std.specs.List.{flat_map}
use Rattle.blink_store.specs.{PlainStore, page_of}
use Rattle.blink_rest.specs.{Pages, AreEntries, numbers_of, AreLevels, IsAtRest}
use Rattle.blink_rest.specs.Chain.{Cell}
use Rattle.blink_rows.specs.{PlainCounts}
use Rattle.blink_live.specs.Renumbered.{numbers_from}
use Rattle.blink_live.specs.Words.{KeepsPages}

-- the words hold the pages of a tree at rest
pub record KeepsTreeAtRest (counts : PlainCounts) (words : List ℕ) (fan : ℕ) (prime : List ℕ) : Type 0 where
  pub pages : Pages
  pub kept : KeepsPages counts words pages
  pub at_rest : IsAtRest fan prime pages

-- whatever tree at rest the words hold, the store has its entries
abbrev pub HasTheEntries : PlainCounts → List ℕ → ℕ → List ℕ → PlainStore → Type 0
HasTheEntries counts words fan prime store = (pages : Pages) → KeepsPages counts words pages → IsAtRest fan prime pages
    → (entries : List (ℕ × ℕ)) → AreEntries fan prime pages entries → AreEntries store.fan store.prime (page_of store) entries

-- the pages of a tree at rest are numbered from 1 on, level 0 first, and each level from the left
pub record IsNumberedInOrder (store : PlainStore) : Type 0 where
  pub levels : List (List Cell)
  pub are : AreLevels store.fan store.prime (page_of store) levels
  pub in_order : flat_map numbers_of levels ≡ numbers_from 1 (length store.pages)
