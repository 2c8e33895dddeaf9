-- The content of an index: the levels of its tree, its tree's entries, and these as a plain map.
use Rattle.std.specs.Prelude.{ℕ, zero, suc, Option, Some, None, List, [], ◌∷◌, length, map, slice_get}
use Rattle.blink_operation.specs.declared.Entry.{Entry}
use Rattle.blink_page.specs.{PlainPage}
use Rattle.blink_rest.specs.{Pages, entries_along, entries_from}
use Rattle.blink_rest.specs.Chain.{Cell}
use Rattle.blink_store.specs.{PlainStore, page_of}

-- the pages from a link on, each the right link of the one before, and at most this many
abbrev pub cells_from : Pages → ℕ → Option ℕ → List Cell
cells_from pages zero link = []
cells_from pages (suc most) None = []
cells_from pages (suc most) (Some number) =
    elim (pages number) [ None ↦ [] | Some page ↦ record { number = number; page = page } ∷ cells_from pages most page.right ]

-- the pages of a store from a link on
abbrev pub cells_of : PlainStore → Option ℕ → List Cell
cells_of store link = cells_from (page_of store) (length store.pages) link

-- the pages of a level, from the left
abbrev pub level_of : PlainStore → ℕ → List Cell
level_of store level = cells_of store (slice_get store.prime level)

-- the levels that the prime block names, level 0 first
abbrev pub levels_of : PlainStore → List (List Cell)
levels_of store = map (λ leftmost. cells_of store (Some leftmost)) store.prime

-- the store of a fan, a prime block and a list of pages
abbrev pub store_of : ℕ → List ℕ → List PlainPage → PlainStore
store_of fan prime pages = record { fan = fan; prime = prime; pages = pages }

-- the plain map of a store: the entries of its leaves, from the left
abbrev pub map_of : PlainStore → List Entry
map_of store = entries_from (entries_along (level_of store 0))
