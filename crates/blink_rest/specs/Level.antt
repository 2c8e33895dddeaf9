-- The keys of a level, and its references to the level below.
use Rattle.std.specs.Prelude.{◌≡◌, ℕ, List, map}
use Rattle.std.specs.List.{flat_map}
use Rattle.blink_rest.specs.Chain.{Cell}

-- the entries of a level in order: of level 0 the keys with their pointers, above it the separators with their children
abbrev pub entries_along : List Cell → List (ℕ × ℕ)
entries_along cells = flat_map (λ c. c.page.entries) cells

-- the numbers of a level's pages
abbrev pub numbers_of : List Cell → List ℕ
numbers_of cells = map (λ c. c.number) cells

-- the high keys of a level
abbrev pub high_keys : List Cell → List ℕ
high_keys cells = map (λ c. c.page.high) cells

-- the separators of a level
abbrev pub separators : List Cell → List ℕ
separators cells = map (λ (entry : ℕ × ℕ). entry.0) (entries_along cells)

-- the children of a level
abbrev pub children : List Cell → List ℕ
children cells = map (λ (entry : ℕ × ℕ). entry.1) (entries_along cells)

-- a level names the one below: its separators are the high keys there, and its children, in order, the pages; so each child's
-- floor is the separator before its own, and the first child has none
pub record IsParentOf (upper lower : List Cell) : Type 0 where
  pub separators_are_high_keys : separators upper ≡ high_keys lower
  pub children_are_pages : children upper ≡ numbers_of lower
