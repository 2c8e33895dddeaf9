-- Pages with new numbers: consecutive along a level, and for a page's children too.
use Rattle.std.specs.Prelude.{ℕ, ◌+◌, zero, suc, Option, Some, None, List, [], ◌∷◌, length, map}
use Rattle.std.specs.List.{flat_map}
use Rattle.blink_page.specs.{PlainPage}
use Rattle.blink_rest.specs.Chain.{Cell, cell}

-- this many consecutive numbers
abbrev pub numbers_from : ℕ → ℕ → List ℕ
numbers_from first zero = []
numbers_from first (suc count) = first ∷ numbers_from (suc first) count

-- the entries with their children numbered from `child` on
abbrev pub with_children : ℕ → List (ℕ × ℕ) → List (ℕ × ℕ)
with_children child [] = []
with_children child ((separator, old) ∷ rest) = (separator, child) ∷ with_children (suc child) rest

-- the entries of a page of this level: a leaf's stay as they are
abbrev pub entries_anew : ℕ → ℕ → List (ℕ × ℕ) → List (ℕ × ℕ)
entries_anew zero child entries = entries
entries_anew (suc level) child entries = with_children child entries

-- the number of children of the entries of a page of this level
abbrev pub child_count : ℕ → List (ℕ × ℕ) → ℕ
child_count zero entries = 0
child_count (suc level) entries = length entries

-- a link becomes a link to `next`; a missing link stays missing
abbrev pub link_anew : ℕ → Option ℕ → Option ℕ
link_anew next None = None
link_anew next (Some old) = Some next

-- the page with its right link set to `next`, and its children numbered from `child` on
abbrev pub page_anew : ℕ → ℕ → PlainPage → PlainPage
page_anew next child page = record {
  level = page.level;
  floor = page.floor;
  high = page.high;
  right = link_anew next page.right;
  entries = entries_anew page.level child page.entries;
}

-- the pages of a level, numbered from `number` on, and their children from `child` on
abbrev pub cells_anew : ℕ → ℕ → List Cell → List Cell
cells_anew number child [] = []
cells_anew number child (c ∷ cells) =
    cell number (page_anew (suc number) child c.page)
    ∷ cells_anew (suc number) (child + child_count c.page.level c.page.entries) cells

-- the pages of levels, numbered from `number` on, and the children of the lowest level from `child` on
abbrev pub levels_anew : ℕ → ℕ → List (List Cell) → List (List Cell)
levels_anew number child [] = []
levels_anew number child (cells ∷ above) = cells_anew number child cells ∷ levels_anew (number + length cells) number above

-- the numbers of the levels' leftmost pages
abbrev pub firsts_anew : ℕ → List (List Cell) → List ℕ
firsts_anew number [] = []
firsts_anew number (cells ∷ above) = number ∷ firsts_anew (number + length cells) above

-- the pages of a level without their numbers
abbrev pub pages_in : List Cell → List PlainPage
pages_in cells = map (λ c. c.page) cells

-- the pages of several levels without their numbers
abbrev pub pages_in_all : List (List Cell) → List PlainPage
pages_in_all levels = flat_map pages_in levels
