-- The pages that a walk along a level meets.
use Rattle.std.specs.Prelude.{◌≡◌, ℕ, ◌+◌, Option, Some, None, List, ◌++◌, length, map}
use Rattle.blink_page.specs.{PlainPage}
use Rattle.blink_page.specs.declared.limits.TheConstants.{GREATEST_KEY}
use Rattle.blink_rest.specs.Chain.{Cell, Pages, AreAmong, InLine, IsChain}
use Rattle.blink_rest.specs.Level.{entries_along, IsParentOf}

-- a page of this level and this floor has this number
pub record IsInLine (pages : Pages) (number level : ℕ) (floor : Option ℕ) : Type 0 where
  pub page : PlainPage
  pub there : pages number ≡ Some page
  pub same_level : page.level ≡ level
  pub same_floor : page.floor ≡ floor

-- the pages of a chain from a link on
pub record IsTail (fan : ℕ) (pages : Pages) (link : Option ℕ) (cells : List Cell) : Type 0 where
  pub level : ℕ
  pub floor : Option ℕ
  pub pages_there : AreAmong pages cells
  pub in_line : InLine fan level floor link cells (Some GREATEST_KEY) None

-- the link leads to the last pages of a chain, or nowhere
abbrev pub HasTail : ℕ → Pages → Option ℕ → Type 0
HasTail fan pages link = (cells : List Cell) × IsTail fan pages link cells

-- the entries of a page above that name these pages
abbrev pub names_for : List Cell → List (ℕ × ℕ)
names_for cells = map (λ c. (c.page.high, c.number)) cells

-- entries name the first pages from a link on, and leave those from another link on
pub record NamesFirst (fan : ℕ) (pages : Pages) (entries : List (ℕ × ℕ)) (link after : Option ℕ) : Type 0 where
  pub prefix : List Cell
  pub rest : List Cell
  pub whole : IsTail fan pages link (prefix ++ rest)
  pub left : IsTail fan pages after rest
  pub named : entries ≡ names_for prefix

-- the entries name no first pages from a link on
abbrev pub NamesNone : ℕ → Pages → List (ℕ × ℕ) → Option ℕ → Type 0
NamesNone fan pages entries link =
    (cells : List Cell) (more : List (ℕ × ℕ)) → IsTail fan pages link cells → entries ++ more ≡ names_for cells → ⊥

-- the pages from the upper link on name those from the lower link on
pub record TailNames (fan : ℕ) (pages : Pages) (upper lower : ℕ) : Type 0 where
  pub uppers : List Cell
  pub lowers : List Cell
  pub above : IsTail fan pages (Some upper) uppers
  pub below : IsTail fan pages (Some lower) lowers
  pub named : entries_along uppers ≡ names_for lowers

-- the level has a chain of this many pages
pub record HasChain (fan : ℕ) (pages : Pages) (level leftmost count : ℕ) : Type 0 where
  pub cells : List Cell
  pub chain : IsChain fan pages level leftmost cells
  pub counted : length cells ≡ count

-- the level has a chain
abbrev pub HasSomeChain : ℕ → Pages → ℕ → ℕ → Type 0
HasSomeChain fan pages level leftmost = (cells : List Cell) × IsChain fan pages level leftmost cells

-- the level has no chain
abbrev pub HasNoChain : ℕ → Pages → ℕ → ℕ → Type 0
HasNoChain fan pages level leftmost = (cells : List Cell) → IsChain fan pages level leftmost cells → ⊥

-- the level has a chain of this many pages, which the chain of the level above names
pub record HasNamedChain (fan : ℕ) (pages : Pages) (level lower upper count : ℕ) : Type 0 where
  pub uppers : List Cell
  pub cells : List Cell
  pub above : IsChain fan pages (level + 1) upper uppers
  pub chain : IsChain fan pages level lower cells
  pub named : IsParentOf uppers cells
  pub counted : length cells ≡ count

-- the level has no chain that the chain of the level above names
abbrev pub HasNoNamedChain : ℕ → Pages → ℕ → ℕ → ℕ → Type 0
HasNoNamedChain fan pages level lower upper = (uppers cells : List Cell) → IsChain fan pages (level + 1) upper uppers → IsChain fan pages level lower cells → IsParentOf uppers cells → ⊥
