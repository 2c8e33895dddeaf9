-- The pages that words hold and that are still to be added to a store.
use Rattle.std.specs.Prelude.{◌≡◌, ℕ, ◌+◌, ◌≤◌, suc, Option, Some, None, List, [], ◌∷◌, ◌++◌, length, ⊤}
use Rattle.blink_page.specs.{PlainPage, IsLawfulPage}
use Rattle.blink_page.specs.declared.limits.TheConstants.{GREATEST_KEY, MAX_FAN, MAX_PAGE}
use Rattle.blink_rest.specs.{InLine, entries_along}
use Rattle.blink_rest.specs.Chain.{Cell}
use Rattle.blink_rows.specs.{PlainCounts}
use Rattle.blink_live.specs.Renumbered.{cells_anew, child_count, pages_in}
use Rattle.blink_live.specs.Words.{KeepsPage}

-- the words hold a lawful page of this number
abbrev pub HasPageAt : PlainCounts → List ℕ → ℕ → Type 0
HasPageAt counts words number = (page : PlainPage) × KeepsPage counts words number page × IsLawfulPage MAX_FAN page

-- and this page is it
abbrev pub IsPageAt : PlainCounts → List ℕ → ℕ → PlainPage → Type 0
IsPageAt counts words number page = (other : PlainPage) → KeepsPage counts words number other → IsLawfulPage MAX_FAN other → page ≡ other

-- the words hold each of the pages under its number
abbrev pub AreKept : PlainCounts → List ℕ → List Cell → Type 0
AreKept counts words [] = ⊤
AreKept counts words (c ∷ cells) = KeepsPage counts words c.number c.page × AreKept counts words cells

-- the last pages of a level, from a link on: they are to follow `count` pages of a store, with children numbered from `child` on
pub record AreToCome (counts : PlainCounts) (words : List ℕ) (fan level : ℕ) (floor link : Option ℕ) (count child : ℕ) (cells : List Cell) : Type 0 where
  pub kept : AreKept counts words cells
  pub in_line : InLine fan level floor link cells (Some GREATEST_KEY) None
  pub room : count + length cells ≤ MAX_PAGE
  pub first_child : 1 ≤ child
  pub room_for_children : child + child_count level (entries_along cells) ≤ MAX_PAGE + 1

-- such pages exist
pub record HasPagesToCome (counts : PlainCounts) (words : List ℕ) (fan : ℕ) (link : Option ℕ) (count child : ℕ) : Type 0 where
  pub level : ℕ
  pub floor : Option ℕ
  pub cells : List Cell
  pub are : AreToCome counts words fan level floor link count child cells

-- leaves for a new store exist, from this page on
abbrev pub HasLeavesToCome : PlainCounts → List ℕ → ℕ → ℕ → Type 0
HasLeavesToCome counts words fan leftmost = (cells : List Cell) × AreToCome counts words fan 0 None (Some leftmost) 0 1 cells

-- the pages that were to follow are added
abbrev pub AddsPages : PlainCounts → List ℕ → ℕ → Option ℕ → ℕ → List PlainPage → List PlainPage → Type 0
AddsPages counts words fan link child old new = (level : ℕ) (floor : Option ℕ) (cells : List Cell)
    → AreToCome counts words fan level floor link (length old) child cells → new ≡ old ++ pages_in (cells_anew (suc (length old)) child cells)
