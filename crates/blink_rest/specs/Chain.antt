-- A chain: the pages of one level, met from its leftmost page along right links.
use Rattle.std.specs.Prelude.{◌≡◌, ℕ, Option, Some, None, List, [], ◌∷◌, ⊤}
use Rattle.blink_page.specs.{PlainPage, IsLawfulPage}
use Rattle.blink_page.specs.declared.limits.TheConstants.{GREATEST_KEY}

-- the pages of a tree by their numbers; most numbers have no page
abbrev pub Pages : Type 0
Pages = ℕ → Option PlainPage

-- a page with its number
pub record Cell : Type 0 where
  pub number : ℕ
  pub page : PlainPage

-- the page with its number
abbrev pub cell : ℕ → PlainPage → Cell
cell number page = record { number = number; page = page }

-- each of the cells is a page of the tree
abbrev pub AreAmong : Pages → List Cell → Type 0
AreAmong pages [] = ⊤
AreAmong pages (c ∷ cells) = (pages c.number ≡ Some c.page) × AreAmong pages cells

-- lawful pages of one level in line, from a floor and a link to a floor and a link: the link leads to the first page, whose
-- floor is the floor, and its high key and right link are the floor and the link of the rest
abbrev pub InLine : ℕ → ℕ → Option ℕ → Option ℕ → List Cell → Option ℕ → Option ℕ → Type 0
InLine fan level floor link [] last_floor last_link = (floor ≡ last_floor) × (link ≡ last_link)
InLine fan level floor link (c ∷ cells) last_floor last_link =
    (link ≡ Some c.number) × (c.page.floor ≡ floor) × (c.page.level ≡ level) × IsLawfulPage fan c.page
    × InLine fan level (Some c.page.high) c.page.right cells last_floor last_link

-- the floor of the page that follows some cells: the high key of the last cell, or `floor` without cells
abbrev pub floor_after : Option ℕ → List Cell → Option ℕ
floor_after floor [] = floor
floor_after floor (c ∷ cells) = floor_after (Some c.page.high) cells

-- the link to that page: the right link of the last cell, or `link` without cells
abbrev pub link_after : Option ℕ → List Cell → Option ℕ
link_after link [] = link
link_after link (c ∷ cells) = link_after c.page.right cells

-- the chain of a level: it begins at the leftmost page, which has no floor, and ends at a page without a right link, whose high
-- key is the greatest number
pub record IsChain (fan : ℕ) (pages : Pages) (level leftmost : ℕ) (cells : List Cell) : Type 0 where
  pub pages_there : AreAmong pages cells
  pub in_line : InLine fan level None (Some leftmost) cells (Some GREATEST_KEY) None
