-- Trees in as few pages as their entries need, with their pages numbered from the left and from the leaves up.
use Rattle.std.specs.Prelude.{◌≡◌, ℕ, ◌*◌, ◌<◌, ◌≤◌, suc, List, [], ◌∷◌}
use Rattle.std.specs.List.{flat_map, sum}
use Rattle.blink_page.specs.{PlainPage}
use Rattle.blink_page.specs.declared.limits.TheConstants.{MAX_PAGE}
use Rattle.blink_rest.specs.{AreLevels}
use Rattle.blink_rest.specs.Chain.{Cell, cell}
use Rattle.blink_store.specs.{PlainStore, page_of}

-- so many pages hold this many entries, and no fewer do; a level has one page at least
pub record IsFewest (fan count pages : ℕ) : Type 0 where
  pub some : 1 ≤ pages
  pub enough : count ≤ pages * fan
  pub no_fewer : (fewer : ℕ) → 1 ≤ fewer → count ≤ fewer * fan → pages ≤ fewer

-- the numbers of pages of the levels over this many entries, level 0 first: each level has the fewest, and the last has one
abbrev pub AreFewest : ℕ → ℕ → List ℕ → Type 0
AreFewest fan count [] = ⊥
AreFewest fan count (pages ∷ []) = IsFewest fan count pages × (pages ≡ 1)
AreFewest fan count (pages ∷ next ∷ above) = IsFewest fan count pages × (1 < pages) × AreFewest fan pages (next ∷ above)

-- a tree of this many entries needs so many pages
pub record NeedsPages (fan count pages : ℕ) : Type 0 where
  pub levels : List ℕ
  pub fewest : AreFewest fan count levels
  pub all : pages ≡ sum levels

-- a tree of this many entries needs more pages than there are numbers
abbrev pub ExceedsNumbers : ℕ → ℕ → Type 0
ExceedsNumbers fan count = (pages : ℕ) × NeedsPages fan count pages × (MAX_PAGE < pages)

-- the pages with consecutive numbers, from this one on
abbrev pub numbered : ℕ → List PlainPage → List Cell
numbered number [] = []
numbered number (page ∷ pages) = cell number page ∷ numbered (suc number) pages

-- the pages of a tree at rest are numbered from 1 on, level 0 first, and each level from the left
pub record IsInOrder (store : PlainStore) : Type 0 where
  pub levels : List (List Cell)
  pub are : AreLevels store.fan store.prime (page_of store) levels
  pub in_order : flat_map (λ cells. cells) levels ≡ numbered 1 store.pages
