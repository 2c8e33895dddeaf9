-- A tree that is built from the left and from the leaves up: its leaves, a level over another, and all levels.
use Rattle.std.specs.Prelude.{◌≡◌, ◌≢◌, ℕ, ◌+◌, ◌*◌, ◌<◌, ◌≤◌, ◌⊎◌, suc, Option, Some, None, List, [], ◌∷◌, ◌++◌, drop, length, ⊤}
use Rattle.std.specs.List.{flat_map, sum}
use Rattle.blink_page.specs.{PlainPage, IsLawfulPage}
use Rattle.blink_page.specs.declared.limits.TheConstants.{GREATEST_KEY, MAX_PAGE}
use Rattle.blink_rest.specs.{EachIsParent, InLine, IsParentOf, entries_along, names_for}
use Rattle.blink_rest.specs.Chain.{Cell}
use Rattle.blink_entries.specs.Packed.{numbered}

-- the entries of pages, in order
abbrev pub entries_in : List PlainPage → List (ℕ × ℕ)
entries_in pages = flat_map (λ p. p.entries) pages

-- the last leaf so far, with one entry
abbrev pub leaf_after : ℕ → ℕ → ℕ → PlainPage
leaf_after floor key pointer = record { level = 0; floor = Some floor; high = GREATEST_KEY; right = None; entries = (key, pointer) ∷ [] }

-- the pages are a line of leaves for all keys, each but the last full
pub record AreLeaves (fan : ℕ) (pages : List PlainPage) : Type 0 where
  pub before : List PlainPage
  pub last : PlainPage
  pub parts : pages ≡ before ++ last ∷ []
  pub line : InLine fan 0 None (Some 1) (numbered 1 before) last.floor (Some (suc (length before)))
  pub lawful : IsLawfulPage fan last
  pub is_leaf : last.level ≡ 0
  pub is_last : last.high ≡ GREATEST_KEY
  pub full : length (entries_in before) ≡ length before * fan
  pub begun : (0 < length last.entries) ⊎ (before ≡ [])

-- leaves for one entry more than these have numbers
pub record HasLeafNumber (fan : ℕ) (pages : List PlainPage) : Type 0 where
  pub leaves : ℕ
  pub enough : length (entries_in pages) < leaves * fan
  pub in_range : leaves ≤ MAX_PAGE

-- so many pages on each level above are enough over this many pages
abbrev pub AreEnough : ℕ → ℕ → List ℕ → Type 0
AreEnough fan count [] = count ≤ 1
AreEnough fan count (pages ∷ above) = (count ≤ pages * fan) × AreEnough fan pages above

-- the levels over so many pages, with these, have numbers
pub record HasNumbersAbove (fan count : ℕ) : Type 0 where
  pub above : List ℕ
  pub enough : AreEnough fan count above
  pub in_range : count + sum above ≤ MAX_PAGE

-- these pages, numbered from `number` on, are a whole level
abbrev pub IsWhole : ℕ → ℕ → ℕ → List PlainPage → Type 0
IsWhole fan level number pages = InLine fan level None (Some number) (numbered number pages) (Some GREATEST_KEY) None

-- a level was added over the pages from place `first` on
pub record AddsLevel (fan level first : ℕ) (old new : List PlainPage) : Type 0 where
  pub upper : List PlainPage
  pub parts : new ≡ old ++ upper
  pub whole : IsWhole fan level (suc (length old)) upper
  pub named : IsParentOf (numbered (suc (length old)) upper) (numbered (suc first) (drop first old))
  pub half : length upper + length upper ≤ length (drop first old)
  pub few : (pages : ℕ) → length (drop first old) ≤ pages * fan → length upper ≤ pages

-- each level that the prime block names is a whole line, from this level on
abbrev pub AreLines : ℕ → ℕ → List ℕ → List (List Cell) → Type 0
AreLines fan level [] [] = ⊤
AreLines fan level [] (cells ∷ above) = ⊥
AreLines fan level (leftmost ∷ prime) [] = ⊥
AreLines fan level (leftmost ∷ prime) (cells ∷ above) =
    InLine fan level None (Some leftmost) cells (Some GREATEST_KEY) None × AreLines fan (level + 1) prime above

-- the levels so far, of which the top one begins at place `first`
pub record AreBuilt (fan : ℕ) (prime : List ℕ) (pages : List PlainPage) (entries : List (ℕ × ℕ)) (level first : ℕ) : Type 0 where
  pub leaves : List Cell
  pub between : List (List Cell)
  pub below : List (List Cell)
  pub top : List PlainPage
  pub beneath : List PlainPage
  pub from_leaves : below ++ numbered (suc first) top ∷ [] ≡ leaves ∷ between
  pub joined : entries_along leaves ≡ entries
  pub parts : pages ≡ beneath ++ top
  pub begins : length beneath ≡ first
  pub depth : length below ≡ level
  pub lines : AreLines fan 0 prime (below ++ numbered (suc first) top ∷ [])
  pub named : EachIsParent (below ++ numbered (suc first) top ∷ [])
  pub in_order : flat_map (λ cells. cells) (below ++ numbered (suc first) top ∷ []) ≡ numbered 1 pages

-- the place of the first page of the next group of children, which is at most full; no group has one page alone
pub record IsGroup (fan left taken : ℕ) : Type 0 where
  pub two : 2 ≤ taken
  pub at_most_fan : taken ≤ fan
  pub inside : taken ≤ left
  pub two_left : left ≢ taken + 1
  pub few : (pages : ℕ) → left ≤ (suc pages) * fan → left ≤ taken + pages * fan

-- the link to the first of some pages, if there is one
abbrev pub link_to : ℕ → List PlainPage → Option ℕ
link_to number [] = None
link_to number (page ∷ pages) = Some number

-- the floor of the first of some pages
abbrev pub floor_of_first : List PlainPage → Option ℕ
floor_of_first [] = None
floor_of_first (page ∷ pages) = page.floor

-- the high key of the last of some pages
abbrev pub high_of_last : List PlainPage → ℕ
high_of_last [] = 0
high_of_last (page ∷ []) = page.high
high_of_last (page ∷ next ∷ pages) = high_of_last (next ∷ pages)

-- the inner page over some pages, which are numbered from `child` on
abbrev pub page_over : ℕ → ℕ → Option ℕ → List PlainPage → PlainPage
page_over level child right pages = record {
  level = level;
  floor = floor_of_first pages;
  high = high_of_last pages;
  right = right;
  entries = names_for (numbered child pages);
}

-- the level over the pages from place `first` on has numbers
pub record HasNumbersOver (fan first : ℕ) (pages : List PlainPage) : Type 0 where
  pub upper : ℕ
  pub enough : length (drop first pages) ≤ upper * fan
  pub in_range : length pages + upper ≤ MAX_PAGE

-- a prime block and pages of a whole tree with these entries
abbrev pub IsTree : ℕ → List ℕ → List PlainPage → List (ℕ × ℕ) → Type 0
IsTree fan prime pages entries = (level first : ℕ) × AreBuilt fan prime pages entries level first × (length pages ≤ first + 1)
