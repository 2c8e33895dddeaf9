-- A page of the tree as plain data, and what makes it lawful.
use Rattle.std.specs.Prelude.{◌≡◌, ℕ, ◌+◌, ◌<◌, ◌≤◌, ◌↔◌, ◌==◌, if◌then◌else◌, Option, None, IsNone, IfSome, List, [], ◌∷◌, length}
use Rattle.blink_page.specs.Limits.{IsPageNumber}
use Rattle.blink_page.specs.Rising.{least_above, IsRising, Covers}
use Rattle.blink_page.specs.Entries.{added, posted, ValuesWithin}
use Rattle.blink_page.specs.declared.limits.TheConstants.{MAX_LEVEL, MAX_PAGE, GREATEST_KEY}

-- level 0 is a leaf; the keys are those above the floor and at most the high key; `right` is the next page of the level; a
-- leaf's entries have values, an inner page's entries children
pub record PlainPage : Type 0 where
  pub level : ℕ
  pub floor : Option ℕ
  pub high : ℕ
  pub right : Option ℕ
  pub entries : List (ℕ × ℕ)

-- the key is above the page's floor and at most its high key
abbrev pub IsKeyOf : PlainPage → ℕ → Type 0
IsKeyOf p key = (least_above p.floor ≤ key) × (key ≤ p.high)

-- the separators reach up to the high key, which is the last one, so each of the page's keys has a child
pub record HasChildren (p : PlainPage) : Type 0 where
  pub two_at_least : 2 ≤ length p.entries
  pub last_is_high : Covers (least_above p.floor) p.entries (p.high + 1)
  pub children : ValuesWithin 1 MAX_PAGE p.entries

-- what holds of a page wherever it stands, with at most `fan` entries
pub record IsLawfulPage (fan : ℕ) (p : PlainPage) : Type 0 where
  pub level_in_range : p.level ≤ MAX_LEVEL
  pub high_in_range : p.high ≤ GREATEST_KEY
  pub floor_below_high : least_above p.floor ≤ p.high
  pub right_unless_last : IsNone p.right ↔ (p.high ≡ GREATEST_KEY)
  pub right_is_number : IfSome p.right IsPageNumber
  pub at_most_fan : length p.entries ≤ fan
  pub keys_rise : IsRising (least_above p.floor) p.entries (p.high + 1)
  pub values_in_range : ValuesWithin 0 GREATEST_KEY p.entries
  pub inner : 0 < p.level → HasChildren p

-- the page with other entries
abbrev pub with_entries : PlainPage → List (ℕ × ℕ) → PlainPage
with_entries p entries = record p { entries = entries }

-- the entries with one more: added in a leaf, posted in an inner page
abbrev pub entries_with : PlainPage → ℕ × ℕ → List (ℕ × ℕ)
entries_with p entry = if p.level == 0 then added entry p.entries else posted entry p.entries

-- the first page of a new tree
abbrev pub empty_leaf : PlainPage
empty_leaf = record { level = 0; floor = None; high = GREATEST_KEY; right = None; entries = [] }

-- the root over the two halves of the root before it
abbrev pub root_over : ℕ → ℕ → ℕ → ℕ → PlainPage
root_over level separator left right = record {
  level = level;
  floor = None;
  high = GREATEST_KEY;
  right = None;
  entries = (separator, left) ∷ (GREATEST_KEY, right) ∷ [];
}
