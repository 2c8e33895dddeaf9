-- How the words of a table that opens are laid: one row after another, each with the page word that names it.
use Rattle.std.specs.Prelude.{◌≡◌, ◌≢◌, ◌⊎◌, ℕ, ◌+◌, ◌<◌, ◌≤◌, List, length, slice_index}
use Rattle.blink_rows.specs.{PlainCounts}
use Rattle.blink_rows.specs.declared.limits.TheConstants.{ROW_WORDS}
use Rattle.blink_live.specs.Words.{row_start, RowIs}

-- the place is outside this row
abbrev pub IsOutside : PlainCounts → ℕ → ℕ → Type 0
IsOutside counts row place = (place < row_start counts row) ⊎ (row_start counts row + ROW_WORDS ≤ place)

-- row number + 1 was stored, the number's page word names it, and no other word changed
pub record LaysRow (counts : PlainCounts) (old new : List ℕ) (number : ℕ) (row : List ℕ) : Type 0 where
  pub width : length new ≡ length old
  pub named : slice_index new number ≡ number + 1
  pub row_is : RowIs counts new (number + 1) row
  pub others : (place : ℕ) → place ≢ number → IsOutside counts (number + 1) place → slice_index new place ≡ slice_index old place
