-- The references of a level to the level below it.
use Rattle.std.specs.Prelude.{◌≡◌, ℕ, Option, Some, List, [], ◌∷◌, ⊤}
use Rattle.blink_rest.specs.Chain.{Cell}
use Rattle.blink_rest.specs.Numbers.{IsMember}

-- a page of a level with this number and this floor
pub record BeginsAt (cells : List Cell) (number : ℕ) (floor : Option ℕ) : Type 0 where
  pub cell : Cell
  pub stands : IsMember cell cells
  pub same_number : cell.number ≡ number
  pub same_floor : cell.page.floor ≡ floor

-- the key is the high key of a page of the level
pub record IsHighKey (cells : List Cell) (key : ℕ) : Type 0 where
  pub cell : Cell
  pub stands : IsMember cell cells
  pub same_high : cell.page.high ≡ key

-- the entries of the level above, from a floor on: each separator is a high key of the level, and each child a page of it whose
-- floor is the separator before, or the floor for the first
abbrev pub Refers : List Cell → Option ℕ → List (ℕ × ℕ) → Type 0
Refers lower floor [] = ⊤
Refers lower floor ((separator, child) ∷ rest) = IsHighKey lower separator × BeginsAt lower child floor × Refers lower (Some separator) rest

-- the floor of the child that follows some entries: the last separator, or `floor` without entries
abbrev pub separator_after : Option ℕ → List (ℕ × ℕ) → Option ℕ
separator_after floor [] = floor
separator_after floor ((separator, child) ∷ rest) = separator_after (Some separator) rest
