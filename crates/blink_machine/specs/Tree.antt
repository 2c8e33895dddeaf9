-- A tree between any two steps, and where a page begins in it.
use Rattle.std.specs.Prelude.{◌≡◌, ℕ, ◌≤◌, List}
use Rattle.blink_page.specs.{least_above}
use Rattle.blink_rest.specs.Chain.{Cell}
use Rattle.blink_rest.specs.{IsMember}
pub use Rattle.blink_machine.specs.TreeWithDebts.{IsTree}

-- a page of a level with this number, whose floor is below the key
pub record BeginsBelow (cells : List Cell) (number key : ℕ) : Type 0 where
  pub cell : Cell
  pub stands : IsMember cell cells
  pub same_number : cell.number ≡ number
  pub floor_below : least_above cell.page.floor ≤ key
