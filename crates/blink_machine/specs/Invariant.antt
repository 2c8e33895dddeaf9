-- The invariant: what holds between any two steps, whatever the schedule.
use Rattle.std.specs.Prelude.{◌≡◌, ℕ, Some}
use Rattle.blink_page.specs.{IsFan, IsPageNumber, PlainPage}
use Rattle.blink_machine.specs.Machine.{PlainMachine}
use Rattle.blink_machine.specs.TreeState.{TreeState}
use Rattle.blink_machine.specs.Owned.{LatchesAreHeld}
use Rattle.blink_machine.specs.Placed.{IsPlaced}
use Rattle.blink_machine.specs.TreeWithDebts.{IsTreeWithDebtsOf, Levels}

-- a lawful tree with debts, the latches, and what holds of each operation
pub record InvariantWith (tree_state : TreeState) (levels : Levels) : Type 0 where
  pub fan_in_range : IsFan tree_state.fan
  pub numbers_in_range : (number : ℕ) (page : PlainPage) → tree_state.pages number ≡ Some page → IsPageNumber number
  pub lawful : IsTreeWithDebtsOf tree_state levels
  pub latches : LatchesAreHeld tree_state
  pub placed : (worker : ℕ) (m : PlainMachine) → tree_state.machines worker ≡ Some m → IsPlaced tree_state levels m

abbrev pub Invariant : TreeState → Type 0
Invariant tree_state = (levels : Levels) × InvariantWith tree_state levels
