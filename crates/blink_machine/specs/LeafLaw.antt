-- What a leaf tells to an operation that has come to it: the state of each key that belongs to the leaf.
use Rattle.std.specs.Prelude.{◌≡◌, ℕ, ◌≤◌, Some, List}
use Rattle.blink_operation.specs.declared.Entry.{Entry}
use Rattle.blink_operation.specs.{pointer_of}
use Rattle.blink_page.specs.{value_at, PlainPage, IsKeyOf, least_above}
use Rattle.blink_machine.specs.declared.machine.State.TheVariants.{Going}
use Rattle.blink_machine.specs.Machine.{PlainMachine, target}
use Rattle.blink_machine.specs.TreeMap.{HasEntries}
use Rattle.blink_machine.specs.TreeState.{TreeState}
use Rattle.blink_machine.specs.Invariant.{Invariant}

-- the leaf's floor is below the key that the operation is after, and the leaf has the map's state of each key from its floor to
-- its high key
pub record TellsItsKeys (m : PlainMachine) (leaf : PlainPage) (entries : List Entry) : Type 0 where
  pub floor_below : least_above leaf.floor ≤ target m
  pub states : (key : ℕ) → IsKeyOf leaf key → pointer_of entries key ≡ value_at key leaf.entries

-- a leaf tells its keys to each operation that has come to it
abbrev pub LeafTellsItsKeys : Type 0
LeafTellsItsKeys = (tree_state : TreeState) (worker number : ℕ) (m : PlainMachine) (leaf : PlainPage) (entries : List Entry) → Invariant tree_state
    → tree_state.machines worker ≡ Some m → m.state ≡ Going number 0 → tree_state.pages number ≡ Some leaf → HasEntries tree_state entries
    → TellsItsKeys m leaf entries
