-- What is so of the operation that a worker's step is one of.
use Rattle.std.proofs.Common.{◌≡◌, ℕ, Some, ap, subst}
use Rattle.blink_machine.specs.declared.machine.State.{State}
use Rattle.blink_machine.specs.declared.machine.State.TheVariants.{Start}
use Rattle.blink_machine.specs.Machine.{PlainMachine, need_at}
use Rattle.blink_machine.specs.TreeState.{TreeState, IsItsOperation}
use Rattle.blink_machine.specs.Placed.{PlacedAt}
use Rattle.blink_machine.specs.Invariant.{InvariantWith}
use Rattle.blink_machine.specs.TreeWithDebts.{Levels}

-- an operation that needs something else than one that begins has taken a step
pub begun : (m : PlainMachine) → (need_at m.state ≡ need_at Start → ⊥) → m.state ≡ Start → ⊥
begun m elsewhere start = elsewhere (ap need_at start)

module _ (tree_state : TreeState) (levels : Levels) (invariant : InvariantWith tree_state levels) (worker : ℕ) (m : PlainMachine) where
  -- an operation that has taken a step is under way
  pub its_own : IsItsOperation tree_state worker m → (m.state ≡ Start → ⊥) → tree_state.machines worker ≡ Some m
  its_own (IsItsOperation.under_way under) begun = under
  its_own (IsItsOperation.taken_on op idle same) begun = absurd (begun (ap (λ (x : PlainMachine). x.state) same))

  -- and what is so of it at the state that it is in
  pub at_state : (state : State) → tree_state.machines worker ≡ Some m → m.state ≡ state → PlacedAt tree_state levels m state
  at_state state under is = subst (PlacedAt tree_state levels m) is (invariant.placed worker m under).at_its_state
