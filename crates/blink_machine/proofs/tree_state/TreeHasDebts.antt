-- The tree of a tree state is a lawful tree with debts: what its operations know of their new pages and latches says the rest.
use Rattle.std.proofs.Common.{◌≡◌, ℕ, ◌+◌, Some, refl, ap, sym, ◌∙◌}
use Rattle.blink_page.specs.{root_over, upper_half}
use Rattle.blink_machine.specs.declared.machine.State.{State}
use Rattle.blink_machine.specs.declared.machine.State.TheVariants.{SplitOld, AskPrime, Root, NewPrime}
use Rattle.blink_machine.specs.Machine.{PlainMachine}
use Rattle.blink_machine.specs.TreeState.{TreeState}
use Rattle.blink_machine.specs.Owned.{latch_at, unlinked_at, split_at, LatchesAreHeld}
use Rattle.blink_machine.specs.Placed.{PlacedAt, IsPlaced}
use Rattle.blink_machine.specs.Table.{overfull}
use Rattle.blink_machine.specs.TreeWithDebts.{Levels, DebtsAreOwed, PagesArePlaced, TopIsGrowing, is_upper_half, is_new_root, IsTree, IsWritten, IsTreeWithDebtsOf}

-- the new page of an operation is there, with its content
written_at : (tree_state : TreeState) (levels : Levels) (m : PlainMachine) (state : State) (number : ℕ) → m.state ≡ state → PlacedAt tree_state levels m state → unlinked_at state ≡ Some number
    → IsWritten tree_state m number
written_at tree_state levels m (SplitOld page lower debt) number is placed unlinked =
    let same : debt.page ≡ number = cc in
    let halved = placed.2 in
    record {
      page = upper_half m.fan halved.page (overfull m halved.page);
      there = ap tree_state.pages (sym same) ∙ halved.upper_there;
      content = is_upper_half page halved.page lower debt is halved.read.there refl;
    }
written_at tree_state levels m (NewPrime page debt root prime) number is placed unlinked =
    let same : root ≡ number = cc in
    record {
      page = root_over (debt.level + 1) debt.separator page debt.page;
      there = ap tree_state.pages (sym same) ∙ placed.3.root_there;
      content = is_new_root page root debt prime is refl;
    }
written_at tree_state levels m state number is placed unlinked = absurd cc

-- an operation that has split a page and may make a new root holds its latch
split_is_latched : (state : State) (page : ℕ) → split_at state ≡ Some page → latch_at state ≡ Some page
split_is_latched (AskPrime page debt) number split = split
split_is_latched (Root page debt prime) number split = split
split_is_latched (NewPrime page debt root prime) number split = split
split_is_latched state number split = absurd cc

-- so a tree of which its operations know enough is a lawful tree with debts
pub is_tree_with_debts : (tree_state : TreeState) (levels : Levels) → IsTree tree_state.fan tree_state.prime tree_state.pages levels → DebtsAreOwed tree_state levels → PagesArePlaced tree_state levels
    → TopIsGrowing tree_state levels → LatchesAreHeld tree_state → ((worker : ℕ) (m : PlainMachine) → tree_state.machines worker ≡ Some m → IsPlaced tree_state levels m)
    → IsTreeWithDebtsOf tree_state levels
is_tree_with_debts tree_state levels tree debts pages_placed growing latches placed = record {
  tree = tree;
  new_pages = record {
    placed = pages_placed;
    written = λ worker number m here unlinked. written_at tree_state levels m m.state number refl (placed worker m here).at_its_state unlinked;
  };
  debts = debts;
  top = record {
    growing = growing;
    latched = λ worker page m here split. latches.by_state worker page m here (split_is_latched m.state page split);
  };
}
