-- A leaf tells the state of each of its keys.
use Rattle.std.proofs.Common.{◌≡◌, ◌≤◌, ap, subst}
use Rattle.blink_page.specs.{PlainPage, least_above}
use Rattle.blink_rest.specs.Chain.{cell}
use Rattle.blink_machine.specs.declared.machine.State.TheVariants.{Going}
use Rattle.blink_machine.specs.Machine.{target}
use Rattle.blink_machine.specs.LeafLaw.{LeafTellsItsKeys}
use Rattle.blink_machine.proofs.tree.TreeLaws.{tree_laws}
use Rattle.blink_machine.proofs.tree_state.EntriesOfATree.{pointer_in_leaf}
use Rattle.blink_machine.proofs.operation.OperationIsPlaced.{at_state}
use Rattle.blink_machine.proofs.operation.PageUnderLatch.{stands_here}

pub leaf_tells_its_keys : LeafTellsItsKeys
leaf_tells_its_keys tree_state worker number m leaf entries invariant under going there kept =
    let placed = at_state tree_state invariant.0 invariant.1 worker m (Going number 0) under going in
    let begins = placed.1.begins in
    let it = tree_laws.cells_are_of_level tree_state.fan tree_state.prime tree_state.pages invariant.0 0 begins.cell invariant.1.lawful.tree begins.stands in
    let same : begins.cell.page ≡ leaf = cc (it.there, there, ap tree_state.pages begins.same_number) in
    let stands = stands_here tree_laws tree_state invariant.0 invariant.1 number 0 (target m) leaf begins there in record {
      floor_below = subst (λ (page : PlainPage). least_above page.floor ≤ target m) same begins.floor_below;
      states = λ key belongs. pointer_in_leaf tree_state.fan tree_state.prime tree_state.pages invariant.0 invariant.1.lawful.tree tree_laws entries key (cell number leaf) kept stands belongs;
    }
