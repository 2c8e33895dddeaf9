-- Where the invariant holds, each operation can take its next step: what it latches, reads and writes is there, and its latches are its own.
use Rattle.std.proofs.Common.{◌≡◌, ℕ, ◌⊎◌, inl, inr, Some, None, sym, ap, subst, ◌∙◌, arith}
use Rattle.blink_machine.specs.declared.machine.State.TheVariants.{Want}
use Rattle.blink_machine.specs.declared.step.Step.TheVariants.{Moved}
use Rattle.blink_machine.specs.InOrder.{LatchesWell}
use Rattle.blink_machine.specs.Kinds.{write_page}
use Rattle.blink_machine.specs.Machine.{PlainMachine, NeedsLatch, NeedsUnlatch}
use Rattle.blink_machine.specs.TreeState.{TreeState, IsItsOperation, Steps, reads_prime, waits_for_level, reads_page, latches, waits_for_latch, writes_new, writes_page, writes_prime, unlatches}
use Rattle.blink_machine.specs.Owned.{latch_at, latch_of}
use Rattle.blink_machine.specs.Invariant.{Invariant, InvariantWith}
use Rattle.blink_machine.specs.StepLaw.{InvariantGivesOrder}
use Rattle.blink_machine.specs.TreeWithDebts.{Levels}
use Rattle.blink_machine.proofs.tree.TreeStatements.{TreeLaws}
use Rattle.blink_machine.proofs.operation.ReadPagesAreThere.{levels_are_few}
use Rattle.blink_machine.proofs.operation.StatesByNeed.{needs_latch, needs_unlatch}
use Rattle.blink_machine.proofs.operation.WrittenPagesAreLawful.{writes_are_good, new_pages_are_good, prime_writes_are_good}
use Rattle.blink_machine.proofs.operation.OperationIsPlaced.{begun, its_own, at_state}
use Rattle.blink_machine.proofs.tree_state.ReadsSucceed.{page_is_read_well, prime_is_read_well}

-- a write goes to a page that the writer has latched, or to a free number
own_write : TreeLaws → (old new : TreeState) → Invariant old → (worker number : ℕ) (m after : PlainMachine) → IsItsOperation old worker m
    → Steps old worker m (Moved (write_page number)) after new → (old.holder number ≡ Some worker) ⊎ (old.pages number ≡ None)
own_write laws old new invariant worker number m after its (reads_prime needs sees is leaves workers) = absurd (cc)
own_write laws old new invariant worker number m after its (waits_for_level needs waits is same stays) = absurd (cc)
own_write laws old new invariant worker number m after its (reads_page read page needs there sees is leaves workers) = absurd (cc)
own_write laws old new invariant worker number m after its (latches latched needs free done is same_fan same_prime same_pages passes workers) = absurd (cc)
own_write laws old new invariant worker number m after its (waits_for_latch latched holder needs held is same stays) = absurd (cc)
own_write laws old new invariant worker number m after its (writes_new written needs is_number none done is same_fan same_prime one same_holder workers) =
    let at : written ≡ number = cc in
    inr (subst (λ (n : ℕ). old.pages n ≡ None) at none)
own_write laws old new invariant worker number m after its (writes_page written needs done is same_fan same_prime one same_holder workers) =
    let at : written ≡ number = cc in
    inl (subst (λ (n : ℕ). old.holder n ≡ Some worker) at (writes_are_good laws old worker m written invariant its needs).latched)
own_write laws old new invariant worker number m after its (writes_prime needs out done is same_fan same_pages same_holder workers) = absurd (cc)
own_write laws old new invariant worker number m after its (unlatches unlatched needs done is same_fan same_prime same_pages passes workers) = absurd (cc)

module _ (laws : TreeLaws) (tree_state : TreeState) (levels : Levels) (invariant : InvariantWith tree_state levels) (worker : ℕ) where
  -- a worker's latches are those of its one operation, which holds one at most
  one_latch : (page other : ℕ) → tree_state.holder page ≡ Some worker → tree_state.holder other ≡ Some worker → page ≡ other
  one_latch page other holds also =
      let its = invariant.latches.by_holder worker page holds in
      let same = invariant.latches.by_holder worker other also in
      let first : tree_state.machines worker ≡ Some its.0 = its.1 in
      let second : tree_state.machines worker ≡ Some same.0 = same.1 in
      let one : its.0 ≡ same.0 = cc in
      let latch : latch_of its.0 ≡ Some page = its.2 in
      let beside : latch_of its.0 ≡ Some other = subst (λ (n : PlainMachine). latch_of n ≡ Some other) (sym one) same.2 in
      cc

  module _ (m : PlainMachine) (its : IsItsOperation tree_state worker m) where
    -- its fan is the tree's
    same_fan : IsItsOperation tree_state worker m → m.fan ≡ tree_state.fan
    same_fan (IsItsOperation.under_way under) = (invariant.placed worker m under).same_fan
    same_fan (IsItsOperation.taken_on op idle is) = ap (λ (x : PlainMachine). x.fan) is

    -- one that wants a latch holds none
    holds_none : (number held : ℕ) → tree_state.machines worker ≡ Some m → m.state ≡ Want number → tree_state.holder held ≡ Some worker → ⊥
    holds_none number held under at holds =
        let it = invariant.latches.by_holder worker held holds in
        let here : tree_state.machines worker ≡ Some it.0 = it.1 in
        let same : it.0 ≡ m = cc in
        let latch : latch_of m ≡ Some held = subst (λ (n : PlainMachine). latch_of n ≡ Some held) same it.2 in
        let none : latch_of m ≡ None = ap latch_at at in
        cc

    -- the page that it is next to latch is there
    latches_well : (number : ℕ) → NeedsLatch m number → LatchesWell tree_state.pages tree_state.holder worker number
    latches_well number needs =
        let at = needs_latch m.state number needs in
        let under = its_own tree_state levels invariant worker m its (begun m (λ same_need. cc)) in
        let begins = (at_state tree_state levels invariant worker m (Want number) under at).0.stands_at.begins in
        let it = laws.cells_are_of_level tree_state.fan tree_state.prime tree_state.pages levels _ begins.cell invariant.lawful.tree begins.stands in
        record { page = begins.cell.page; there = ap tree_state.pages (sym begins.same_number) ∙ it.there; holds_none = λ held. holds_none number held under at }

    -- and the latch that it is next to let go is its own
    unlatches_own : (number : ℕ) → NeedsUnlatch m number → tree_state.holder number ≡ Some worker
    unlatches_own number needs =
        let at = needs_unlatch m.state number needs in
        let under = its_own tree_state levels invariant worker m its (begun m (λ same_need. cc)) in
        invariant.latches.by_state worker number m under (ap latch_at at.1)

-- all of it
pub invariant_gives_order : TreeLaws → InvariantGivesOrder
invariant_gives_order laws tree_state invariant = record {
  tree = (invariant.0, invariant.1.lawful);
  few_levels = let few = levels_are_few laws tree_state invariant in omega arith;
  same_fan = λ worker m its. same_fan laws tree_state invariant.0 invariant.1 worker m its its;
  one_latch = one_latch laws tree_state invariant.0 invariant.1;
  writes_its_own = λ then worker number m after its steps. own_write laws tree_state then invariant worker number m after its steps;
  latches = λ worker number m its needs. latches_well laws tree_state invariant.0 invariant.1 worker m its number needs;
  unlatches = λ worker number m its needs. unlatches_own laws tree_state invariant.0 invariant.1 worker m its number needs;
  reads_page = λ worker number m its needs. page_is_read_well laws tree_state worker number m invariant its needs;
  reads_prime = λ worker m its needs. prime_is_read_well tree_state worker m invariant its needs;
  writes_page = λ worker number m its needs. writes_are_good laws tree_state worker m number invariant its needs;
  writes_new = λ worker number m its needs in_range. new_pages_are_good laws tree_state worker number m invariant its needs in_range;
  writes_prime = λ worker m prime its needs out numbers. prime_writes_are_good laws tree_state worker m prime invariant its needs out numbers;
}
