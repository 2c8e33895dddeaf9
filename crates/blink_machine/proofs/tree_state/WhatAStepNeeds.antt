-- What a step needs in order to keep all that is so between steps.
use Rattle.std.proofs.Common.{◌≡◌, ◌≢◌, ℕ, inl, inr, Some, refl, sym, ap, ◌∙◌}
use Rattle.std.proofs.lemmas.Bool.{cases_eq}
use Rattle.blink_page.specs.{IsPageNumber, PlainPage}
use Rattle.blink_machine.specs.declared.machine.State.{State}
use Rattle.blink_machine.specs.declared.machine.State.TheVariants.{Start, SplitOld, NewPrime}
use Rattle.blink_machine.specs.Machine.{PlainMachine}
use Rattle.blink_machine.specs.TreeState.{TreeState}
use Rattle.blink_machine.specs.Owned.{latch_of, debt_of, debt_at, unlinked_of, unlinked_at, split_of, LatchesAreHeld}
use Rattle.blink_machine.specs.Placed.{PlacedAt, IsPlaced}
use Rattle.blink_machine.specs.Invariant.{InvariantWith}
use Rattle.blink_machine.specs.Tree.{IsTree}
use Rattle.blink_machine.specs.TreeWithDebts.{Levels}
use Rattle.blink_machine.proofs.tree.TreeStatements.{Grows}
use Rattle.blink_machine.proofs.tree_state.OthersStayPlaced.{LeavesAlone, IsPlaced-stays}
use Rattle.blink_machine.proofs.tree_state.WhoseOperation.{Turns, had_under_way}
use Rattle.blink_machine.proofs.tree_state.WhatMayPass.{DebtsPass, UnlinkedPasses, SplitPasses, LatchesPass}
use Rattle.blink_machine.proofs.tree_state.DebtsPassOn.{DebtsAreOwed-passes}
use Rattle.blink_machine.proofs.tree_state.NewPagesPassOn.{PagesArePlaced-passes, TopIsGrowing-passes}
use Rattle.blink_machine.proofs.tree_state.LatchesPassOn.{LatchesAreHeld-passes}
use Rattle.blink_machine.proofs.tree_state.TreeHasDebts.{is_tree_with_debts}

-- what a step shows
pub record StepPasses (old new : TreeState) (levels grown : Levels) (worker : ℕ) (m after : PlainMachine) : Type 0 where
  pub same_fan : new.fan ≡ old.fan
  pub numbers_in_range : (number : ℕ) (page : PlainPage) → new.pages number ≡ Some page → IsPageNumber number
  pub tree : IsTree old.fan new.prime new.pages grown
  pub grows : Grows levels grown
  pub debts : DebtsPass levels grown (debt_of m) (debt_of after)
  pub unlinked : UnlinkedPasses old.pages new.pages levels grown (unlinked_of m) (unlinked_of after)
  pub split : SplitPasses old.prime new.prime levels grown (split_of m) (split_of after)
  pub latch : LatchesPass old.holder new.holder worker (latch_of m) (latch_of after)
  pub placed : IsPlaced new grown after
  pub alone : (other : ℕ) (n : PlainMachine) → other ≢ worker → old.machines other ≡ Some n → LeavesAlone old new levels grown (latch_of n) (unlinked_of n)

-- an unlinked page is there
pub unlinked_is_there : (tree_state : TreeState) (levels : Levels) (m : PlainMachine) (s : State) (number : ℕ) → PlacedAt tree_state levels m s → unlinked_at s ≡ Some number
    → (page : PlainPage) × (tree_state.pages number ≡ Some page)
unlinked_is_there tree_state levels m (SplitOld page lower debt) number placed unlinked = let same : debt.page ≡ number = cc in (_, ap tree_state.pages (sym same) ∙ placed.2.upper_there)
unlinked_is_there tree_state levels m (NewPrime page debt root prime) number placed unlinked = let same : root ≡ number = cc in (_, ap tree_state.pages (sym same) ∙ placed.3.root_there)
unlinked_is_there tree_state levels m s number placed unlinked = absurd cc

module _ (old new : TreeState) (levels : Levels) (worker : ℕ) (m after : PlainMachine) (invariant : InvariantWith old levels) (turn : Turns old.machines new.machines worker m after) where
  -- such a step keeps everything
  pub step_has_invariant : (grown : Levels) → StepPasses old new levels grown worker m after → InvariantWith new grown
  step_has_invariant grown step = record {
    fan_in_range = rw step.same_fan invariant.fan_in_range;
    numbers_in_range = step.numbers_in_range;
    lawful = is_tree_with_debts new grown (rw step.same_fan step.tree)
        (DebtsAreOwed-passes old new worker m after turn levels grown step.grows invariant.lawful.debts step.debts)
        (PagesArePlaced-passes old new worker m after turn levels grown step.grows invariant.lawful.new_pages.placed step.unlinked
        (λ other number n here unlinked. unlinked_is_there old levels n n.state number (invariant.placed other n here).at_its_state unlinked))
        (TopIsGrowing-passes old new worker m after turn levels grown step.grows invariant.lawful.top.growing step.split)
        latches placed;
    latches = latches;
    placed = placed;
  }
    where
      latches : LatchesAreHeld new
      latches = LatchesAreHeld-passes old new worker m after turn invariant.latches step.latch

      placed : (other : ℕ) (n : PlainMachine) → new.machines other ≡ Some n → IsPlaced new grown n
      placed other n here = elim (cases_eq other worker) [
        | inl same ↦ let its : n ≡ after = turn.is_now n (ap new.machines (sym same) ∙ here) in rw its step.placed
        | inr differs ↦
            let was : old.machines other ≡ Some n = sym (turn.others other differs) ∙ here in
            IsPlaced-stays old new levels grown step.grows n step.same_fan (step.alone other n differs was) (invariant.placed other n was)
      ]

  -- debts where nothing changes in the tree, and the operation owes what it owed
  pub debts_same : debt_of after ≡ debt_of m → DebtsPass levels levels (debt_of m) (debt_of after)
  debts_same same = record {
    made = λ level separator debt. inr debt;
    paid = λ level separator debt it. record { debt = it.debt; owes = same ∙ it.owes; same_level = it.same_level; same_separator = it.same_separator };
    is_debt = λ debt owes. let was : debt_of m ≡ Some debt = sym same ∙ owes in
        invariant.lawful.debts.is_debt worker m debt (had_under_way old.machines new.machines worker m after turn debt_of debt (λ (starts : m.state ≡ Start). ap (λ (s : State). debt_at m.job s) starts) was, was);
    stays = λ level separator debt other. debt;
    taken = λ debt owes. inl (record { debt = debt; owes = sym same ∙ owes; same_level = refl; same_separator = refl });
  }
