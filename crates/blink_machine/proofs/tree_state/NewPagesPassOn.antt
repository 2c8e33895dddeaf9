-- How unlinked pages and a growing top level pass from one tree state to the next.
use Rattle.std.proofs.Common.{◌≡◌, ◌≢◌, ℕ, ◌⊎◌, inl, inr, Some, sym, ap, ◌∙◌}
use Rattle.std.proofs.lemmas.Bool.{cases_eq}
use Rattle.blink_page.specs.{PlainPage}
use Rattle.blink_machine.specs.declared.machine.State.TheVariants.{Start, Ended}
use Rattle.blink_machine.specs.Machine.{PlainMachine}
use Rattle.blink_machine.specs.TreeState.{TreeState}
use Rattle.blink_machine.specs.Owned.{unlinked_of, unlinked_at, split_of, split_at}
use Rattle.blink_machine.specs.TreeWithDebts.{IsUnlinked, PagesArePlaced, IsSplitBy, TopIsGrowing, Levels, IsInChain}
use Rattle.blink_machine.proofs.tree.TreeStatements.{Grows}
use Rattle.blink_machine.proofs.tree_state.KnownPagesStay.{IsInChain-grows}
use Rattle.blink_machine.proofs.tree_state.WhatMayPass.{UnlinkedPasses, SplitPasses}
use Rattle.blink_machine.proofs.tree_state.WhoseOperation.{Turns, was_other, is_other, had_under_way, has_under_way, had_by, has_by}

module _ (old new : TreeState) (worker : ℕ) (m after : PlainMachine) (turn : Turns old.machines new.machines worker m after) (levels grown : Levels) (grows : Grows levels grown) where
  module _ (pages : PagesArePlaced old levels) (pass : UnlinkedPasses old.pages new.pages levels grown (unlinked_of m) (unlinked_of after))
      (unlinked_there : (other number : ℕ) (n : PlainMachine) → old.machines other ≡ Some n → unlinked_of n ≡ Some number → (page : PlainPage) × (old.pages number ≡ Some page)) where
    -- an operation with an unlinked page is under way
    had_unlinked : (number : ℕ) → unlinked_of m ≡ Some number → old.machines worker ≡ Some m
    had_unlinked number = had_under_way old.machines new.machines worker m after turn unlinked_of number (λ (starts : m.state ≡ Start). ap unlinked_at starts)

    -- its unlinked page now is one
    has_unlinked : (number : ℕ) → unlinked_of after ≡ Some number → IsUnlinked new number
    has_unlinked number unlinked = record {
      worker = worker;
      m = after;
      under_way = has_under_way old.machines new.machines worker m after turn unlinked_of number (λ (ends : after.state ≡ Ended). ap unlinked_at ends) unlinked;
      unlinked = unlinked;
    }

    -- a page that was unlinked is so, unless the operation gave it up
    unlinked_now : (number : ℕ) → (unlinked_of m ≡ Some number → unlinked_of after ≡ Some number) → IsUnlinked old number → IsUnlinked new number
    unlinked_now number kept was = elim (cases_eq was.worker worker) [
      | inl same ↦ has_unlinked number (kept (had_by old.machines new.machines worker m after turn unlinked_of number was.worker was.m same was.under_way was.unlinked))
      | inr differs ↦ record { worker = was.worker; m = was.m; under_way = is_other old.machines new.machines worker m after turn was.worker was.m differs was.under_way; unlinked = was.unlinked }
    ]

    -- each page is in a chain or unlinked
    placed_now : (number : ℕ) (page : PlainPage) → new.pages number ≡ Some page → IsInChain grown number ⊎ IsUnlinked new number
    placed_now number page there = elim (pass.placed number page there) [
      | inl chained ↦ inl chained
      | inr rest ↦ elim rest [
        | inl its ↦ inr (has_unlinked number its)
        | inr was ↦ elim (pages.placed number was.0 was.1) [
          | inl chained ↦ inl (IsInChain-grows levels grown grows number chained)
          | inr unlinked ↦ inr (unlinked_now number was.2 unlinked)
        ]
      ]
    ]

    -- another's unlinked page is in no chain
    other_in_no_chain : (other number : ℕ) (n : PlainMachine) → other ≢ worker → old.machines other ≡ Some n → unlinked_of n ≡ Some number → ¬ IsInChain grown number
    other_in_no_chain other number n differs here unlinked chained = elim (pass.linked number chained) [
      | inl was ↦ pages.in_no_chain other number n here unlinked was
      | inr its ↦ differs (pages.of_one other worker number n m here (had_unlinked number its) unlinked its)
    ]

    -- and isn't the operation's
    unlinked_of_no_other : (other number : ℕ) (n : PlainMachine) → other ≢ worker → old.machines other ≡ Some n → unlinked_of n ≡ Some number → unlinked_of after ≡ Some number → ⊥
    unlinked_of_no_other other number n differs here unlinked its = elim (pass.taken number its) [
      | inl before ↦ differs (pages.of_one other worker number n m here (had_unlinked number before) unlinked before)
      | inr free ↦ let there = unlinked_there other number n here unlinked in let is_there : old.pages number ≡ Some there.0 = there.1 in cc
    ]

    -- so each unlinked page is of one
    unlinked_of_one : (one other number : ℕ) (n k : PlainMachine) → new.machines one ≡ Some n → new.machines other ≡ Some k → unlinked_of n ≡ Some number → unlinked_of k ≡ Some number → one ≡ other
    unlinked_of_one one other number n k here there unlinked other_unlinked = elim (cases_eq one worker) [
      | inl is_its ↦ elim (cases_eq other worker) [
        | inl same ↦ is_its ∙ sym same
        | inr differs ↦ absurd (unlinked_of_no_other other number k differs (was_other old.machines new.machines worker m after turn other k differs there) other_unlinked
            (has_by old.machines new.machines worker m after turn unlinked_of number one n is_its here unlinked))
      ]
      | inr differs ↦ elim (cases_eq other worker) [
        | inl same ↦ absurd (unlinked_of_no_other one number n differs (was_other old.machines new.machines worker m after turn one n differs here) unlinked
            (has_by old.machines new.machines worker m after turn unlinked_of number other k same there other_unlinked))
        | inr also ↦ pages.of_one one other number n k (was_other old.machines new.machines worker m after turn one n differs here)
            (was_other old.machines new.machines worker m after turn other k also there) unlinked other_unlinked
      ]
    ]

    -- and pages are placed as they have to be
    pub PagesArePlaced-passes : PagesArePlaced new grown
    PagesArePlaced-passes = record {
      placed = placed_now;
      in_no_chain = λ other number n here unlinked. elim (cases_eq other worker) [
        | inl same ↦ pass.in_no_chain number (has_by old.machines new.machines worker m after turn unlinked_of number other n same here unlinked)
        | inr differs ↦ other_in_no_chain other number n differs (was_other old.machines new.machines worker m after turn other n differs here) unlinked
      ];
      of_one = unlinked_of_one;
    }

  module _ (top : TopIsGrowing old levels) (pass : SplitPasses old.prime new.prime levels grown (split_of m) (split_of after)) where
    -- the page that the operation has split now is split by it
    has_split : (page : ℕ) → split_of after ≡ Some page → IsSplitBy new page
    has_split page split = record {
      worker = worker;
      m = after;
      under_way = has_under_way old.machines new.machines worker m after turn split_of page (λ (ends : after.state ≡ Ended). ap split_at ends) split;
      split = split;
    }

    -- one that was split by an operation is so, unless this one has gone on from it
    split_now : (page : ℕ) → (split_of m ≡ Some page → split_of after ≡ Some page) → IsSplitBy old page → IsSplitBy new page
    split_now page kept was = elim (cases_eq was.worker worker) [
      | inl same ↦ has_split page (kept (had_by old.machines new.machines worker m after turn split_of page was.worker was.m same was.under_way was.split))
      | inr differs ↦ record { worker = was.worker; m = was.m; under_way = is_other old.machines new.machines worker m after turn was.worker was.m differs was.under_way; split = was.split }
    ]

    -- so a top level that grows has its operation
    pub TopIsGrowing-passes : TopIsGrowing new grown
    TopIsGrowing-passes level leftmost is_top there long = elim (pass level leftmost is_top there long) [
      | inl its ↦ has_split leftmost its
      | inr was ↦ split_now leftmost was.kept (top level leftmost was.top was.leftmost_there was.long)
    ]
