-- A page written at a free number keeps all that is so between steps.
use Rattle.std.proofs.Common.{◌≡◌, ℕ, inl, inr, Option, Some, None, List, refl, sym, ap, ◌∙◌}
use Rattle.std.proofs.lemmas.Bool.{cases_eq}
use Rattle.blink_page.specs.{IsPageNumber, PlainPage, lower_half}
use Rattle.blink_machine.specs.declared.machine.Debt.{Debt}
use Rattle.blink_machine.specs.declared.machine.State.{State}
use Rattle.blink_machine.specs.declared.machine.State.TheVariants.{SplitNew, SplitOld, Root, NewPrime}
use Rattle.blink_machine.specs.Machine.{PlainMachine, at_state}
use Rattle.blink_machine.specs.TreeState.{TreeState, WritesOne}
use Rattle.blink_machine.specs.Owned.{latch_of, latch_at, debt_of, debt_at, unlinked_of, unlinked_at, split_of, split_at}
use Rattle.blink_machine.specs.Placed.{IsPlaced}
use Rattle.blink_machine.specs.Invariant.{InvariantWith}
use Rattle.blink_machine.specs.Table.{overfull, debt_of_split, page_out, page_out_at}
use Rattle.blink_machine.specs.TreeWithDebts.{Levels, IsInChain}
use Rattle.blink_machine.proofs.tree.TreeStatements.{TreeLaws}
use Rattle.blink_machine.proofs.tree_state.KnownPagesStay.{grows_same}
use Rattle.blink_machine.proofs.tree_state.OthersStayPlaced.{LeavesAlone, IsPlaced-stays}
use Rattle.blink_machine.proofs.tree_state.WhoseOperation.{Turns}
use Rattle.blink_machine.proofs.tree_state.WhatMayPass.{UnlinkedPasses, keeps_latch}
use Rattle.blink_machine.proofs.tree_state.WhatAStepNeeds.{step_has_invariant, debts_same}
use Rattle.blink_machine.proofs.tree_state.StepsThatWriteNothing.{split_same}
use Rattle.blink_machine.proofs.operation.PlacedWhateverBefore.{placed_at, goes_to}

-- a page whose number is in a chain is there
pub chained_is_there : TreeLaws → (tree_state : TreeState) (levels : Levels) (number : ℕ) → InvariantWith tree_state levels → IsInChain levels number
    → (page : PlainPage) × (tree_state.pages number ≡ Some page)
chained_is_there laws tree_state levels number invariant chained = (
  chained.cell.page,
  ap tree_state.pages (sym chained.same_number)
      ∙ (laws.cells_are_of_level tree_state.fan tree_state.prime tree_state.pages levels chained.level chained.cell invariant.lawful.tree chained.stands).there,
)

-- a write at a number that no page has
pub record WritesFree (old new : TreeState) (number : ℕ) (page : PlainPage) : Type 0 where
  pub same_fan : new.fan ≡ old.fan
  pub same_prime : new.prime ≡ old.prime
  pub same_holder : new.holder ≡ old.holder
  pub is_number : IsPageNumber number
  pub free : old.pages number ≡ None
  pub writes : WritesOne old.pages new.pages number page

module _ (laws : TreeLaws) (old new : TreeState) (levels : Levels) (invariant : InvariantWith old levels) (worker : ℕ) (m : PlainMachine) (placed : IsPlaced old levels m)
    (number : ℕ) (written : PlainPage) (free : WritesFree old new number written) where
  -- each page that was there is there
  still_there : (other : ℕ) (page : PlainPage) → old.pages other ≡ Some page → new.pages other ≡ Some page
  still_there other page there = elim (cases_eq other number) [
    | inl same ↦ let none : old.pages other ≡ None = rw same free.free in absurd cc
    | inr differs ↦ free.writes.others other differs ∙ there
  ]

  -- so what others have is left alone
  free_alone : (latch unlinked : Option ℕ) → LeavesAlone old new levels levels latch unlinked
  free_alone latch unlinked = record {
    latched_there = λ other page its there. still_there other page there;
    latched_stands = λ other level c its stands same. stands;
    unlinked_there = λ other page its there. still_there other page there;
    has_asked = λ other debt prime its asked. record { same_prime = asked.same_prime ∙ sym free.same_prime; is_top = asked.is_top };
  }

  -- the operation's place is as it was
  placed_still : IsPlaced new levels m
  placed_still = IsPlaced-stays old new levels levels (grows_same levels) m free.same_fan (free_alone (latch_of m) (unlinked_of m)) placed

  module _ (s : State) (turn : Turns old.machines new.machines worker m (at_state m s)) where
    -- the new page is the operation's, which had none
    free_unlinked : unlinked_of m ≡ None → unlinked_at s ≡ Some number → UnlinkedPasses old.pages new.pages levels levels (unlinked_of m) (unlinked_at s)
    free_unlinked none its = record {
      placed = λ other page there. elim (cases_eq other number) [
        | inl same ↦ inr (inl (its ∙ ap Some (sym same)))
        | inr differs ↦ inr (inr (page, sym (free.writes.others other differs) ∙ there, λ had. absurd cc))
      ];
      in_no_chain = λ other mine chained.
          let same : other ≡ number = cc in
          let there = chained_is_there laws old levels other invariant chained in
          let was : old.pages other ≡ Some there.0 = there.1 in
          let nothing : old.pages other ≡ None = rw same free.free in
          cc;
      linked = λ other chained. inl chained;
      taken = λ other mine. let same : other ≡ number = cc in inr (rw same free.free);
    }

    -- and the step keeps everything, where the operation's place is right and it owes what it owed
    free_has_invariant : IsPlaced new levels (at_state m s) → debt_at m.job s ≡ debt_of m → unlinked_of m ≡ None → unlinked_at s ≡ Some number
        → split_at s ≡ split_of m → latch_at s ≡ latch_of m → InvariantWith new levels
    free_has_invariant place same_debt none its same_split same_latch = step_has_invariant old new levels worker m (at_state m s) invariant turn levels (record {
      same_fan = free.same_fan;
      numbers_in_range = λ other page there. elim (cases_eq other number) [
        | inl same ↦ rw same free.is_number
        | inr differs ↦ invariant.numbers_in_range other page (sym (free.writes.others other differs) ∙ there)
      ];
      tree = rw free.same_prime (laws.free_write_keeps old.fan old.prime old.pages new.pages levels number written invariant.lawful.tree free.free free.writes);
      grows = grows_same levels;
      debts = debts_same old new levels worker m (at_state m s) invariant turn same_debt;
      unlinked = free_unlinked none its;
      split = split_same old.prime new.prime levels (split_of m) (split_at s) free.same_prime same_split;
      latch = keeps_latch free.same_holder same_latch;
      placed = place;
      alone = λ other n differs here. free_alone (latch_of n) (unlinked_of n);
    })

-- the upper half of a page that is split
pub split_new_has_invariant : TreeLaws → (old new : TreeState) (levels : Levels) → InvariantWith old levels → (worker : ℕ) (m : PlainMachine) → IsPlaced old levels m
    → (number at : ℕ) (page : PlainPage) → m.state ≡ SplitNew at page → WritesFree old new number (page_out m number)
    → Turns old.machines new.machines worker m (at_state m (SplitOld at (lower_half m.fan number page (overfull m page)) (debt_of_split m page number))) → InvariantWith new levels
split_new_has_invariant laws old new levels invariant worker m placed number at page here free turn =
    let p = placed_at new levels m (SplitNew at page) (placed_still laws old new levels invariant worker m placed number (page_out m number) free) here in
    free_has_invariant laws old new levels invariant worker m placed number (page_out m number) free
    (SplitOld at (lower_half m.fan number page (overfull m page)) (debt_of_split m page number)) turn
    (goes_to new levels m (SplitOld at (lower_half m.fan number page (overfull m page)) (debt_of_split m page number))
    (placed_still laws old new levels invariant worker m placed number (page_out m number) free) (
      p.0,
      p.1,
      record {
        page = page;
        read = p.2;
        full = p.3;
        new_number = free.is_number;
        same_debt = refl;
        lower_half_of = refl;
        upper_there = free.writes.written ∙ ap Some (ap (λ (s : State). page_out_at m s number) here);
      },
    ))
    (ap (debt_at m.job) (sym here)) (ap unlinked_at here) refl (ap split_at (sym here)) (ap latch_at (sym here))

-- and a new root
pub root_has_invariant : TreeLaws → (old new : TreeState) (levels : Levels) → InvariantWith old levels → (worker : ℕ) (m : PlainMachine) → IsPlaced old levels m
    → (number at : ℕ) (debt : Debt) (prime : List ℕ) → m.state ≡ Root at debt prime → WritesFree old new number (page_out m number)
    → Turns old.machines new.machines worker m (at_state m (NewPrime at debt number prime)) → InvariantWith new levels
root_has_invariant laws old new levels invariant worker m placed number at debt prime here free turn =
    let p = placed_at new levels m (Root at debt prime) (placed_still laws old new levels invariant worker m placed number (page_out m number) free) here in
    free_has_invariant laws old new levels invariant worker m placed number (page_out m number) free (NewPrime at debt number prime) turn
    (goes_to new levels m (NewPrime at debt number prime) (placed_still laws old new levels invariant worker m placed number (page_out m number) free) (
      p.0,
      p.1,
      p.2,
      record { root_number = free.is_number; root_there = free.writes.written ∙ ap Some (ap (λ (s : State). page_out_at m s number) here) },
    ))
    (ap (debt_at m.job) (sym here)) (ap unlinked_at here) refl (ap split_at (sym here)) (ap latch_at (sym here))
