-- A write of the page whose latch the operation holds.
use Rattle.std.proofs.Common.{◌≡◌, ◌≢◌, ℕ, inl, inr, Option, Some, None, length, sym, ◌∙◌}
use Rattle.std.proofs.lemmas.Bool.{cases_eq}
use Rattle.blink_operation.specs.declared.Answer.{Answer}
use Rattle.blink_page.specs.{IsPageNumber, PlainPage}
use Rattle.blink_rest.specs.Chain.{Cell}
use Rattle.blink_rest.specs.{IsMember}
use Rattle.blink_machine.specs.declared.machine.Next.TheVariants.{Finish}
use Rattle.blink_machine.specs.declared.machine.State.TheVariants.{Leave}
use Rattle.blink_machine.specs.Machine.{PlainMachine}
use Rattle.blink_machine.specs.TreeState.{TreeState, WritesOne}
use Rattle.blink_machine.specs.Owned.{latch_of, debt_of, unlinked_of, split_of}
use Rattle.blink_machine.specs.Placed.{HasAnswer, IsPlaced}
use Rattle.blink_machine.specs.Invariant.{InvariantWith}
use Rattle.blink_machine.specs.TreeWithDebts.{Levels, IsInChain}
use Rattle.blink_machine.proofs.tree.TreeStatements.{TreeLaws, Grows, IsReplaced}
use Rattle.blink_machine.proofs.tree_state.KnownPagesStay.{IsInChain-grows}
use Rattle.blink_machine.proofs.tree_state.OthersStayPlaced.{LeavesAlone}
use Rattle.blink_machine.proofs.tree_state.WhoseOperation.{Turns}
use Rattle.blink_machine.proofs.tree_state.WhatMayPass.{UnlinkedPasses, SplitPasses, keeps_latch}
use Rattle.blink_machine.proofs.tree_state.WhatAStepNeeds.{step_has_invariant}
use Rattle.blink_machine.proofs.tree.DebtsWhereKeysChange.{KeysPass, debts_pass}
use Rattle.blink_machine.proofs.tree_state.NewPageKeepsInvariant.{chained_is_there}

-- the operation writes the page that it has latched
pub record WritesOwn (old new : TreeState) (worker : ℕ) (m : PlainMachine) (number : ℕ) (page : PlainPage) : Type 0 where
  pub same_fan : new.fan ≡ old.fan
  pub same_prime : new.prime ≡ old.prime
  pub same_holder : new.holder ≡ old.holder
  pub here : old.machines worker ≡ Some m
  pub latch : latch_of m ≡ Some number
  pub writes : WritesOne old.pages new.pages number page

module _ (laws : TreeLaws) (old new : TreeState) (levels : Levels) (invariant : InvariantWith old levels) (worker : ℕ) (m : PlainMachine) (number : ℕ) (written : PlainPage)
    (own : WritesOwn old new worker m number written) (chained : IsInChain levels number) where
  -- no other has its latch
  latched_differs : (other page : ℕ) (n : PlainMachine) → other ≢ worker → old.machines other ≡ Some n → latch_of n ≡ Some page → page ≢ number
  latched_differs other page n differs here latch same =
      let others : old.holder page ≡ Some other = invariant.latches.by_state other page n here latch in
      let mine : old.holder page ≡ Some worker = rw same (invariant.latches.by_state worker number m own.here own.latch) in
      differs cc

  -- and it is no unlinked page
  unlinked_differs : (other page : ℕ) (n : PlainMachine) → old.machines other ≡ Some n → unlinked_of n ≡ Some page → page ≢ number
  unlinked_differs other page n here unlinked same = invariant.lawful.new_pages.placed.in_no_chain other page n here unlinked (rw same chained)

  -- so what others have is left alone
  pub own_alone : (grown : Levels) → ((level : ℕ) (d : Cell) → IsMember d (levels level) → d.number ≢ number → IsMember d (grown level))
      → (other : ℕ) (n : PlainMachine) → other ≢ worker → old.machines other ≡ Some n → LeavesAlone old new levels grown (latch_of n) (unlinked_of n)
  own_alone grown stay other n differs here = record {
    latched_there = λ page p its there. own.writes.others page (latched_differs other page n differs here its) ∙ there;
    latched_stands = λ page level d its stands same. stay level d stands (λ is_it. latched_differs other page n differs here its (sym same ∙ is_it));
    unlinked_there = λ page p its there. own.writes.others page (unlinked_differs other page n here its) ∙ there;
    has_asked = λ page debt prime its asked. record { same_prime = asked.same_prime ∙ sym own.same_prime; is_top = asked.is_top };
  }

  -- the pages have numbers that pages have
  pub own_numbers : (other : ℕ) (page : PlainPage) → new.pages other ≡ Some page → IsPageNumber other
  own_numbers other page there = elim (cases_eq other number) [
    | inl same ↦ let was = chained_is_there laws old levels number invariant chained in rw same (invariant.numbers_in_range number was.0 was.1)
    | inr differs ↦ invariant.numbers_in_range other page (sym (own.writes.others other differs) ∙ there)
  ]

  -- a page that is replaced, and then left
  module _ (placed : IsPlaced old levels m) (answer : Option Answer) (answered : HasAnswer answer)
      (turn : Turns old.machines new.machines worker m (record m { state = Leave number Finish; answer = answer })) where
    -- unlinked pages are as they were
    replaced_unlinked : (grown : Levels) → Grows levels grown → ((other : ℕ) → IsInChain grown other → IsInChain levels other) → unlinked_of m ≡ None
        → UnlinkedPasses old.pages new.pages levels grown (unlinked_of m) None
    replaced_unlinked grown grows linked none = record {
      placed = λ other page there. elim (cases_eq other number) [
        | inl same ↦ inl (rw same (IsInChain-grows levels grown grows number chained))
        | inr differs ↦ inr (inr (page, sym (own.writes.others other differs) ∙ there, λ had. absurd cc))
      ];
      in_no_chain = λ other mine. absurd cc;
      linked = λ other in_chain. inl (linked other in_chain);
      taken = λ other mine. absurd cc;
    }

    -- the top level is as long as it was
    replaced_split : (grown : Levels) → ((level : ℕ) → length (grown level) ≡ length (levels level)) → split_of m ≡ None
        → SplitPasses old.prime new.prime levels grown (split_of m) None
    replaced_split grown lengths none level leftmost top there long = inr (record {
      top = rw own.same_prime at top;
      leftmost_there = rw own.same_prime at there;
      long = rw lengths at long;
      kept = λ had. absurd cc;
    })

    -- and the step keeps everything, where the debts pass
    pub replaced_has_invariant : (level : ℕ) (c : Cell) (page : PlainPage) (grown : Levels) → IsReplaced old.fan old.prime new.pages levels grown level c page → c.number ≡ number
        → KeysPass levels grown (debt_of m) None → unlinked_of m ≡ None → split_of m ≡ None → InvariantWith new grown
    replaced_has_invariant level c page grown replaced same keys no_unlinked no_split =
        step_has_invariant old new levels worker m (record m { state = Leave number Finish; answer = answer }) invariant turn grown (record {
          same_fan = own.same_fan;
          numbers_in_range = own_numbers;
          tree = rw own.same_prime replaced.tree;
          grows = replaced.grows;
          debts = debts_pass levels grown (debt_of m) None keys;
          unlinked = replaced_unlinked grown replaced.grows replaced.none_linked no_unlinked;
          split = replaced_split grown replaced.same_lengths no_split;
          latch = keeps_latch own.same_holder (sym own.latch);
          placed = record { same_fan = placed.same_fan ∙ sym own.same_fan; words = placed.words; at_its_state = answered };
          alone = own_alone grown (λ other d stands differs. replaced.others_stay other d stands (λ is_it. differs (is_it ∙ same)));
        })
