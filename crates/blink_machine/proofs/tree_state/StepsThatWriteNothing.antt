-- Steps that write nothing: they keep what is so where the operation is where it may be.
use Rattle.std.proofs.Common.{◌≡◌, ℕ, inl, inr, Option, Some, List, length, slice_get, sym, ap, ◌∙◌}
use Rattle.blink_machine.specs.declared.machine.State.TheVariants.{Start}
use Rattle.blink_machine.specs.Machine.{PlainMachine}
use Rattle.blink_machine.specs.TreeState.{TreeState}
use Rattle.blink_machine.specs.Owned.{latch_of, debt_of, unlinked_of, unlinked_at, split_of}
use Rattle.blink_machine.specs.Placed.{IsPlaced}
use Rattle.blink_machine.specs.Invariant.{InvariantWith}
use Rattle.blink_machine.specs.TreeWithDebts.{Levels}
use Rattle.blink_machine.proofs.tree_state.KnownPagesStay.{grows_same}
use Rattle.blink_machine.proofs.tree_state.OthersStayPlaced.{LeavesAlone, IsPlaced-stays}
use Rattle.blink_machine.proofs.tree_state.WhoseOperation.{Turns, had_under_way}
use Rattle.blink_machine.proofs.tree_state.WhatMayPass.{UnlinkedPasses, SplitPasses, LatchesPass}
use Rattle.blink_machine.proofs.tree_state.WhatAStepNeeds.{step_has_invariant, debts_same}

-- nothing is written
pub record WritesNothing (old new : TreeState) : Type 0 where
  pub same_fan : new.fan ≡ old.fan
  pub same_prime : new.prime ≡ old.prime
  pub same_pages : new.pages ≡ old.pages

-- the top level of the same tree is as long as it was
pub split_same : (prime after : List ℕ) (levels : Levels) (before now : Option ℕ) → after ≡ prime → now ≡ before → SplitPasses prime after levels levels before now
split_same prime after levels before now same kept level leftmost top there long =
    inr (record { top = ap length (sym same) ∙ top; leftmost_there = ap (λ (ns : List ℕ). slice_get ns level) (sym same) ∙ there; long = long; kept = λ its. kept ∙ its })

module _ (old new : TreeState) (levels : Levels) (quiet : WritesNothing old new) where
  -- what others have is left alone
  quiet_alone : (latch unlinked : Option ℕ) → LeavesAlone old new levels levels latch unlinked
  quiet_alone latch unlinked = record {
    latched_there = λ number page its there. rw quiet.same_pages there;
    latched_stands = λ number level c its stands same. stands;
    unlinked_there = λ number page its there. rw quiet.same_pages there;
    has_asked = λ number debt prime its asked. record { same_prime = asked.same_prime ∙ sym quiet.same_prime; is_top = asked.is_top };
  }

  module _ (worker : ℕ) (m after : PlainMachine) (invariant : InvariantWith old levels) (turn : Turns old.machines new.machines worker m after) where
    -- unlinked pages are as they were
    quiet_unlinked : unlinked_of after ≡ unlinked_of m → UnlinkedPasses old.pages new.pages levels levels (unlinked_of m) (unlinked_of after)
    quiet_unlinked same = record {
      placed = λ number page there. inr (inr (page, (rw quiet.same_pages at there), λ its. same ∙ its));
      in_no_chain = λ number its. let was : unlinked_of m ≡ Some number = sym same ∙ its in
          invariant.lawful.new_pages.placed.in_no_chain worker number m (had_under_way old.machines new.machines worker m after turn unlinked_of number (λ (starts : m.state ≡ Start). ap unlinked_at starts) was) was;
      linked = λ number chained. inl chained;
      taken = λ number its. inl (sym same ∙ its);
    }

    -- so the step keeps everything, where the operation's place is right and it owes what it owed
    pub quiet_has_invariant : IsPlaced old levels after → debt_of after ≡ debt_of m → unlinked_of after ≡ unlinked_of m
        → SplitPasses old.prime new.prime levels levels (split_of m) (split_of after) → LatchesPass old.holder new.holder worker (latch_of m) (latch_of after)
        → InvariantWith new levels
    quiet_has_invariant placed same_debt same_unlinked split latch = step_has_invariant old new levels worker m after invariant turn levels (record {
      same_fan = quiet.same_fan;
      numbers_in_range = λ number page there. invariant.numbers_in_range number page (rw quiet.same_pages at there);
      tree = rw (quiet.same_prime, quiet.same_pages) invariant.lawful.tree;
      grows = grows_same levels;
      debts = debts_same old new levels worker m after invariant turn same_debt;
      unlinked = quiet_unlinked same_unlinked;
      split = split;
      latch = latch;
      placed = IsPlaced-stays old new levels levels (grows_same levels) after quiet.same_fan (quiet_alone (latch_of after) (unlinked_of after)) placed;
      alone = λ other n differs here. quiet_alone (latch_of n) (unlinked_of n);
    })
