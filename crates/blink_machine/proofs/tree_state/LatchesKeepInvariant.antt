-- Latches taken and let go keep all that is so between steps.
use Rattle.std.proofs.Common.{◌≡◌, ℕ, ◌+◌, Option, Some, None, List, [], ◌∷◌, refl, sym, ap, ◌∙◌}
use Rattle.blink_machine.specs.declared.machine.Debt.{Debt}
use Rattle.blink_machine.specs.declared.machine.Next.{Next}
use Rattle.blink_machine.specs.declared.machine.Next.TheVariants.{Finish, MoveRight, Post}
use Rattle.blink_machine.specs.declared.machine.State.TheVariants.{Want, Held, Leave}
use Rattle.blink_machine.specs.Machine.{PlainMachine, at_state}
use Rattle.blink_machine.specs.TreeState.{TreeState, LatchPasses}
use Rattle.blink_machine.specs.Owned.{latch_of, latch_at, debt_of, debt_at, debt_of_next, unlinked_of, unlinked_at, split_of, split_at}
use Rattle.blink_machine.specs.Placed.{AreRemembered, PlacedForNext, HasAnswer, IsPlaced}
use Rattle.blink_machine.specs.Invariant.{InvariantWith}
use Rattle.blink_machine.specs.Table.{sets_out, leaves_for}
use Rattle.blink_machine.specs.TreeWithDebts.{Levels}
use Rattle.blink_machine.proofs.tree_state.WhoseOperation.{Turns}
use Rattle.blink_machine.proofs.tree_state.WhatMayPass.{gets_latch, lets_go}
use Rattle.blink_machine.proofs.tree_state.StepsThatWriteNothing.{WritesNothing, split_same, quiet_has_invariant}
use Rattle.blink_machine.proofs.operation.PlacedWhateverBefore.{placed_at, goes_to}

-- an operation that has let its latch go is where it may be, and owes a debt or nothing, and has nothing else for itself
record GoesWith (old : TreeState) (levels : Levels) (n : PlainMachine) (owed : Option Debt) : Type 0 where
  placed : IsPlaced old levels n
  same_debt : debt_of n ≡ owed
  no_unlinked : unlinked_of n ≡ None
  no_latch : latch_of n ≡ None
  no_split : split_of n ≡ None

module _ (old : TreeState) (levels : Levels) (m : PlainMachine) (placed : IsPlaced old levels m) where
  -- on its way to post a debt
  sets_out_with : (debt : Debt) (pages : List ℕ) → AreRemembered levels (debt.level + 1) debt.separator pages → HasAnswer m.answer
      → GoesWith old levels (sets_out m debt pages) (Some debt)
  sets_out_with debt [] remembered answer = record {
    placed = record { same_fan = placed.same_fan; words = placed.words; at_its_state = (answer, refl, debt, refl) };
    same_debt = refl;
    no_unlinked = refl;
    no_latch = refl;
    no_split = refl;
  }
  sets_out_with debt (page ∷ above) (begins, rest) answer = record {
    placed = record {
      same_fan = placed.same_fan;
      words = placed.words;
      at_its_state = (record { may_change = tt; stands_at = record { begins = begins; remembers = rest } }, answer);
    };
    same_debt = refl;
    no_unlinked = refl;
    no_latch = refl;
    no_split = refl;
  }

  -- where it goes next
  leaves_with : (next : Next) → PlacedForNext levels m next → GoesWith old levels (leaves_for m next) (debt_of_next m.job next)
  leaves_with Finish answer = record {
    placed = record { same_fan = placed.same_fan; words = placed.words; at_its_state = answer };
    same_debt = refl;
    no_unlinked = refl;
    no_latch = refl;
    no_split = refl;
  }
  leaves_with (MoveRight page) there = record { placed = goes_to old levels m (Want page) placed there; same_debt = refl; no_unlinked = refl; no_latch = refl; no_split = refl }
  leaves_with (Post debt) there = sets_out_with debt m.remembered there.0 there.1

  module _ (new : TreeState) (worker number : ℕ) (quiet : WritesNothing old new) (invariant : InvariantWith old levels) where
    -- a latch is taken
    pub latch_has_invariant : m.state ≡ Want number → old.holder number ≡ None → LatchPasses old.holder new.holder number (Some worker)
        → Turns old.machines new.machines worker m (at_state m (Held number)) → InvariantWith new levels
    latch_has_invariant here free passes turn =
        quiet_has_invariant old new levels quiet worker m (at_state m (Held number)) invariant turn
        (goes_to old levels m (Held number) placed (placed_at old levels m (Want number) placed here))
        (ap (debt_at m.job) (sym here)) (ap unlinked_at (sym here))
        (split_same old.prime new.prime levels (split_of m) None quiet.same_prime (ap split_at (sym here)))
        (gets_latch number (ap latch_at here) refl free passes)

    -- or let go
    pub unlatch_has_invariant : (next : Next) → m.state ≡ Leave number next → LatchPasses old.holder new.holder number None
        → Turns old.machines new.machines worker m (leaves_for m next) → InvariantWith new levels
    unlatch_has_invariant next here passes turn =
        let it = leaves_with next (placed_at old levels m (Leave number next) placed here) in
        quiet_has_invariant old new levels quiet worker m (leaves_for m next) invariant turn it.placed
        (it.same_debt ∙ ap (debt_at m.job) (sym here)) (it.no_unlinked ∙ ap unlinked_at (sym here))
        (split_same old.prime new.prime levels (split_of m) (split_of (leaves_for m next)) quiet.same_prime (it.no_split ∙ ap split_at (sym here)))
        (lets_go number (ap latch_at here) it.no_latch passes)
