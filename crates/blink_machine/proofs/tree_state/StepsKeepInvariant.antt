-- A tree at rest with idle workers has the invariant, and every step keeps what has the invariant.
use Rattle.std.proofs.Common.{◌≡◌, ℕ, inl, inr, Some, None, refl, sym, ap, ◌∙◌, subst, arith}
use Rattle.blink_page.specs.{PlainPage}
use Rattle.blink_machine.specs.declared.machine.Debt.{Debt}
use Rattle.blink_machine.specs.declared.machine.State.{State}
use Rattle.blink_machine.specs.declared.machine.State.TheVariants.{Start}
use Rattle.blink_machine.specs.declared.step.Step.{Step}
use Rattle.blink_machine.specs.Machine.{PlainMachine}
use Rattle.blink_machine.specs.TreeState.{TreeState, IsItsOperation, WritesOne, Leaves, Steps, reads_prime, waits_for_level, reads_page, latches, waits_for_latch, writes_new, writes_page, writes_prime, unlatches}
use Rattle.blink_machine.specs.Owned.{latch_of, latch_at, debt_of, debt_at}
use Rattle.blink_machine.specs.Placed.{IsPlaced}
use Rattle.blink_machine.specs.Invariant.{Invariant, InvariantWith}
use Rattle.blink_machine.specs.Table.{page_out, page_out_at, done_at, adds_root}
use Rattle.blink_machine.specs.TreeWithDebts.{Levels, IsDebt}
use Rattle.blink_rest.specs.{BeginsAt}
use Rattle.blink_machine.proofs.tree.TreeStatements.{TreeLaws}
use Rattle.blink_machine.specs.StepLaw.{OpeningHasInvariant, StepKeepsInvariant}
use Rattle.blink_machine.proofs.tree_state.WhoseOperation.{Turns, turns, had_under_way}
use Rattle.blink_machine.proofs.tree_state.WhatMayPass.{keeps_latch}
use Rattle.blink_machine.proofs.operation.StatesByNeed.{needs_latch, needs_unlatch, needs_new, needs_write, IsAtSplitNew, IsAtRoot, IsAtChange, IsAtSplitOld}
use Rattle.blink_machine.proofs.tree_state.StepsThatWriteNothing.{quiet_has_invariant}
use Rattle.blink_machine.proofs.operation.PlacedWhateverBefore.{its_place}
use Rattle.blink_machine.proofs.tree_state.ReadsKeepInvariant.{ReadsOn, reads_prime_on, reads_page_on}
use Rattle.blink_machine.proofs.tree_state.LatchesKeepInvariant.{latch_has_invariant, unlatch_has_invariant}
use Rattle.blink_machine.proofs.tree_state.NewPageKeepsInvariant.{WritesFree, split_new_has_invariant, root_has_invariant}
use Rattle.blink_machine.proofs.operation.WriteOfOwnPage.{WritesOwn}
use Rattle.blink_machine.proofs.tree_state.ChangeKeepsInvariant.{change_has_invariant}
use Rattle.blink_machine.proofs.tree_state.HalfOfLeafOrInner.{half_has_invariant}
use Rattle.blink_machine.proofs.tree_state.NewRootKeepsInvariant.{grow_has_invariant}

-- before the first step
pub opening_has_invariant : TreeLaws → OpeningHasInvariant
opening_has_invariant laws tree_state opening =
    let it = laws.rest_is_quiet tree_state.fan tree_state.prime tree_state.pages opening.some_level opening.at_rest in (
      it.0,
      record {
        fan_in_range = opening.fan_in_range;
        numbers_in_range = opening.numbers_in_range;
        lawful = record {
          tree = it.1;
          debts = record {
            owed = λ level separator debt. absurd (it.2.no_debt level separator debt);
            is_debt = λ worker m debt owes. absurd (cc (opening.all_idle worker, owes.0));
            by_one = λ worker other m n debt owing owes also level separator. absurd (cc (opening.all_idle worker, owes.0));
          };
          new_pages = record {
            placed = record {
              placed = λ number page there. inl (it.2.all_in_chains number page there);
              in_no_chain = λ worker number m here unlinked. absurd (let idle : tree_state.machines worker ≡ None = opening.all_idle worker in cc);
              of_one = λ worker other number m n here there unlinked also. absurd (let idle : tree_state.machines worker ≡ None = opening.all_idle worker in cc);
            };
            written = λ worker number m here unlinked. absurd (let idle : tree_state.machines worker ≡ None = opening.all_idle worker in cc);
          };
          top = record {
            growing = λ level leftmost top there long. absurd (let short = it.2.one_root level top in omega arith);
            latched = λ worker page m here split. absurd (let idle : tree_state.machines worker ≡ None = opening.all_idle worker in cc);
          };
        };
        latches = record {
          by_state = λ worker page m here latch. absurd (let idle : tree_state.machines worker ≡ None = opening.all_idle worker in cc);
          by_holder = λ worker page held. absurd (let free : tree_state.holder page ≡ None = opening.no_latch page in cc);
        };
        placed = λ worker m here. absurd (let idle : tree_state.machines worker ≡ None = opening.all_idle worker in cc);
      },
    )

module _ (laws : TreeLaws) (old new : TreeState) (levels : Levels) (invariant : InvariantWith old levels) (worker : ℕ) (m after : PlainMachine) (placed : IsPlaced old levels m)
    (turn : Turns old.machines new.machines worker m after) where
  -- what it owes is a debt
  its_debt : (debt : Debt) → debt_of m ≡ Some debt → IsDebt levels debt.level debt.separator × BeginsAt (levels debt.level) debt.page (Some debt.separator)
  its_debt debt owes = invariant.lawful.debts.is_debt worker m debt
      (had_under_way old.machines new.machines worker m after turn debt_of debt (λ (starts : m.state ≡ Start). ap (debt_at m.job) starts) owes, owes)

  -- one that holds a latch is under way
  holds_latch : (number : ℕ) → latch_of m ≡ Some number → old.machines worker ≡ Some m
  holds_latch number = had_under_way old.machines new.machines worker m after turn latch_of number (λ (starts : m.state ≡ Start). ap latch_at starts)

  -- the same turn, where it is known what the operation is afterwards
  turn_to : (then : PlainMachine) → after ≡ then → Turns old.machines new.machines worker m then
  turn_to then is = subst (Turns old.machines new.machines worker m) is turn

  -- reads
  read_has_invariant : Leaves old new → ReadsOn old levels m after → Invariant new
  read_has_invariant leaves reads = (
    levels,
    quiet_has_invariant old new levels (record { same_fan = leaves.same_fan; same_prime = leaves.same_prime; same_pages = leaves.same_pages }) worker m after invariant turn
        reads.placed reads.same_debt reads.same_unlinked (rw leaves.same_prime reads.split) (keeps_latch leaves.same_holder reads.same_latch),
  )

  -- new pages
  new_page_has_invariant : (number : ℕ) → after ≡ done_at m m.state number → WritesFree old new number (page_out m number) → IsAtSplitNew m.state → Invariant new
  new_page_has_invariant number is free at = (
    levels,
    split_new_has_invariant laws old new levels invariant worker m placed number at.number at.page at.here free
        (turn_to _ (is ∙ ap (λ (s : State). done_at m s number) at.here)),
  )

  -- and new roots
  new_root_has_invariant : (number : ℕ) → after ≡ done_at m m.state number → WritesFree old new number (page_out m number) → IsAtRoot m.state → Invariant new
  new_root_has_invariant number is free at = (
    levels,
    root_has_invariant laws old new levels invariant worker m placed number at.number at.debt at.prime at.here free
        (turn_to _ (is ∙ ap (λ (s : State). done_at m s number) at.here)),
  )

  -- pages written in their places
  module _ (number : ℕ) (is : after ≡ done_at m m.state 0) (same_fan : new.fan ≡ old.fan) (same_prime : new.prime ≡ old.prime) (same_holder : new.holder ≡ old.holder)
      (writes : WritesOne old.pages new.pages number (page_out m 0)) where
    -- the page is the one that it has latched
    own_page : (page : PlainPage) → latch_of m ≡ Some number → page_out m 0 ≡ page → WritesOwn old new worker m number page
    own_page page latch out = record {
      same_fan = same_fan;
      same_prime = same_prime;
      same_holder = same_holder;
      here = holds_latch number latch;
      latch = latch;
      writes = subst (WritesOne old.pages new.pages number) out writes;
    }

    -- with a change
    changed_has_invariant : IsAtChange m.state number → Invariant new
    changed_has_invariant at = change_has_invariant laws old new levels invariant worker m placed number at.changed at.kept at.here
        (own_page at.changed (ap latch_at at.here) (ap (λ (s : State). page_out_at m s 0) at.here)) m.job refl
        (turn_to _ (is ∙ ap (λ (s : State). done_at m s 0) at.here))

    -- or the lower half
    halved_has_invariant : IsAtSplitOld m.state number → Invariant new
    halved_has_invariant at = half_has_invariant laws old new levels invariant worker m placed number at.lower at.debt at.here
        (own_page at.lower (ap latch_at at.here) (ap (λ (s : State). page_out_at m s 0) at.here)) m.job refl
        (turn_to _ (is ∙ ap (λ (s : State). done_at m s 0) at.here))

-- a step
step_of : TreeLaws → (old new : TreeState) (levels : Levels) → InvariantWith old levels → (worker : ℕ) (m after : PlainMachine) (step : Step) → IsItsOperation old worker m → IsPlaced old levels m
    → Steps old worker m step after new → Invariant new
step_of laws old new levels invariant worker m after step its placed (reads_prime needs sees is_step leaves workers) =
    let turn = turns old new worker m after its workers in
    read_has_invariant laws old new levels invariant worker m after placed turn leaves
    (reads_prime_on laws old levels invariant m placed (its_debt laws old new levels invariant worker m after placed turn) after sees)
step_of laws old new levels invariant worker m after step its placed (waits_for_level needs waits is_step same stays) = subst Invariant (sym same) (levels, invariant)
step_of laws old new levels invariant worker m after step its placed (reads_page number page needs there sees is_step leaves workers) =
    let turn = turns old new worker m after its workers in
    read_has_invariant laws old new levels invariant worker m after placed turn leaves
    (reads_page_on laws old levels invariant m placed (its_debt laws old new levels invariant worker m after placed turn) number page there after sees)
step_of laws old new levels invariant worker m after step its placed (latches number needs free is is_step same_fan same_prime same_pages passes workers) =
    let here = needs_latch m.state number needs in (
      levels,
      latch_has_invariant old levels m placed new worker number (record { same_fan = same_fan; same_prime = same_prime; same_pages = same_pages }) invariant here free passes
          (turn_to laws old new levels invariant worker m after placed (turns old new worker m after its workers) _ (is ∙ ap (λ (s : State). done_at m s 0) here)),
    )
step_of laws old new levels invariant worker m after step its placed (waits_for_latch number holder needs held is_step same stays) = subst Invariant (sym same) (levels, invariant)
step_of laws old new levels invariant worker m after step its placed (writes_new number needs is_number none is is_step same_fan same_prime writes same_holder workers) =
    let turn = turns old new worker m after its workers in
    let free : WritesFree old new number (page_out m number) = record { same_fan = same_fan; same_prime = same_prime; same_holder = same_holder; is_number = is_number; free = none; writes = writes } in
    elim (needs_new m.state needs) [
      | inl at ↦ new_page_has_invariant laws old new levels invariant worker m after placed turn number is free at
      | inr at ↦ new_root_has_invariant laws old new levels invariant worker m after placed turn number is free at
    ]
step_of laws old new levels invariant worker m after step its placed (writes_page number needs is is_step same_fan same_prime writes same_holder workers) =
    let turn = turns old new worker m after its workers in
    elim (needs_write m.state number needs) [
      | inl at ↦ changed_has_invariant laws old new levels invariant worker m after placed turn number is same_fan same_prime same_holder writes at
      | inr at ↦ halved_has_invariant laws old new levels invariant worker m after placed turn number is same_fan same_prime same_holder writes at
    ]
step_of laws old new levels invariant worker m after step its placed (writes_prime needs (adds_root page debt root read here out) is is_step same_fan same_pages same_holder workers) =
    let turn = turns old new worker m after its workers in
    grow_has_invariant laws old new levels invariant worker m placed page debt root read here
    (record { same_fan = same_fan; new_prime = out; same_pages = same_pages; same_holder = same_holder; here = holds_latch laws old new levels invariant worker m after placed turn page (ap latch_at here) })
    (turn_to laws old new levels invariant worker m after placed turn _ (is ∙ ap (λ (s : State). done_at m s 0) here))
step_of laws old new levels invariant worker m after step its placed (unlatches number needs is is_step same_fan same_prime same_pages passes workers) =
    let at = needs_unlatch m.state number needs in (
      levels,
      unlatch_has_invariant old levels m placed new worker number (record { same_fan = same_fan; same_prime = same_prime; same_pages = same_pages }) invariant at.0 at.1 passes
          (turn_to laws old new levels invariant worker m after placed (turns old new worker m after its workers) _ (is ∙ ap (λ (s : State). done_at m s 0) at.1)),
    )

-- and every later step
pub step_keeps_invariant : TreeLaws → StepKeepsInvariant
step_keeps_invariant laws old new worker m after step invariant words its steps =
    step_of laws old new invariant.0 invariant.1 worker m after step its (its_place old invariant.0 worker m invariant.1 words its) steps
