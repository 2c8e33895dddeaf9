-- The write of the lower half of a leaf, or of an inner page, keeps all that is so between steps.
use Rattle.std.proofs.Common.{◌≡◌, ℕ, ◌+◌, is_some, Some, None, List, refl, sym, ap, ◌∙◌, subst, arith}
use Rattle.blink_operation.specs.{answer_at}
use Rattle.blink_page.specs.{value_at, PlainPage, entries_with, lower_half, upper_half, separator_of}
use Rattle.blink_rest.specs.Chain.{Cell}
use Rattle.blink_rest.specs.{entries_along}
use Rattle.blink_machine.specs.declared.machine.Debt.{Debt}
use Rattle.blink_machine.specs.declared.machine.Job.{Job}
use Rattle.blink_machine.specs.declared.machine.Job.TheVariants.{Leaf, Parent}
use Rattle.blink_machine.specs.declared.machine.State.TheVariants.{SplitOld, AskPrime}
use Rattle.blink_machine.specs.Machine.{PlainMachine, target, level_of, entry_of}
use Rattle.blink_machine.specs.TreeState.{TreeState}
use Rattle.blink_machine.specs.Owned.{debt_of, debt_at, debt_of_job, unlinked_at, split_at}
use Rattle.blink_machine.specs.Placed.{HasHalved, HasAnswer, AnsweredInJob, IsPlaced}
use Rattle.blink_machine.specs.Invariant.{Invariant, InvariantWith}
use Rattle.blink_machine.specs.Table.{decided_with}
use Rattle.blink_machine.specs.TreeWithDebts.{Levels}
use Rattle.blink_machine.proofs.tree.TreeStatements.{TreeLaws, IsSplitIn, GainsSeparator}
use Rattle.blink_machine.proofs.tree_state.WhoseOperation.{Turns}
use Rattle.blink_machine.proofs.tree_state.WhatMayPass.{Owes}
use Rattle.blink_machine.proofs.tree.DebtsWhereKeysChange.{above_gains, posted_gains}
use Rattle.blink_machine.proofs.operation.PlacedWhateverBefore.{placed_at}
use Rattle.blink_machine.proofs.operation.WriteOfOwnPage.{WritesOwn}
use Rattle.blink_machine.proofs.tree_state.LowerHalfKeepsInvariant.{MakesDebt, split_keys, split_has_invariant}
use Rattle.blink_machine.proofs.operation.SplitOfTree.{split_level, leaf_splits, posting_owes, inner_splits}
use Rattle.blink_machine.proofs.operation.PageAtWork.{WorksOn, works_on}

module _ (laws : TreeLaws) (old new : TreeState) (levels : Levels) (invariant : InvariantWith old levels) (worker : ℕ) (m : PlainMachine) (placed : IsPlaced old levels m)
    (number : ℕ) (lower : PlainPage) (debt : Debt) (here : m.state ≡ SplitOld number lower debt) (own : WritesOwn old new worker m number lower) where
  module _ (halved : HasHalved old m number lower debt) (work : WorksOn old levels m number debt.level) (same : work.cell.page ≡ halved.page) where
    -- the upper half
    abbrev upper : PlainPage
    upper = upper_half old.fan work.cell.page (entries_with work.cell.page (entry_of m))

    -- what the split makes of the tree makes the operation's debt
    makes_from : (level : ℕ) (grown : Levels) → debt.level ≡ level
        → IsSplitIn old.fan old.prime new.pages levels grown level work.cell (lower_half old.fan debt.page work.cell.page (entries_with work.cell.page (entry_of m)))
        upper debt.page (separator_of old.fan (entries_with work.cell.page (entry_of m)))
        → MakesDebt old new levels grown m number lower upper debt
    makes_from level grown at split =
        let is_lower : lower ≡ lower_half old.fan debt.page work.cell.page (entries_with work.cell.page (entry_of m)) = rw (same, ← placed.same_fan) halved.lower_half_of in
        let is_separator : debt.separator ≡ separator_of old.fan (entries_with work.cell.page (entry_of m)) = rw (same, ← placed.same_fan) (ap (λ (d : Debt). d.separator) halved.same_debt) in
        record {
          work = work;
          split = subst (λ (l : ℕ). IsSplitIn old.fan old.prime new.pages levels grown l work.cell lower upper debt.page debt.separator) (sym at)
              (subst (λ (s : ℕ). IsSplitIn old.fan old.prime new.pages levels grown level work.cell lower upper debt.page s) (sym is_separator)
              (subst (λ (p : PlainPage). IsSplitIn old.fan old.prime new.pages levels grown level work.cell p upper debt.page
              (separator_of old.fan (entries_with work.cell.page (entry_of m)))) (sym is_lower) split));
          lower_high = ap (λ (p : PlainPage). p.high) is_lower ∙ sym is_separator;
          lower_right = ap (λ (p : PlainPage). p.right) is_lower;
          upper_floor = ap Some (sym is_separator);
          new_number = halved.new_number;
          brings = halved.full.brings;
          same_level = ap (λ (d : Debt). d.level) halved.same_debt;
        }

    -- of a leaf, which is the deciding step
    leaf_half : m.job ≡ Leaf → Turns old.machines new.machines worker m (decided_with m Leaf (AskPrime number debt) None) → Invariant new
    leaf_half leaf turn =
        let at : debt.level ≡ 0 = split_level laws old new levels invariant worker m placed number lower debt here own halved work same ∙ ap level_of leaf in
        let none : debt_of m ≡ None = ap (debt_at m.job) here ∙ ap debt_of_job leaf in
        let it = leaf_splits laws old new levels invariant worker m placed number lower debt here own halved work same leaf in
        let makes = makes_from 0 it.new at it.split in (
          it.new,
          split_has_invariant laws old new levels it.new invariant worker m placed number lower upper debt own makes (Some (answer_at m.op None)) refl turn
              (split_keys laws old new levels it.new invariant worker m placed number lower upper debt own makes
              (λ level key differs. ap (λ (cells : List Cell). is_some (value_at key (entries_along cells))) (it.split.others_same (level + 1) (λ zero_level. absurd (omega arith))))
              (λ level key it. let owes : debt_of m ≡ Some it.debt = it.owes in absurd cc)
              (λ it. let owes : debt_of m ≡ Some it.debt = it.owes in absurd cc))
              (ap unlinked_at here) (ap split_at here),
        )

    -- a posting makes another debt than the one that it pays
    makes_another : (paid : Debt) → m.job ≡ Parent paid → ¬ Owes (debt_of m) debt.level debt.separator
    makes_another paid job other =
        let at : debt.level ≡ paid.level + 1 = split_level laws old new levels invariant worker m placed number lower debt here own halved work same ∙ ap level_of job in
        let is_it : Some other.debt ≡ Some paid = sym other.owes ∙ posting_owes laws old new levels invariant worker m placed number lower debt here own halved work same paid job in
        let same_debt : other.debt ≡ paid = cc in
        let level_too : paid.level ≡ debt.level = ap (λ (d : Debt). d.level) (sym same_debt) ∙ other.same_level in
        absurd (omega arith)

    -- of an inner page
    inner_half : (paid : Debt) → m.job ≡ Parent paid → HasAnswer m.answer → Turns old.machines new.machines worker m (decided_with m (Parent paid) (AskPrime number debt) None) → Invariant new
    inner_half paid job answered turn =
        let at : debt.level ≡ paid.level + 1 = split_level laws old new levels invariant worker m placed number lower debt here own halved work same ∙ ap level_of job in
        let owes = posting_owes laws old new levels invariant worker m placed number lower debt here own halved work same paid job in
        let it = inner_splits laws old new levels invariant worker m placed number lower debt here own halved work same paid job in
        let on : target m ≡ paid.separator = rw job refl in
        let gained = subst (λ (separator : ℕ). GainsSeparator levels it.new paid.level separator) on it.separators in
        let makes = makes_from (paid.level + 1) it.new at it.split in (
          it.new,
          split_has_invariant laws old new levels it.new invariant worker m placed number lower upper debt own makes m.answer answered turn
              (split_keys laws old new levels it.new invariant worker m placed number lower upper debt own makes
              (above_gains levels it.new paid (debt_of m) owes gained) (posted_gains levels it.new paid (debt_of m) owes gained) (makes_another paid job))
              (ap unlinked_at here) (ap split_at here),
        )

    -- of either
    half_of : (job : Job) → m.job ≡ job → AnsweredInJob m.job m.answer → Turns old.machines new.machines worker m (decided_with m job (AskPrime number debt) None) → Invariant new
    half_of Leaf leaf answered turn = leaf_half leaf turn
    half_of (Parent paid) job answered turn = inner_half paid job (rw job at answered) turn

  -- so a write of the lower half keeps everything
  pub half_has_invariant : (job : Job) → m.job ≡ job → Turns old.machines new.machines worker m (decided_with m job (AskPrime number debt) None) → Invariant new
  half_has_invariant job is_job turn =
      let p = placed_at old levels m (SplitOld number lower debt) placed here in
      let at : level_of m.job ≡ debt.level = sym (ap (λ (d : Debt). d.level) p.2.same_debt) in
      let it = subst (λ (level : ℕ). (work : WorksOn old levels m number level) × (work.cell.page ≡ p.2.page)) at (works_on laws old levels invariant m number p.2.page p.0 p.2.read) in
      half_of p.2 it.0 it.1 job is_job p.1 turn
