-- How debts pass from one tree state to the next.
use Rattle.std.proofs.Common.{◌≡◌, ◌≢◌, ℕ, inl, inr, Some, sym, ap, ◌∙◌, subst}
use Rattle.std.proofs.lemmas.Bool.{cases_eq}
use Rattle.blink_machine.specs.declared.machine.Debt.{Debt}
use Rattle.blink_machine.specs.declared.machine.State.TheVariants.{Start, Ended}
use Rattle.blink_machine.specs.Machine.{PlainMachine}
use Rattle.blink_machine.specs.TreeState.{TreeState}
use Rattle.blink_machine.specs.Owned.{debt_of, debt_at}
use Rattle.blink_machine.specs.TreeWithDebts.{IsOwed, DebtsAreOwed, Levels, IsDebt}
use Rattle.blink_rest.specs.{BeginsAt}
use Rattle.blink_machine.proofs.tree.TreeStatements.{Grows}
use Rattle.blink_machine.proofs.tree_state.KnownPagesStay.{BeginsAt-grows}
use Rattle.blink_machine.proofs.tree_state.WhatMayPass.{Owes, DebtsPass}
use Rattle.blink_machine.proofs.tree_state.WhoseOperation.{Turns, was_other, is_other, had_under_way, has_under_way, had_by, has_by}

module _ (old new : TreeState) (worker : ℕ) (m after : PlainMachine) (turn : Turns old.machines new.machines worker m after) (levels grown : Levels) (grows : Grows levels grown)
    (debts : DebtsAreOwed old levels) (pass : DebtsPass levels grown (debt_of m) (debt_of after)) where
  -- an operation that owes is under way
  had_debt : (debt : Debt) → debt_of m ≡ Some debt → old.machines worker ≡ Some m
  had_debt debt = had_under_way old.machines new.machines worker m after turn debt_of debt (λ (starts : m.state ≡ Start). ap (debt_at m.job) starts)

  -- what it owes now is owed
  owed_by_it : (level separator : ℕ) → Owes (debt_of after) level separator → IsOwed new level separator
  owed_by_it level separator it = record {
    worker = worker;
    m = after;
    debt = it.debt;
    owes = (has_under_way old.machines new.machines worker m after turn debt_of it.debt (λ (ends : after.state ≡ Ended). ap (debt_at after.job) ends) it.owes, it.owes);
    same_level = it.same_level;
    same_separator = it.same_separator;
  }

  -- what was owed and is a debt is owed
  owed_now : (level separator : ℕ) → IsDebt grown level separator → IsOwed old level separator → IsOwed new level separator
  owed_now level separator debt owed = elim (cases_eq owed.worker worker) [
    | inl same ↦ owed_by_it level separator (pass.paid level separator debt (record {
      debt = owed.debt;
      owes = had_by old.machines new.machines worker m after turn debt_of owed.debt owed.worker owed.m same owed.owes.0 owed.owes.1;
      same_level = owed.same_level;
      same_separator = owed.same_separator;
    }))
    | inr differs ↦ record {
      worker = owed.worker;
      m = owed.m;
      debt = owed.debt;
      owes = (is_other old.machines new.machines worker m after turn owed.worker owed.m differs owed.owes.0, owed.owes.1);
      same_level = owed.same_level;
      same_separator = owed.same_separator;
    }
  ]

  -- what another owes stays a debt, with its page
  debt_stays : (other : ℕ) (n : PlainMachine) (debt : Debt) → other ≢ worker → old.machines other ≡ Some n → debt_of n ≡ Some debt
      → IsDebt grown debt.level debt.separator × BeginsAt (grown debt.level) debt.page (Some debt.separator)
  debt_stays other n debt differs here owes =
      let was = debts.is_debt other n debt (here, owes) in (
        pass.stays debt.level debt.separator was.0
            (λ (it : Owes (debt_of m) debt.level debt.separator). differs (debts.by_one other worker n m debt it.debt (here, owes) (had_debt it.debt it.owes, it.owes) (sym it.same_level) (sym it.same_separator))),
        BeginsAt-grows levels grown grows debt.level debt.page (Some debt.separator) was.1,
      )

  -- what the operation owes now no other owes
  owed_by_no_other : (other : ℕ) (n : PlainMachine) (debt owing : Debt) → other ≢ worker → old.machines other ≡ Some n → debt_of after ≡ Some debt
      → debt_of n ≡ Some owing → debt.level ≡ owing.level → debt.separator ≡ owing.separator → ⊥
  owed_by_no_other other n debt owing differs here owes other_owes same_level same_separator = elim (pass.taken debt owes) [
    | inl it ↦ differs (debts.by_one other worker n m owing it.debt (here, other_owes) (had_debt it.debt it.owes, it.owes) (sym (it.same_level ∙ same_level)) (sym (it.same_separator ∙ same_separator)))
    | inr none ↦ none (subst (λ (level : ℕ). IsDebt levels level debt.separator) (sym same_level)
        (subst (λ (separator : ℕ). IsDebt levels owing.level separator) (sym same_separator) (debts.is_debt other n owing (here, other_owes)).0))
  ]

  -- so each debt is owed by one
  owed_by_one : (one other : ℕ) (n k : PlainMachine) (debt owing : Debt) → new.machines one ≡ Some n → new.machines other ≡ Some k → debt_of n ≡ Some debt
      → debt_of k ≡ Some owing → debt.level ≡ owing.level → debt.separator ≡ owing.separator → one ≡ other
  owed_by_one one other n k debt owing here there owes other_owes same_level same_separator = elim (cases_eq one worker) [
    | inl is_its ↦ elim (cases_eq other worker) [
      | inl same ↦ is_its ∙ sym same
      | inr differs ↦ absurd (owed_by_no_other other k debt owing differs (was_other old.machines new.machines worker m after turn other k differs there)
          (has_by old.machines new.machines worker m after turn debt_of debt one n is_its here owes) other_owes same_level same_separator)
    ]
    | inr differs ↦ elim (cases_eq other worker) [
      | inl same ↦ absurd (owed_by_no_other one n owing debt differs (was_other old.machines new.machines worker m after turn one n differs here)
          (has_by old.machines new.machines worker m after turn debt_of owing other k same there other_owes) owes (sym same_level) (sym same_separator))
      | inr also ↦ debts.by_one one other n k debt owing (was_other old.machines new.machines worker m after turn one n differs here, owes)
          (was_other old.machines new.machines worker m after turn other k also there, other_owes) same_level same_separator
    ]
  ]

  -- and debts are as they have to be
  pub DebtsAreOwed-passes : DebtsAreOwed new grown
  DebtsAreOwed-passes = record {
    owed = λ level separator debt. elim (pass.made level separator debt) [
      | inl it ↦ owed_by_it level separator it
      | inr was ↦ owed_now level separator debt (debts.owed level separator was)
    ];
    is_debt = λ other n debt owes. elim (cases_eq other worker) [
      | inl same ↦ pass.is_debt debt (has_by old.machines new.machines worker m after turn debt_of debt other n same owes.0 owes.1)
      | inr differs ↦ debt_stays other n debt differs (was_other old.machines new.machines worker m after turn other n differs owes.0) owes.1
    ];
    by_one = λ one other n k debt owing owes also. owed_by_one one other n k debt owing owes.0 also.0 owes.1 also.1;
  }
