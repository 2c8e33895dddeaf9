-- What an operation's split of the page that it works on makes of the tree.
use Rattle.std.proofs.Common.{◌≡◌, ℕ, ◌+◌, ◌≤◌, Some, ap, ◌∙◌, subst, arith}
use Rattle.blink_page.specs.{PlainPage}
use Rattle.blink_page.specs.declared.limits.TheConstants.{GREATEST_KEY}
use Rattle.blink_rest.specs.{IsMember}
use Rattle.blink_machine.specs.declared.machine.Debt.{Debt}
use Rattle.blink_machine.specs.declared.machine.Job.TheVariants.{Leaf, Parent}
use Rattle.blink_machine.specs.declared.machine.State.TheVariants.{SplitOld}
use Rattle.blink_machine.specs.Machine.{PlainMachine, level_of, entry_of}
use Rattle.blink_machine.specs.TreeState.{TreeState}
use Rattle.blink_machine.specs.Owned.{debt_of, debt_at, debt_of_job, unlinked_at}
use Rattle.blink_machine.specs.Placed.{HasHalved, IsPlaced}
use Rattle.blink_machine.specs.Invariant.{InvariantWith}
use Rattle.blink_machine.specs.TreeWithDebts.{Levels}
use Rattle.blink_machine.proofs.tree.TreeStatements.{TreeLaws, CanBeSplit, LeafSplits, InnerSplits, LeadsBelow}
use Rattle.blink_machine.proofs.tree.PageGainsOrLoses.{pointer_fits}
use Rattle.blink_machine.proofs.operation.WriteOfOwnPage.{WritesOwn}
use Rattle.blink_machine.proofs.operation.PageAtWork.{WorksOn, job_is_number}

module _ (laws : TreeLaws) (old new : TreeState) (levels : Levels) (invariant : InvariantWith old levels) (worker : ℕ) (m : PlainMachine) (placed : IsPlaced old levels m)
    (number : ℕ) (lower : PlainPage) (debt : Debt) (here : m.state ≡ SplitOld number lower debt) (own : WritesOwn old new worker m number lower)
    (halved : HasHalved old m number lower debt) (work : WorksOn old levels m number debt.level) (same : work.cell.page ≡ halved.page) where
  -- the split is one as a tree takes it
  is_to_split : (level : ℕ) → debt.level ≡ level → (entry_of m).1 ≤ GREATEST_KEY → CanBeSplit old.fan old.pages new.pages levels level work.cell (entry_of m) debt.page
  is_to_split level at fits = record {
    fan_in_range = invariant.fan_in_range;
    stands = subst (λ (l : ℕ). IsMember work.cell (levels l)) at work.stands;
    full = rw (same, ← placed.same_fan) halved.full.full;
    belongs = work.belongs;
    absent = rw same halved.full.absent;
    value_in_range = fits;
    new_number = halved.new_number;
    not_in_chain = invariant.lawful.new_pages.placed.in_no_chain worker debt.page m own.here (ap unlinked_at here);
    upper_there = rw (same, ← placed.same_fan) halved.upper_there;
    writes = rw (work.same_number, same, ← placed.same_fan, ← halved.lower_half_of) own.writes;
  }

  -- the level of the split is the job's
  pub split_level : debt.level ≡ level_of m.job
  split_level = ap (λ (d : Debt). d.level) halved.same_debt

  -- a leaf is split
  pub leaf_splits : m.job ≡ Leaf → LeafSplits old.fan old.prime new.pages levels work.cell (entry_of m) debt.page
  leaf_splits leaf = laws.leaf_split_keeps old.fan old.prime old.pages new.pages levels work.cell (entry_of m) debt.page invariant.lawful.tree
      (is_to_split 0 (split_level ∙ ap level_of leaf) (rw leaf (pointer_fits m.op placed.words)))

  -- a posting owes its job
  pub posting_owes : (paid : Debt) → m.job ≡ Parent paid → debt_of m ≡ Some paid
  posting_owes paid job = ap (debt_at m.job) here ∙ ap debt_of_job job

  -- an inner page is split
  pub inner_splits : (paid : Debt) → m.job ≡ Parent paid → InnerSplits old.fan old.prime new.pages levels paid.level work.cell (entry_of m) debt.page
  inner_splits paid job =
      let owed = invariant.lawful.debts.is_debt worker m paid (own.here, posting_owes paid job) in
      let is_number = job_is_number laws old levels invariant m worker paid own.here (posting_owes paid job) in
      let leads : LeadsBelow levels paid.level (entry_of m) = rw job (record { is_high_key = owed.0.is_high_key; begins = owed.1 }) in
      laws.inner_split_keeps old.fan old.prime old.pages new.pages levels paid.level work.cell (entry_of m) debt.page invariant.lawful.tree
      (is_to_split (paid.level + 1) (split_level ∙ ap level_of job) (rw job (omega (arith, is_number.1)))) leads (rw job is_number)
