-- What an operation's change of the page that it works on makes of the tree.
use Rattle.std.proofs.Common.{◌≡◌, ℕ, ◌+◌, ◌<◌, ◌≤◌, Some, None, length, refl, ap, ◌∙◌, subst, arith}
use Rattle.blink_page.specs.{value_at, removed, replaced, IsPageNumber, PlainPage, IsKeyOf, entries_with, with_entries}
use Rattle.blink_page.specs.declared.limits.TheConstants.{GREATEST_KEY}
use Rattle.blink_page.proofs.Offered.{entries_with-leaf, entries_with-inner}
use Rattle.blink_machine.specs.declared.machine.Debt.{Debt}
use Rattle.blink_machine.specs.declared.machine.Job.TheVariants.{Leaf, Parent}
use Rattle.blink_machine.specs.Machine.{PlainMachine, target, entry_of}
use Rattle.blink_machine.specs.TreeState.{TreeState, WritesOne}
use Rattle.blink_machine.specs.Owned.{debt_of}
use Rattle.blink_machine.specs.Placed.{IsPlaced}
use Rattle.blink_machine.specs.Invariant.{InvariantWith}
use Rattle.blink_machine.specs.Table.{Brings}
use Rattle.blink_machine.specs.TreeWithDebts.{Levels}
use Rattle.blink_machine.proofs.tree.TreeStatements.{TreeLaws, LeafGains, LeafLoses, LeafExchanges, InnerGains}
use Rattle.blink_machine.proofs.tree.PageGainsOrLoses.{gain_replaces, loss_replaces, exchange_replaces, pointer_fits}
use Rattle.blink_machine.proofs.operation.WriteOfOwnPage.{WritesOwn}
use Rattle.blink_machine.proofs.operation.PageAtWork.{WorksOn, job_is_number}

module _ (laws : TreeLaws) (old new : TreeState) (levels : Levels) (invariant : InvariantWith old levels) (worker : ℕ) (m : PlainMachine) (placed : IsPlaced old levels m)
    (number : ℕ) (changed page : PlainPage) (own : WritesOwn old new worker m number changed) where
  -- the page that is written is the cell's
  writes_cell : (level : ℕ) (work : WorksOn old levels m number level) → WritesOne old.pages new.pages work.cell.number changed
  writes_cell level work = rw work.same_number own.writes

  -- a leaf gains an entry
  pub leaf_gains : (work : WorksOn old levels m number 0) → work.cell.page ≡ page → m.job ≡ Leaf → Brings m.op Leaf → value_at (target m) page.entries ≡ None
      → length page.entries < m.fan → changed ≡ with_entries page (entries_with page (entry_of m))
      → LeafGains old.fan old.prime new.pages levels work.cell changed (entry_of m)
  leaf_gains work same leaf brings absent room is_changed =
      let is : changed ≡ with_entries work.cell.page (entries_with work.cell.page (entry_of m)) = rw same is_changed in
      let fits : (entry_of m).1 ≤ GREATEST_KEY = rw leaf (pointer_fits m.op placed.words) in
      laws.leaf_gain_keeps old.fan old.prime old.pages new.pages levels work.cell changed (entry_of m) invariant.lawful.tree work.stands (writes_cell 0 work)
      (rw is (gain_replaces old.fan (target m) (entry_of m).1 work.cell.page work.of_level.lawful work.belongs (rw same absent)
      (rw same (subst (λ (fan : ℕ). length page.entries < fan) placed.same_fan room)) fits
      (λ above. absurd (let zero_level : work.cell.page.level ≡ 0 = work.of_level.has_level in omega arith))))
      work.belongs (rw same absent)
      (ap (λ (p : PlainPage). p.entries) is ∙ entries_with-leaf work.cell.page (entry_of m) work.of_level.has_level)

  -- or loses one
  pub leaf_loses : (work : WorksOn old levels m number 0) → work.cell.page ≡ page → (pointer : ℕ) → value_at (target m) page.entries ≡ Some pointer
      → changed ≡ with_entries page (removed (target m) page.entries) → LeafLoses old.fan old.prime new.pages levels work.cell changed (target m)
  leaf_loses work same pointer found is_changed =
      let is : changed ≡ with_entries work.cell.page (removed (target m) work.cell.page.entries) = rw same is_changed in
      laws.leaf_loss_keeps old.fan old.prime old.pages new.pages levels work.cell changed (target m) pointer invariant.lawful.tree work.stands (writes_cell 0 work)
      (rw is (loss_replaces old.fan (target m) work.cell.page work.of_level.lawful work.of_level.has_level))
      work.belongs (rw same found) (ap (λ (p : PlainPage). p.entries) is)

  -- or gets another value
  pub leaf_exchanges : (work : WorksOn old levels m number 0) → work.cell.page ≡ page → m.job ≡ Leaf → (pointer : ℕ) → value_at (target m) page.entries ≡ Some pointer
      → changed ≡ with_entries page (replaced (entry_of m) page.entries) → LeafExchanges old.fan old.prime new.pages levels work.cell changed (entry_of m)
  leaf_exchanges work same leaf pointer found is_changed =
      let is : changed ≡ with_entries work.cell.page (replaced (entry_of m) work.cell.page.entries) = rw same is_changed in
      let fits : (entry_of m).1 ≤ GREATEST_KEY = rw leaf (pointer_fits m.op placed.words) in
      laws.leaf_exchange_keeps old.fan old.prime old.pages new.pages levels work.cell changed (entry_of m) pointer invariant.lawful.tree work.stands (writes_cell 0 work)
      (rw is (exchange_replaces old.fan (target m) (entry_of m).1 work.cell.page work.of_level.lawful work.of_level.has_level fits))
      work.belongs (rw same found) (ap (λ (p : PlainPage). p.entries) is)

  -- an inner page gains a separator
  pub inner_gains : (debt : Debt) (work : WorksOn old levels m number (debt.level + 1)) → work.cell.page ≡ page → m.job ≡ Parent debt → debt_of m ≡ Some debt
      → value_at (target m) page.entries ≡ None → length page.entries < m.fan → changed ≡ with_entries page (entries_with page (entry_of m))
      → InnerGains old.fan old.prime new.pages levels debt.level work.cell changed debt.separator
  inner_gains debt work same job owes absent room is_changed =
      let same_entry : entry_of m ≡ (debt.separator, debt.page) = rw job refl in
      let on : target m ≡ debt.separator = rw job refl in
      let is : changed ≡ with_entries work.cell.page (entries_with work.cell.page (debt.separator, debt.page)) = rw same (rw same_entry at is_changed) in
      let owed = invariant.lawful.debts.is_debt worker m debt (own.here, owes) in
      let is_number : IsPageNumber debt.page = job_is_number laws old levels invariant m worker debt own.here owes in
      let belongs : IsKeyOf work.cell.page debt.separator = rw on at work.belongs in
      let none : value_at debt.separator work.cell.page.entries ≡ None = rw same (rw on at absent) in
      laws.posting_keeps old.fan old.prime old.pages new.pages levels debt.level work.cell changed (debt.separator, debt.page) invariant.lawful.tree work.stands (writes_cell (debt.level + 1) work)
      (rw is (gain_replaces old.fan debt.separator debt.page work.cell.page work.of_level.lawful belongs none
      (rw same (subst (λ (fan : ℕ). length page.entries < fan) placed.same_fan room)) (omega (arith, is_number.1)) (λ above. is_number)))
      belongs none
      (ap (λ (p : PlainPage). p.entries) is
      ∙ entries_with-inner work.cell.page (debt.separator, debt.page) (let at : work.cell.page.level ≡ debt.level + 1 = work.of_level.has_level in omega arith))
      (record { is_high_key = owed.0.is_high_key; begins = owed.1 })
