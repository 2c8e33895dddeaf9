-- A change of one page in its place keeps all that is so between steps.
use Rattle.std.proofs.Common.{◌≡◌, ℕ, ◌+◌, inl, Option, Some, None, List, refl, ap, ◌∙◌, subst, is_some}
use Rattle.blink_operation.specs.{answer_at}
use Rattle.blink_page.specs.{value_at, PlainPage}
use Rattle.blink_rest.specs.{Pages, entries_along}
use Rattle.blink_rest.specs.Chain.{Cell}
use Rattle.blink_machine.specs.declared.machine.Debt.{Debt}
use Rattle.blink_machine.specs.declared.machine.Job.{Job}
use Rattle.blink_machine.specs.declared.machine.Job.TheVariants.{Leaf, Parent}
use Rattle.blink_machine.specs.declared.machine.Next.TheVariants.{Finish}
use Rattle.blink_machine.specs.declared.machine.State.TheVariants.{Change, Leave}
use Rattle.blink_machine.specs.Machine.{entry_of, PlainMachine, target, level_of}
use Rattle.blink_machine.specs.TreeState.{TreeState}
use Rattle.blink_machine.specs.Owned.{debt_of, debt_at, debt_of_job, unlinked_at, split_at}
use Rattle.blink_machine.specs.Placed.{HasAnswer, IsPlaced}
use Rattle.blink_machine.specs.Invariant.{Invariant, InvariantWith}
use Rattle.blink_machine.specs.Table.{IsChange, gains, loses, swaps, decided_with}
use Rattle.blink_machine.specs.TreeWithDebts.{Levels, IsInChain}
use Rattle.blink_machine.proofs.tree.TreeStatements.{TreeLaws, IsReplaced, InnerGains}
use Rattle.blink_machine.proofs.tree_state.WhoseOperation.{Turns}
use Rattle.blink_machine.proofs.tree.DebtsWhereKeysChange.{KeysPass, above_gains, posted_gains}
use Rattle.blink_machine.proofs.operation.PlacedWhateverBefore.{placed_at}
use Rattle.blink_machine.proofs.operation.WriteOfOwnPage.{WritesOwn, replaced_has_invariant}
use Rattle.blink_machine.proofs.operation.PageAtWork.{WorksOn, works_on}
use Rattle.blink_machine.proofs.operation.PointersReplaced.{swaps-key, swaps-pointer}
use Rattle.blink_machine.proofs.operation.EntriesRemoved.{removes-key}
use Rattle.blink_machine.proofs.operation.ChangeOfTree.{leaf_gains, leaf_loses, leaf_exchanges, inner_gains}

module _ (fan : ℕ) (prime : List ℕ) (after : Pages) (levels : Levels) (c : Cell) (page : PlainPage) (before : Option Debt) where
  -- where no separator and no high key changes, debts pass if the operation owed nothing
  keys_unchanged : (level : ℕ) (grown : Levels) → IsReplaced fan prime after levels grown level c page
      → ((other : ℕ) → entries_along (grown (other + 1)) ≡ entries_along (levels (other + 1))) → before ≡ None → KeysPass levels grown before None
  keys_unchanged level grown replaced same none = record {
    kept = replaced.high_keys_kept;
    made = λ other key is_high below. inl (replaced.no_high_keys other key is_high);
    above = λ other key below differs. ap (λ (xs : List (ℕ × ℕ)). is_some (value_at key xs)) (same other);
    posted = λ other key it. let owes : before ≡ Some it.debt = it.owes in absurd cc;
    is_debt = λ debt owes. absurd cc;
    is_new = λ debt owes. absurd cc;
  }

  -- where the separator is posted that it owed, it owes nothing afterwards
  keys_posted : (debt : Debt) (it : InnerGains fan prime after levels debt.level c page debt.separator) → before ≡ Some debt → KeysPass levels it.new before None
  keys_posted debt it owes = record {
    kept = it.replaced.high_keys_kept;
    made = λ other key is_high below. inl (it.replaced.no_high_keys other key is_high);
    above = λ other key below differs. above_gains levels it.new debt before owes it.separators other key differs;
    posted = λ other key is_it. posted_gains levels it.new debt before owes it.separators other key is_it;
    is_debt = λ d mine. absurd cc;
    is_new = λ d mine. absurd cc;
  }

module _ (laws : TreeLaws) (old new : TreeState) (levels : Levels) (invariant : InvariantWith old levels) (worker : ℕ) (m : PlainMachine) (placed : IsPlaced old levels m)
    (number : ℕ) (changed : PlainPage) (kept : Option ℕ) (here : m.state ≡ Change number changed kept) (own : WritesOwn old new worker m number changed) where
  -- the page that it works on is in a chain
  is_chained : (level : ℕ) → WorksOn old levels m number level → IsInChain levels number
  is_chained level work = record { level = level; cell = work.cell; stands = work.stands; same_number = work.same_number }

  -- a change of a leaf, which is the deciding step
  leaf_is_changed : (page : PlainPage) → IsChange m page changed kept → m.job ≡ Leaf → (work : WorksOn old levels m number 0) → work.cell.page ≡ page
      → Turns old.machines new.machines worker m (decided_with m Leaf (Leave number Finish) kept) → Invariant new
  leaf_is_changed page (gains brings absent room none is_changed) leaf work same turn =
      let it = leaf_gains laws old new levels invariant worker m placed number changed page own work same leaf (rw leaf at brings) absent room is_changed in (
        it.new,
        replaced_has_invariant laws old new levels invariant worker m number changed own (is_chained 0 work) placed (Some (answer_at m.op kept)) refl turn 0 work.cell changed it.new it.replaced work.same_number
            (keys_unchanged old.fan old.prime new.pages levels work.cell changed (debt_of m) 0 it.new it.replaced it.same_above (ap (debt_at m.job) here ∙ ap debt_of_job leaf))
            (ap unlinked_at here) (ap split_at here),
      )
  leaf_is_changed page (loses key pointer is_leaf op found some is_changed) leaf work same turn =
      let on : target m ≡ key = rw leaf (removes-key m.op key pointer op) in
      let it = leaf_loses laws old new levels invariant worker m placed number changed page own work same pointer (rw on found) (rw on is_changed) in (
        it.new,
        replaced_has_invariant laws old new levels invariant worker m number changed own (is_chained 0 work) placed (Some (answer_at m.op kept)) refl turn 0 work.cell changed it.new it.replaced work.same_number
            (keys_unchanged old.fan old.prime new.pages levels work.cell changed (debt_of m) 0 it.new it.replaced it.same_above (ap (debt_at m.job) here ∙ ap debt_of_job leaf))
            (ap unlinked_at here) (ap split_at here),
      )
  leaf_is_changed page (swaps key to pointer is_leaf op found some is_changed) leaf work same turn =
      let on : target m ≡ key = rw leaf (swaps-key m.op key to pointer op) in
      let entry : ◌≡◌ {A = ℕ × ℕ} (entry_of m) (key, to) = rw (leaf, swaps-key m.op key to pointer op, swaps-pointer m.op key to pointer op) refl in
      let it = leaf_exchanges laws old new levels invariant worker m placed number changed page own work same leaf pointer (rw on found) (rw entry is_changed) in (
        it.new,
        replaced_has_invariant laws old new levels invariant worker m number changed own (is_chained 0 work) placed (Some (answer_at m.op kept)) refl turn 0 work.cell changed it.new it.page_replaced work.same_number
            (keys_unchanged old.fan old.prime new.pages levels work.cell changed (debt_of m) 0 it.new it.page_replaced it.same_above (ap (debt_at m.job) here ∙ ap debt_of_job leaf))
            (ap unlinked_at here) (ap split_at here),
      )

  -- of an inner page, by a posting
  inner_is_changed : (debt : Debt) (page : PlainPage) → IsChange m page changed kept → m.job ≡ Parent debt → (work : WorksOn old levels m number (debt.level + 1))
      → work.cell.page ≡ page → HasAnswer m.answer → Turns old.machines new.machines worker m (decided_with m (Parent debt) (Leave number Finish) kept) → Invariant new
  inner_is_changed debt page (gains brings absent room none is_changed) job work same answered turn =
      let owes : debt_of m ≡ Some debt = ap (debt_at m.job) here ∙ ap debt_of_job job in
      let it = inner_gains laws old new levels invariant worker m placed number changed page own debt work same job owes absent room is_changed in (
        it.new,
        replaced_has_invariant laws old new levels invariant worker m number changed own (is_chained (debt.level + 1) work) placed m.answer answered turn (debt.level + 1) work.cell changed it.new it.replaced work.same_number
            (keys_posted old.fan old.prime new.pages levels work.cell changed (debt_of m) debt it owes) (ap unlinked_at here) (ap split_at here),
      )
  inner_is_changed debt page (loses key pointer is_leaf op found some is_changed) job work same answered turn = absurd cc
  inner_is_changed debt page (swaps key to pointer is_leaf op found some is_changed) job work same answered turn = absurd cc

  -- of either
  pub change_has_invariant : (job : Job) → m.job ≡ job → Turns old.machines new.machines worker m (decided_with m job (Leave number Finish) kept) → Invariant new
  change_has_invariant Leaf leaf turn =
      let p = placed_at old levels m (Change number changed kept) placed here in
      let it = subst (λ (level : ℕ). (work : WorksOn old levels m number level) × (work.cell.page ≡ p.2)) (ap level_of leaf) (works_on laws old levels invariant m number p.2 p.0 p.3) in
      leaf_is_changed p.2 p.4 leaf it.0 it.1 turn
  change_has_invariant (Parent debt) job turn =
      let p = placed_at old levels m (Change number changed kept) placed here in
      let it = subst (λ (level : ℕ). (work : WorksOn old levels m number level) × (work.cell.page ≡ p.2)) (ap level_of job) (works_on laws old levels invariant m number p.2 p.0 p.3) in
      inner_is_changed debt p.2 p.4 job it.0 it.1 (rw job at p.1) turn
