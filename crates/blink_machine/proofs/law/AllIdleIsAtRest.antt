-- Where every worker is idle no latch is held, and the tree is at rest.
use Rattle.std.proofs.Common.{◌≡◌, ℕ, ◌+◌, ◌<◌, Some, None, Option, refl, length, inl, inr, arith}
use Rattle.std.proofs.lemmas.Bool.{cases_lt}
use Rattle.blink_page.specs.{PlainPage}
use Rattle.blink_machine.specs.TreeState.{TreeState}
use Rattle.blink_machine.specs.Invariant.{InvariantWith}
use Rattle.blink_machine.specs.TreeWithDebts.{Levels, IsInChain, IsDebt}
use Rattle.blink_machine.proofs.tree.TreeStatements.{TreeLaws, IsQuiet}
use Rattle.blink_machine.proofs.tree.PrimeAsList.{leftmost_of}
use Rattle.blink_machine.specs.StepLaw.{AllIdleIsAtRest}

module _ (tree_state : TreeState) (levels : Levels) (invariant : InvariantWith tree_state levels) (idle : (worker : ℕ) → tree_state.machines worker ≡ None) where
  -- so no debt is left
  idle_owe_nothing : (level key : ℕ) → IsDebt levels level key → ⊥
  idle_owe_nothing level key debt = let it = invariant.lawful.debts.owed level key debt in cc (idle it.worker, it.owes.0)

  -- every page is in a chain
  idle_have_no_pages : (number : ℕ) (page : PlainPage) → tree_state.pages number ≡ Some page → IsInChain levels number
  idle_have_no_pages number page there = elim (invariant.lawful.new_pages.placed.placed number page there) [ inl in_chain ↦ in_chain | inr unlinked ↦ absurd (cc (idle unlinked.worker, unlinked.under_way)) ]

  -- and the top level has one page
  idle_split_nothing : (level : ℕ) → length tree_state.prime ≡ level + 1 → length (levels level) < 2
  idle_split_nothing level top = elim (cases_lt (length (levels level)) 2) [
    | inl fewer ↦ fewer
    | inr more ↦
        let leftmost = leftmost_of tree_state.prime level (omega arith) in
        let it = invariant.lawful.top.growing level leftmost.0 top leftmost.1 more in
        absurd (cc (idle it.worker, it.under_way))
  ]

  -- which is all that rest takes
  idle_is_quiet : IsQuiet tree_state.prime tree_state.pages levels
  idle_is_quiet = record { no_debt = idle_owe_nothing; all_in_chains = idle_have_no_pages; one_root = idle_split_nothing }

  -- and no latch is held
  idle_hold_nothing : (page : ℕ) (holder : Option ℕ) → tree_state.holder page ≡ holder → tree_state.holder page ≡ None
  idle_hold_nothing page None none = none
  idle_hold_nothing page (Some worker) held = absurd (let it = invariant.latches.by_holder worker page held in cc (idle worker, it.1))

-- the tree is at rest where every worker is idle
pub all_idle_is_at_rest : TreeLaws → AllIdleIsAtRest
all_idle_is_at_rest laws tree_state invariant idle = record {
  no_latch = λ page. idle_hold_nothing tree_state invariant.0 invariant.1 idle page (tree_state.holder page) refl;
  at_rest = laws.quiet_is_rest tree_state.fan tree_state.prime tree_state.pages invariant.0 invariant.1.lawful.tree (idle_is_quiet tree_state invariant.0 invariant.1 idle);
}
