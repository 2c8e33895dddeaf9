-- While an operation is under way, the next step of some worker is not a wait.
use Rattle.std.proofs.Common.{◌≡◌, ℕ, ◌+◌, ◌≤◌, Option, Some, None, length, slice_get, inl, inr, refl, sym, ap, ◌∙◌, arith}
use Rattle.std.proofs.lemmas.Option.{slice_get_cases}
use Rattle.blink_machine.specs.declared.machine.Debt.{Debt}
use Rattle.blink_machine.specs.declared.machine.Job.TheVariants.{Parent}
use Rattle.blink_machine.specs.declared.machine.Need.TheVariants.{Latch}
use Rattle.blink_machine.specs.declared.machine.State.{State}
use Rattle.blink_machine.specs.declared.machine.State.TheVariants.{Want, Posting}
use Rattle.blink_machine.specs.Machine.{PlainMachine, NeedsLatch, need_at}
use Rattle.blink_machine.specs.Owned.{latch_at, split_at, debt_of, debt_at}
use Rattle.blink_machine.specs.Placed.{PlacedAt}
use Rattle.blink_machine.specs.Invariant.{InvariantWith}
use Rattle.blink_machine.specs.Table.{WaitsForLevel}
use Rattle.blink_machine.specs.TreeWithDebts.{Levels}
use Rattle.blink_machine.specs.TreeState.{TreeState}
use Rattle.blink_machine.proofs.tree.TreeStatements.{TreeLaws}
use Rattle.blink_machine.proofs.tree_state.InvariantStatements.{IsWaiting, SomeoneMoves, NeverStuck}
use Rattle.blink_machine.proofs.operation.OperationIsPlaced.{at_state}
use Rattle.blink_machine.proofs.tree.PrimeAsList.{leftmost_of}

module _ (tree_state : TreeState) (m : PlainMachine) where
  -- an operation waits only for a latch that another holds, and for a level that is not there
  waits_for_nothing : ((page holder : ℕ) → NeedsLatch m page → tree_state.holder page ≡ Some holder → ⊥) → (WaitsForLevel m tree_state.prime → ⊥) → IsWaiting tree_state m → ⊥
  waits_for_nothing no_latch no_level (IsWaiting.for_latch page holder needs held) = no_latch page holder needs held
  waits_for_nothing no_latch no_level (IsWaiting.for_level waits) = no_level waits

  -- so it waits only at Want and at Posting
  waits_at_no_other : (state : State) → m.state ≡ state → ((page : ℕ) → need_at state ≡ Latch page → ⊥) → (state ≡ Posting → ⊥) → IsWaiting tree_state m → ⊥
  waits_at_no_other state is no_latch no_posting =
      waits_for_nothing (λ page holder needs held. no_latch page (sym (ap need_at is) ∙ needs)) (λ waits. no_posting (sym is ∙ waits.posting))

  -- who holds a latch waits for none, and for no level
  holder_moves : (state : State) (page : ℕ) → m.state ≡ state → latch_at state ≡ Some page → IsWaiting tree_state m → ⊥
  holder_moves (Want number) page is holds = absurd (cc)
  holder_moves Posting page is holds = absurd (cc)
  holder_moves other page is holds = waits_at_no_other other is (λ page needs. cc) (λ same. cc)

  -- nor does who has split a page
  splitter_moves : (state : State) (page : ℕ) → m.state ≡ state → split_at state ≡ Some page → IsWaiting tree_state m → ⊥
  splitter_moves (Want number) page is split = absurd (cc)
  splitter_moves Posting page is split = absurd (cc)
  splitter_moves other page is split = waits_at_no_other other is (λ page needs. cc) (λ same. cc)

module _ (laws : TreeLaws) (tree_state : TreeState) (levels : Levels) (invariant : InvariantWith tree_state levels) (worker : ℕ) (m : PlainMachine) (under : tree_state.machines worker ≡ Some m) where
  -- who wants a latch gets it, or another has it and moves
  wanting_moves : (page : ℕ) → m.state ≡ Want page → (holder : Option ℕ) → tree_state.holder page ≡ holder → SomeoneMoves tree_state
  wanting_moves page is None free = record {
    worker = worker;
    m = m;
    under_way = under;
    moves = waits_for_nothing tree_state m
        (λ other holder needs held. let same : page ≡ other = cc (ap need_at is, needs) in cc (free, held, ap tree_state.holder same))
        (λ waits. cc (is, waits.posting));
  }
  wanting_moves page is (Some holder) held =
      let it = invariant.latches.by_holder holder page held in
      record { worker = holder; m = it.0; under_way = it.1; moves = holder_moves tree_state it.0 it.0.state page refl it.2 }

  -- a level that is not there is the one above the top, and its debt is owed because the top has been split
  top_grows : (debt : Debt) → debt_of m ≡ Some debt → length tree_state.prime ≤ debt.level + 1 → SomeoneMoves tree_state
  top_grows debt owes missing =
      let is_debt = (invariant.lawful.debts.is_debt worker m debt (under, owes)).0 in
      let named = laws.levels_are_named tree_state.fan tree_state.prime tree_state.pages levels debt.level is_debt.is_high_key.cell invariant.lawful.tree is_debt.is_high_key.stands in
      let leftmost = leftmost_of tree_state.prime debt.level named in
      let two = laws.top_debt_has_two tree_state.fan tree_state.prime tree_state.pages levels debt.level debt.separator invariant.lawful.tree is_debt in
      let it = invariant.lawful.top.growing debt.level leftmost.0 (omega arith) leftmost.1 two in
      record { worker = it.worker; m = it.m; under_way = it.under_way; moves = splitter_moves tree_state it.m it.m.state leftmost.0 refl it.split }

  -- who posts to a level finds it, or another is about to make it
  posting_moves : m.state ≡ Posting → (debt : Debt) → m.job ≡ Parent debt → SomeoneMoves tree_state
  posting_moves is debt job = elim (slice_get_cases tree_state.prime (debt.level + 1)).1 [
    | inl there ↦ record {
      worker = worker;
      m = m;
      under_way = under;
      moves = waits_for_nothing tree_state m
          (λ other holder needs held. cc (ap need_at is, needs))
          (λ waits. let same : debt ≡ waits.debt = cc (job, waits.job) in
          cc (there.2, waits.not_there, ap (λ (d : Debt). slice_get tree_state.prime (d.level + 1)) same));
    }
    | inr past ↦
        let owes : debt_of m ≡ Some debt = ap (debt_at m.job) is ∙ ap (λ j. debt_at j Posting) job in
        top_grows debt owes past.0
  ]

  -- at every state it moves, or another does
  under_way_moves : (state : State) → m.state ≡ state → PlacedAt tree_state levels m state → SomeoneMoves tree_state
  under_way_moves (Want page) is placed = wanting_moves page is (tree_state.holder page) refl
  under_way_moves Posting is placed = posting_moves is placed.2 placed.3
  under_way_moves other is placed = record {
    worker = worker;
    m = m;
    under_way = under;
    moves = waits_at_no_other tree_state m other is (λ page needs. cc) (λ same. cc);
  }

-- so no tree state is stuck
pub never_stuck : TreeLaws → NeverStuck
never_stuck laws tree_state worker m invariant under =
    under_way_moves laws tree_state invariant.0 invariant.1 worker m under m.state refl (at_state tree_state invariant.0 invariant.1 worker m m.state under refl)
