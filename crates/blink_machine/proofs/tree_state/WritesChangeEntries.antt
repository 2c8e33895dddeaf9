-- What the writes of an operation make of a tree's entries.
use Rattle.std.proofs.Common.{◌≡◌, ℕ, ◌+◌, Option, Some, None, sym, ap, subst, ◌∙◌, arith}
use Rattle.blink_page.specs.{value_at, added, removed, replaced, posted, PlainPage, IsKeyOf, with_entries, entries_with, lower_half, upper_half}
use Rattle.blink_page.proofs.Offered.{entries_with-leaf, entries_with-inner}
use Rattle.blink_rest.specs.{Pages, IsMember, AreEntries, entries_along, BeginsAt, IsHighKey}
use Rattle.blink_rest.specs.Chain.{cell}
use Rattle.blink_machine.specs.declared.machine.Debt.{Debt}
use Rattle.blink_machine.specs.declared.machine.Job.TheVariants.{Leaf, Parent}
use Rattle.blink_machine.specs.Machine.{PlainMachine, target, key_of_job, value_of_job, level_of, entry_of}
use Rattle.blink_machine.specs.TreeState.{TreeState, WritesOne}
use Rattle.blink_machine.specs.Owned.{debt_of, debt_of_job, unlinked_of}
use Rattle.blink_machine.specs.Placed.{IsAtWork, HasRead, HasHalved}
use Rattle.blink_machine.specs.Invariant.{InvariantWith}
use Rattle.blink_machine.specs.Table.{IsChange, overfull}
use Rattle.blink_machine.specs.TreeWithDebts.{Levels}
use Rattle.blink_machine.proofs.tree_state.EntriesOfATree.{tree_has_entries}
use Rattle.blink_machine.proofs.tree.TreeStatements.{TreeLaws, LeadsBelow, CanBeSplit}
use Rattle.blink_machine.proofs.operation.PageUnderLatch.{value_fits, read_stands, read_of_level, change_replaces}

module _ (laws : TreeLaws) (tree_state : TreeState) (levels : Levels) (invariant : InvariantWith tree_state levels) (worker : ℕ) (m : PlainMachine) (under : tree_state.machines worker ≡ Some m)
    (owes : debt_of m ≡ debt_of_job m.job) (number : ℕ) (page : PlainPage) (at_work : IsAtWork levels m number) (read : HasRead tree_state m number page) where
  -- the page that it has read stands in its level, whatever that is called
  pub read_stands_at : (level : ℕ) → level_of m.job ≡ level → IsMember (cell number page) (levels level)
  read_stands_at level same = subst (λ l. IsMember (cell number page) (levels l)) same (read_stands laws tree_state levels invariant worker m under owes number page at_work read)

  -- and has that level
  page_level : (level : ℕ) → level_of m.job ≡ level → page.level ≡ level
  page_level level same = (read_of_level laws tree_state levels invariant worker m under owes number page at_work read).has_level ∙ same

  -- what a posting brings leads to a page of the level below
  pub posting_leads : (debt : Debt) → m.job ≡ Parent debt → LeadsBelow levels debt.level (entry_of m)
  posting_leads debt job =
      let owed = invariant.lawful.debts.is_debt worker m debt (under, owes ∙ ap debt_of_job job) in
      let key : debt.separator ≡ target m = sym (ap (key_of_job m.op) job) in
      let value : debt.page ≡ value_of_job m.op m.job = sym (ap (value_of_job m.op) job) in
      record {
        is_high_key = subst (IsHighKey (levels debt.level)) key owed.0.is_high_key;
        begins = subst (λ k. BeginsAt (levels debt.level) (value_of_job m.op m.job) (Some k)) key (subst (λ n. BeginsAt (levels debt.level) n (Some debt.separator)) value owed.1);
      }

  module _ (after : Pages) (changed : PlainPage) (kept : Option ℕ) (change : IsChange m page changed kept) (writes : WritesOne tree_state.pages after number changed) where
    -- a leaf gains the operation's entry
    pub leaf_gains : m.job ≡ Leaf → value_at (target m) page.entries ≡ None → changed ≡ with_entries page (entries_with page (entry_of m)) → AreEntries tree_state.fan tree_state.prime after (added (entry_of m) (entries_along (levels 0)))
    leaf_gains leaf absent same =
        let gains : changed.entries ≡ added (entry_of m) page.entries = ap (λ (p : PlainPage). p.entries) same ∙ entries_with-leaf page (entry_of m) (page_level 0 (ap level_of leaf)) in
        let it = laws.leaf_gain_keeps tree_state.fan tree_state.prime tree_state.pages after levels (cell number page) changed (entry_of m) invariant.lawful.tree (read_stands_at 0 (ap level_of leaf)) writes
        (change_replaces laws tree_state levels invariant worker m under owes number page at_work read changed kept change) read.belongs absent gains in
        tree_has_entries tree_state.fan tree_state.prime after it.new it.replaced.tree _ it.entries

    -- or loses its entry
    pub leaf_loses : (key pointer : ℕ) → m.job ≡ Leaf → target m ≡ key → value_at key page.entries ≡ Some pointer → changed ≡ with_entries page (removed key page.entries)
        → AreEntries tree_state.fan tree_state.prime after (removed key (entries_along (levels 0)))
    leaf_loses key pointer leaf own there same =
        let loses : changed.entries ≡ removed key page.entries = ap (λ (p : PlainPage). p.entries) same in
        let it = laws.leaf_loss_keeps tree_state.fan tree_state.prime tree_state.pages after levels (cell number page) changed key pointer invariant.lawful.tree (read_stands_at 0 (ap level_of leaf)) writes
        (change_replaces laws tree_state levels invariant worker m under owes number page at_work read changed kept change) (subst (IsKeyOf page) own read.belongs) there loses in
        tree_has_entries tree_state.fan tree_state.prime after it.new it.replaced.tree _ it.entries

    -- or another value in its entry
    pub leaf_exchanges : (key new pointer : ℕ) → m.job ≡ Leaf → target m ≡ key → value_at key page.entries ≡ Some pointer → changed ≡ with_entries page (replaced (key, new) page.entries)
        → AreEntries tree_state.fan tree_state.prime after (replaced (key, new) (entries_along (levels 0)))
    leaf_exchanges key new pointer leaf own there same =
        let exchanges : changed.entries ≡ replaced (key, new) page.entries = ap (λ (p : PlainPage). p.entries) same in
        let it = laws.leaf_exchange_keeps tree_state.fan tree_state.prime tree_state.pages after levels (cell number page) changed (key, new) pointer invariant.lawful.tree (read_stands_at 0 (ap level_of leaf)) writes
        (change_replaces laws tree_state levels invariant worker m under owes number page at_work read changed kept change) (subst (IsKeyOf page) own read.belongs) there exchanges in
        tree_has_entries tree_state.fan tree_state.prime after it.new it.page_replaced.tree _ it.entries

    -- a posting changes no leaf
    pub posting_leaves_entries : (debt : Debt) → m.job ≡ Parent debt → value_at (target m) page.entries ≡ None → changed ≡ with_entries page (entries_with page (entry_of m))
        → AreEntries tree_state.fan tree_state.prime after (entries_along (levels 0))
    posting_leaves_entries debt job absent same =
        let gains : changed.entries ≡ posted (entry_of m) page.entries = ap (λ (p : PlainPage). p.entries) same ∙ entries_with-inner page (entry_of m) (omega (arith, page_level (debt.level + 1) (ap level_of job))) in
        let it = laws.posting_keeps tree_state.fan tree_state.prime tree_state.pages after levels debt.level (cell number page) changed (entry_of m) invariant.lawful.tree (read_stands_at (debt.level + 1) (ap level_of job)) writes
        (change_replaces laws tree_state levels invariant worker m under owes number page at_work read changed kept change) read.belongs absent gains (posting_leads debt job) in
        tree_has_entries tree_state.fan tree_state.prime after it.new it.replaced.tree _ it.same_entries

module _ (laws : TreeLaws) (tree_state : TreeState) (levels : Levels) (invariant : InvariantWith tree_state levels) (worker : ℕ) (m : PlainMachine) (under : tree_state.machines worker ≡ Some m)
    (owes : debt_of m ≡ debt_of_job m.job) (number : ℕ) (lower : PlainPage) (debt : Debt) (unlinked : unlinked_of m ≡ Some debt.page) (at_work : IsAtWork levels m number)
    (halved : HasHalved tree_state m number lower debt) (after : Pages) (writes : WritesOne tree_state.pages after number lower) where
  -- a split has all that it begins with
  pub to_split : (level : ℕ) → level_of m.job ≡ level → CanBeSplit tree_state.fan tree_state.pages after levels level (cell number halved.page) (entry_of m) debt.page
  to_split level same =
      let fan : m.fan ≡ tree_state.fan = (invariant.placed worker m under).same_fan in
      record {
        fan_in_range = invariant.fan_in_range;
        stands = read_stands_at laws tree_state levels invariant worker m under owes number halved.page at_work halved.read level same;
        full = halved.full.full ∙ fan;
        belongs = halved.read.belongs;
        absent = halved.full.absent;
        value_in_range = (value_fits laws tree_state levels invariant worker m under owes).in_range;
        new_number = halved.new_number;
        not_in_chain = invariant.lawful.new_pages.placed.in_no_chain worker debt.page m under unlinked;
        upper_there = subst (λ f. tree_state.pages debt.page ≡ Some (upper_half f halved.page (overfull m halved.page))) fan halved.upper_there;
        writes = subst (λ f. WritesOne tree_state.pages after number (lower_half f debt.page halved.page (overfull m halved.page))) fan (subst (WritesOne tree_state.pages after number) halved.lower_half_of writes);
      }

  -- the two halves of a leaf have the entry between them
  pub leaf_split_gains : m.job ≡ Leaf → AreEntries tree_state.fan tree_state.prime after (added (entry_of m) (entries_along (levels 0)))
  leaf_split_gains leaf =
      let it = laws.leaf_split_keeps tree_state.fan tree_state.prime tree_state.pages after levels (cell number halved.page) (entry_of m) debt.page invariant.lawful.tree (to_split 0 (ap level_of leaf)) in
      tree_has_entries tree_state.fan tree_state.prime after it.new it.split.tree _ it.entries

  -- the split of an inner page changes no leaf
  pub inner_split_leaves_entries : (posts : Debt) → m.job ≡ Parent posts → AreEntries tree_state.fan tree_state.prime after (entries_along (levels 0))
  inner_split_leaves_entries posts job =
      let leads = posting_leads laws tree_state levels invariant worker m under owes number halved.page at_work halved.read posts job in
      let fits = value_fits laws tree_state levels invariant worker m under owes in
      let level : level_of m.job ≡ posts.level + 1 = ap level_of job in
      let it = laws.inner_split_keeps tree_state.fan tree_state.prime tree_state.pages after levels posts.level (cell number halved.page) (entry_of m) debt.page invariant.lawful.tree (to_split (posts.level + 1) level) leads
      (fits.number_above (omega arith)) in
      tree_has_entries tree_state.fan tree_state.prime after it.new it.split.tree _ it.same_entries
