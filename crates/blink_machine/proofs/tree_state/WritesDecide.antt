-- What an operation decides by writing a page in its place.
use Rattle.std.proofs.Common.{◌≡◌, ℕ, Option, Some, None, List, refl, sym, ap, subst, ◌∙◌}
use Rattle.blink_operation.specs.declared.Entry.{Entry}
use Rattle.blink_operation.specs.declared.Op.{Op}
use Rattle.blink_operation.specs.declared.Op.TheVariants.{Insert}
use Rattle.blink_operation.specs.{key_of, pointer_with, answer_at, map_at, entry, pointer_of, IsAscending}
use Rattle.blink_operation.specs.PlainMap as map
use Rattle.blink_page.specs.{value_at, added, removed, replaced, PlainPage, IsKeyOf}
use Rattle.blink_rest.specs.{AreEntries, entries_along}
use Rattle.blink_rest.specs.Chain.{cell}
use Rattle.blink_machine.specs.declared.machine.Debt.{Debt}
use Rattle.blink_machine.specs.declared.machine.Job.{Job}
use Rattle.blink_machine.specs.declared.machine.Job.TheVariants.{Leaf, Parent}
use Rattle.blink_machine.specs.declared.machine.State.{State}
use Rattle.blink_machine.specs.Machine.{PlainMachine, target, key_of_job, value_of_job, level_of, entry_of}
use Rattle.blink_machine.specs.TreeState.{TreeState, WritesOne}
use Rattle.blink_machine.specs.Owned.{debt_of, debt_of_job, unlinked_of}
use Rattle.blink_machine.specs.Placed.{IsAtWork, HasRead, HasHalved, AnsweredInJob}
use Rattle.blink_machine.specs.Invariant.{InvariantWith}
use Rattle.blink_machine.specs.TreeMap.{HasEntries, pairs_of}
use Rattle.blink_machine.specs.Table.{Brings, IsChange, decided_with}
use Rattle.blink_machine.specs.TreeWithDebts.{Levels}
use Rattle.blink_machine.proofs.tree.EntriesAsMap.{added-pairs_of, removed-pairs_of, replaced-pairs_of}
use Rattle.blink_machine.proofs.tree_state.EntriesOfATree.{entries_are, pointer_in_leaf, has_entries_by, decides_by, decides_nothing}
use Rattle.blink_machine.proofs.tree_state.ReadsDecide.{unanswered_on_leaf}
use Rattle.blink_machine.specs.StepLaw.{Decides}
use Rattle.blink_machine.proofs.tree.TreeStatements.{TreeLaws}
use Rattle.blink_machine.proofs.tree_state.WritesChangeEntries.{read_stands_at, leaf_gains, leaf_loses, leaf_exchanges, posting_leaves_entries, leaf_split_gains, inner_split_leaves_entries}
use Rattle.blink_machine.proofs.operation.PointersReplaced.{swaps-key, map_at-swaps}
use Rattle.blink_machine.proofs.operation.EntriesRemoved.{removes-key, map_at-removes}
use Rattle.blink_machine.proofs.operation.WhatJobsAreAbout.{target-leaf}

-- what an insertion brings to a leaf
entry_on_leaf : (m : PlainMachine) (key pointer : ℕ) → m.job ≡ Leaf → m.op ≡ Insert key pointer → ◌≡◌ {A = ℕ × ℕ} (entry_of m) (key, pointer)
entry_on_leaf m key pointer leaf is =
    ap (λ (job : Job). (key_of_job m.op job, value_of_job m.op job)) leaf ∙ ap (λ (op : Op). (key_of op, pointer_with op)) is

module _ (laws : TreeLaws) (old new : TreeState) (levels : Levels) (invariant : InvariantWith old levels) (worker : ℕ) (m after : PlainMachine) (entries : List Entry)
    (under : old.machines worker ≡ Some m) (kept : HasEntries old entries) (same_fan : new.fan ≡ old.fan) (same_prime : new.prime ≡ old.prime)
    (owes : debt_of m ≡ debt_of_job m.job) (number : ℕ) (page : PlainPage) (at_work : IsAtWork levels m number) (read : HasRead old m number page) where
  -- the map's entries are those along level 0
  joined : pairs_of entries ≡ entries_along (levels 0)
  joined = entries_are old.fan old.prime old.pages levels invariant.lawful.tree (pairs_of entries) kept

  -- the entries of the new pages
  has_entries_new : (xs : List (ℕ × ℕ)) (others : List Entry) → AreEntries old.fan old.prime new.pages xs → xs ≡ pairs_of others → HasEntries new others
  has_entries_new xs others are same = has_entries_by new old.fan old.prime new.pages others same_fan same_prime refl (subst (AreEntries old.fan old.prime new.pages) same are)

  -- where no leaf changes they are those of the old ones
  pub has_entries_old : AreEntries old.fan old.prime new.pages (entries_along (levels 0)) → HasEntries new entries
  has_entries_old are = has_entries_new (entries_along (levels 0)) entries are (sym joined)

  -- the map maps the operation's key as the leaf that it has read does
  pointer_read : (op : Op) → m.job ≡ Leaf → m.op ≡ op → pointer_of entries (key_of op) ≡ value_at (key_of op) page.entries
  pointer_read op leaf is =
      pointer_in_leaf old.fan old.prime old.pages levels invariant.lawful.tree laws entries (key_of op) (cell number page) kept
      (read_stands_at laws old levels invariant worker m under owes number page at_work read 0 (ap level_of leaf))
      (subst (IsKeyOf page) (target-leaf m op leaf is) read.belongs)

  -- an insertion adds its entry
  pub gain_decides : (op : Op) → m.op ≡ op → m.job ≡ Leaf → AnsweredInJob m.job m.answer → Brings op Leaf → value_at (target m) page.entries ≡ None
      → AreEntries old.fan old.prime new.pages (added (entry_of m) (entries_along (levels 0))) → after.answer ≡ Some (answer_at op None) → Decides new m after entries
  gain_decides (Insert key pointer) is leaf answered brings absent are answer =
      let none : pointer_of entries key ≡ None =
      pointer_read (Insert key pointer) leaf is ∙ ap (λ k. value_at k page.entries) (sym (target-leaf m (Insert key pointer) leaf is)) ∙ absent in
      decides_by new m after entries (Insert key pointer) None is none (unanswered_on_leaf m leaf answered) answer
      (has_entries_new _ (map.added entries (entry key pointer)) are
      (ap (λ (e : ℕ × ℕ). added e (entries_along (levels 0))) (entry_on_leaf m key pointer leaf is) ∙ ap (added (key, pointer)) (sym joined) ∙ added-pairs_of key pointer entries none))
  gain_decides other is leaf answered brings absent are answer = absurd brings

  -- an operation that finds its key there makes of the entries what it makes of the map
  found_decides : (op : Op) (pointer : ℕ) → m.op ≡ op → m.job ≡ Leaf → AnsweredInJob m.job m.answer → value_at (key_of op) page.entries ≡ Some pointer
      → (xs : List (ℕ × ℕ)) → AreEntries old.fan old.prime new.pages xs → xs ≡ pairs_of (map_at op (Some pointer) entries) → after.answer ≡ Some (answer_at op (Some pointer)) → Decides new m after entries
  found_decides op pointer is leaf answered there xs are made answer =
      decides_by new m after entries op (Some pointer) is (pointer_read op leaf is ∙ there) (unanswered_on_leaf m leaf answered) answer
      (has_entries_new xs (map_at op (Some pointer) entries) are made)

  -- a leaf operation has its answer after its write
  pub answer_on_leaf : (op : Op) (state : State) (found outcome : Option ℕ) → m.op ≡ op → m.job ≡ Leaf → found ≡ outcome → after ≡ decided_with m m.job state found → after.answer ≡ Some (answer_at op outcome)
  answer_on_leaf op state found outcome is leaf finds same =
      ap (λ (x : PlainMachine). x.answer) same ∙ ap (λ job. (decided_with m job state found).answer) leaf ∙ ap (λ o. Some (answer_at o found)) is ∙ ap (λ f. Some (answer_at op f)) finds

  -- a posting has the one that it had
  pub answer_above : (debt : Debt) (state : State) (found : Option ℕ) → m.job ≡ Parent debt → (decided_with m m.job state found).answer ≡ m.answer
  answer_above debt state found job = ap (λ j. (decided_with m j state found).answer) job

  module _ (ascending : IsAscending entries) (changed : PlainPage) (found : Option ℕ) (answered : AnsweredInJob m.job m.answer) (change : IsChange m page changed found)
      (writes : WritesOne old.pages new.pages number changed) (state : State) (same : after ≡ decided_with m m.job state found) where
    -- a change decides for a leaf operation alone
    changes_decide : (job : Job) → m.job ≡ job → IsChange m page changed found → Decides new m after entries
    changes_decide Leaf leaf (IsChange.gains brings absent room nothing eq) =
        gain_decides m.op refl leaf answered (subst (Brings m.op) leaf brings) absent
        (leaf_gains laws old levels invariant worker m under owes number page at_work read new.pages changed found change writes leaf absent eq)
        (answer_on_leaf m.op state found None refl leaf nothing same)
    changes_decide Leaf leaf (IsChange.loses key pointer leaf_too op there some eq) =
        let own : key_of m.op ≡ key = removes-key m.op key pointer op in
        found_decides m.op pointer refl leaf answered (ap (λ k. value_at k page.entries) own ∙ there) _
        (leaf_loses laws old levels invariant worker m under owes number page at_work read new.pages changed found change writes key pointer leaf (target-leaf m m.op leaf refl ∙ own) there eq)
        (ap (removed key) (sym joined) ∙ removed-pairs_of key entries ascending ∙ ap pairs_of (sym (map_at-removes m.op key pointer entries op)))
        (answer_on_leaf m.op state found (Some pointer) refl leaf some same)
    changes_decide Leaf leaf (IsChange.swaps key to pointer leaf_too op there some eq) =
        let own : key_of m.op ≡ key = swaps-key m.op key to pointer op in
        found_decides m.op pointer refl leaf answered (ap (λ k. value_at k page.entries) own ∙ there) _
        (leaf_exchanges laws old levels invariant worker m under owes number page at_work read new.pages changed found change writes key to pointer leaf (target-leaf m m.op leaf refl ∙ own) there eq)
        (ap (replaced (key, to)) (sym joined) ∙ replaced-pairs_of key to entries ∙ ap pairs_of (sym (map_at-swaps m.op key to pointer entries op)))
        (answer_on_leaf m.op state found (Some pointer) refl leaf some same)
    changes_decide (Parent debt) job (IsChange.gains brings absent room nothing eq) =
        decides_nothing new m after entries _ same (answer_above debt state found job)
        (has_entries_old (posting_leaves_entries laws old levels invariant worker m under owes number page at_work read new.pages changed found change writes debt job absent eq))
    changes_decide (Parent debt) job (IsChange.loses key pointer leaf op there some eq) = absurd (cc (job, leaf))
    changes_decide (Parent debt) job (IsChange.swaps key to pointer leaf op there some eq) = absurd (cc (job, leaf))

    -- whatever its job
    pub change_decides : Decides new m after entries
    change_decides = changes_decide m.job refl change

module _ (laws : TreeLaws) (old new : TreeState) (levels : Levels) (invariant : InvariantWith old levels) (worker : ℕ) (m after : PlainMachine) (entries : List Entry)
    (under : old.machines worker ≡ Some m) (kept : HasEntries old entries) (same_fan : new.fan ≡ old.fan) (same_prime : new.prime ≡ old.prime)
    (owes : debt_of m ≡ debt_of_job m.job) (number : ℕ) (lower : PlainPage) (debt : Debt) (unlinked : unlinked_of m ≡ Some debt.page) (at_work : IsAtWork levels m number)
    (answered : AnsweredInJob m.job m.answer) (halved : HasHalved old m number lower debt) (writes : WritesOne old.pages new.pages number lower) (state : State) (same : after ≡ decided_with m m.job state None) where
  -- and so does a split
  split_decides_at : (job : Job) → m.job ≡ job → Decides new m after entries
  split_decides_at Leaf leaf =
      gain_decides laws old new levels invariant worker m after entries under kept same_fan same_prime owes number halved.page at_work halved.read m.op refl leaf answered
      (subst (Brings m.op) leaf halved.full.brings) halved.full.absent
      (leaf_split_gains laws old levels invariant worker m under owes number lower debt unlinked at_work halved new.pages writes leaf)
      (answer_on_leaf laws old new levels invariant worker m after entries under kept same_fan same_prime owes number halved.page at_work halved.read m.op state None None refl leaf refl same)
  split_decides_at (Parent posts) job =
      decides_nothing new m after entries _ same
      (answer_above laws old new levels invariant worker m after entries under kept same_fan same_prime owes number halved.page at_work halved.read posts state None job)
      (has_entries_old laws old new levels invariant worker m after entries under kept same_fan same_prime owes number halved.page at_work halved.read
      (inner_split_leaves_entries laws old levels invariant worker m under owes number lower debt unlinked at_work halved new.pages writes posts job))

  -- likewise
  pub split_decides : Decides new m after entries
  split_decides = split_decides_at m.job refl
