-- The entries of a tree, as a plain map, and what it takes for a step to decide on them.
use Rattle.std.proofs.Common.{◌≡◌, ℕ, Option, Some, None, List, refl, sym, ap, subst, ◌∙◌}
use Rattle.blink_operation.specs.declared.Entry.{Entry}
use Rattle.blink_operation.specs.declared.Op.{Op}
use Rattle.blink_operation.specs.{key_of, answer_at, map_at, answer_of, map_after, pointer_of}
use Rattle.blink_page.specs.{value_at, IsKeyOf}
use Rattle.blink_rest.specs.{Pages, IsMember, AreEntries, entries_along}
use Rattle.blink_rest.specs.Chain.{Cell}
use Rattle.blink_rest.proofs.Offered.{same_entries}
use Rattle.blink_machine.specs.Machine.{PlainMachine}
use Rattle.blink_machine.specs.TreeState.{TreeState, Leaves}
use Rattle.blink_machine.specs.TreeMap.{HasEntries, pairs_of}
use Rattle.blink_machine.specs.Tree.{IsTree}
use Rattle.blink_machine.specs.TreeWithDebts.{Levels}
use Rattle.blink_machine.proofs.tree.PrimeAsList.{leftmost_of}
use Rattle.blink_machine.proofs.tree.EntriesAsMap.{value_at-pairs_of}
use Rattle.blink_machine.specs.StepLaw.{Decides}
use Rattle.blink_machine.proofs.tree.TreeStatements.{TreeLaws}

module _ (fan : ℕ) (prime : List ℕ) (pages : Pages) (levels : Levels) (tree : IsTree fan prime pages levels) where
  -- the entries of a tree are those along its level 0
  pub are_entries : AreEntries fan prime pages (entries_along (levels 0))
  are_entries =
      let leftmost = leftmost_of prime 0 tree.chains.some_level in
      record { leftmost = leftmost.0; is_first = leftmost.1; leaves = levels 0; chain = tree.chains.named 0 leftmost.0 leftmost.1; joined = refl }

  -- and no others
  pub entries_are : (xs : List (ℕ × ℕ)) → AreEntries fan prime pages xs → xs ≡ entries_along (levels 0)
  entries_are xs are = same_entries fan pages prime xs (entries_along (levels 0)) are are_entries

  -- in whatever words they are given
  pub tree_has_entries : (xs : List (ℕ × ℕ)) → entries_along (levels 0) ≡ xs → AreEntries fan prime pages xs
  tree_has_entries xs same = subst (AreEntries fan prime pages) same are_entries

  -- a key's leaf maps it as the map does
  pub pointer_in_leaf : TreeLaws → (entries : List Entry) (key : ℕ) (c : Cell) → AreEntries fan prime pages (pairs_of entries) → IsMember c (levels 0) → IsKeyOf c.page key
      → pointer_of entries key ≡ value_at key c.page.entries
  pointer_in_leaf laws entries key c are stands belongs =
      sym (value_at-pairs_of key entries) ∙ ap (value_at key) (entries_are (pairs_of entries) are) ∙ laws.level_keeps fan prime pages levels 0 key c tree stands belongs

-- a tree state has the entries of its fan, prime block and pages
pub has_entries_by : (new : TreeState) (fan : ℕ) (prime : List ℕ) (pages : Pages) (entries : List Entry) → new.fan ≡ fan → new.prime ≡ prime → new.pages ≡ pages
    → AreEntries fan prime pages (pairs_of entries) → HasEntries new entries
has_entries_by new fan prime pages entries same_fan same_prime same_pages are =
    subst (λ f. AreEntries f new.prime new.pages (pairs_of entries)) (sym same_fan)
    (subst (λ p. AreEntries fan p new.pages (pairs_of entries)) (sym same_prime)
    (subst (λ (ps : Pages). AreEntries fan prime ps (pairs_of entries)) (sym same_pages) are))

-- where nothing of the tree changes it has the same entries
pub has_entries_left : (old new : TreeState) (entries : List Entry) → Leaves old new → HasEntries old entries → HasEntries new entries
has_entries_left old new entries left kept = has_entries_by new old.fan old.prime old.pages entries left.same_fan left.same_prime left.same_pages kept

module _ (new : TreeState) (m after : PlainMachine) (entries : List Entry) where
  -- an operation decides by what the map maps its key to
  pub decides_by : (op : Op) (kept : Option ℕ) → m.op ≡ op → pointer_of entries (key_of op) ≡ kept → m.answer ≡ None → after.answer ≡ Some (answer_at op kept)
      → HasEntries new (map_at op kept entries) → Decides new m after entries
  decides_by op kept is same unanswered answer keeps =
      Decides.deciding unanswered
      (subst (λ o. after.answer ≡ Some (answer_of entries o)) (sym is) (subst (λ k. after.answer ≡ Some (answer_at op k)) (sym same) answer))
      (subst (λ o. HasEntries new (map_after entries o)) (sym is) (subst (λ k. HasEntries new (map_at op k entries)) (sym same) keeps))

  -- a step with the operation's answer as it was decides nothing
  pub decides_nothing : (other : PlainMachine) → after ≡ other → other.answer ≡ m.answer → HasEntries new entries → Decides new m after entries
  decides_nothing other same answer keeps = Decides.other (ap (λ (x : PlainMachine). x.answer) same ∙ answer) keeps
