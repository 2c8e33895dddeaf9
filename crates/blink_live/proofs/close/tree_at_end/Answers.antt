use Rattle.std.proofs.Common.{◌≡◌, ℕ, List, subst, Result, Ok, Err}
use Rattle.std.specs.Prelude.{IfOk}
use Rattle.std.specs.Mem.Slots.{slots_items}
use Rattle.blink_batch.specs.declared.Entry.{Entry}
use Rattle.blink_rows.specs.{PlainCounts}
use Rattle.blink_machine.specs.{pairs_of, IsMapOf}
use Rattle.blink_store.specs.{PlainStore}
use Rattle.blink_live.specs.Gathered.{HasTheEntries}
use Rattle.blink_live.specs.Merge.{KeepsPrime, KeepsTree}
use Rattle.blink_live.proofs.close.tree_at_end.Goals as goal

-- a store with the entries of the tree in the words has its map
has_map_at_end : (counts : PlainCounts) (words : List ℕ) (fan : ℕ) (prime : List ℕ) (store : PlainStore) → ((leftmost : List ℕ) → KeepsPrime counts words leftmost → prime ≡ leftmost)
    → HasTheEntries counts words fan prime store → (entries : List Entry) → KeepsTree counts words fan entries → IsMapOf store entries
has_map_at_end counts words fan prime store is has entries tree =
    let its : HasTheEntries counts words fan tree.prime store = subst (λ (p : List ℕ). HasTheEntries counts words fan p store) (is tree.prime tree.prime_kept) has in
    record { ascending = tree.ascending; kept = its tree.pages tree.pages_kept tree.at_rest (pairs_of entries) tree.are }

where_ok : {E : Type 0} (result : Result PlainStore E) (P Q : PlainStore → Type 0) → ((store : PlainStore) → P store → Q store) → IfOk result P → IfOk result Q
where_ok (Ok store) P Q f is = f store is
where_ok (Err e) P Q f is = is

pub returns-clause-entries : goal.returns-clause-entries
returns-clause-entries c =
    where_ok c.gather.result _ _ (λ store has. has_map_at_end c.args.counts.now (slots_items c.args.closed.now.words) c.args.fan c.prime_at-prime.result store c.prime_at-prime.ensures has) c.gather.ensures.entries
