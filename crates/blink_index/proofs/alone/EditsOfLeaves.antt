-- What a deletion, a replacement or an insertion in one leaf makes of a tree at rest.
use Rattle.std.proofs.Common.{◌≡◌, ◌<◌, ◌≤◌, ℕ, Option, Some, None, length, inl, refl, sym, ap, subst, ◌∙◌}
use Rattle.std.specs.Prelude.{IfNone}
use Rattle.blink_operation.specs.declared.Answer.TheVariants.{Exists, Inserted}
use Rattle.blink_operation.specs.declared.Op.{Op}
use Rattle.blink_operation.specs.declared.Op.TheVariants.{Delete, Insert, Replace}
use Rattle.blink_operation.specs.{FitsWords, answer_at, key_of, map_at, pointer_of}
use Rattle.blink_page.specs.{IsKeyOf, PlainPage, added, removed, replaced, value_at, with_entries}
use Rattle.blink_page.specs.declared.limits.TheConstants.{GREATEST_KEY}
use Rattle.blink_page.specs.declared.put.Put.{Put}
use Rattle.blink_page.specs.declared.put.Put.TheVariants.{Done, Present, Full}
use Rattle.blink_page.specs.Put.{OnDone, IfPresent, OnFull, UnlessDone, UnlessPresent}
use Rattle.blink_page.proofs.Offered.{entries_with-leaf}
use Rattle.blink_rest.specs.{IsStoreAtRest}
use Rattle.blink_store.specs.{IsLawfulStore, IsLeafOf, PlainStore, WritesPage}
use Rattle.blink_machine.specs.{IsUpdate}
use Rattle.blink_machine.specs.Table.{IsChange}
use Rattle.blink_index.specs.Edit.{IsEdited, SplitsLeaf}
use Rattle.blink_entries.specs.Index.{map_of}
use Rattle.blink_entries.proofs.Offered.{leaf_pointer, the_map_is_kept}
use Rattle.blink_index.proofs.alone.LeafChanges.{about_to_change, leaf_change_answers, leaf_change_maps, leaf_change_rests}

module _ (old new : PlainStore) (lawful : IsLawfulStore old) (at_rest : IsStoreAtRest old) (number key : ℕ) (leaf_of : IsLeafOf old number key) (in_range : key ≤ GREATEST_KEY) where
  abbrev leaf : PlainPage
  leaf = leaf_of.leaf

  -- the plain map has what the leaf has
  pointer : (kept : Option ℕ) → kept ≡ value_at key leaf.entries → kept ≡ pointer_of (map_of old) key
  pointer kept is = is ∙ sym (leaf_pointer old at_rest key in_range leaf (record { number = number; there = leaf_of.there; is_leaf = leaf_of.is_leaf; belongs = leaf_of.belongs }))

  -- where nothing changes
  stays : (op : Op) (kept : Option ℕ) → key_of op ≡ key → kept ≡ value_at key leaf.entries → map_at op kept (map_of old) ≡ map_of old → new ≡ old → IsEdited old new op (answer_at op kept)
  stays op kept of_key is same unchanged =
      let own : kept ≡ pointer_of (map_of old) (key_of op) = pointer kept is ∙ ap (pointer_of (map_of old)) (sym of_key) in
      record {
        rests = subst IsStoreAtRest (sym unchanged) at_rest;
        answers = ap (answer_at op) own;
        maps = ap map_of unchanged ∙ sym same ∙ ap (λ (o : Option ℕ). map_at op o (map_of old)) own;
        kept = the_map_is_kept new (subst IsStoreAtRest (sym unchanged) at_rest);
        same_fan = ap (λ (store : PlainStore). store.fan) unchanged;
      }

  -- where the leaf is written
  changes : (op : Op) (kept : Option ℕ) (changed : PlainPage) → key_of op ≡ key → IsUpdate op → FitsWords op → IsChange (about_to_change old.fan op number changed kept) leaf changed kept
      → WritesPage old new number changed → IsEdited old new op (answer_at op kept)
  changes op kept changed of_key updates words change writes =
      let belongs = subst (λ (k : ℕ). IsKeyOf leaf k) (sym of_key) leaf_of.belongs in
      record {
        rests = leaf_change_rests old lawful at_rest op number leaf changed kept leaf_of.there leaf_of.is_leaf belongs updates words change new writes;
        answers = leaf_change_answers old lawful at_rest op number leaf changed kept leaf_of.there leaf_of.is_leaf belongs updates words change new writes;
        maps = leaf_change_maps old lawful at_rest op number leaf changed kept leaf_of.there leaf_of.is_leaf belongs updates words change new writes;
        kept = the_map_is_kept new (leaf_change_rests old lawful at_rest op number leaf changed kept leaf_of.there leaf_of.is_leaf belongs updates words change new writes);
        same_fan = writes.same_fan;
      }

  pub deletion_edits : FitsWords (Delete key) → (kept : Option ℕ) → kept ≡ value_at key leaf.entries → WritesPage old new number (with_entries leaf (removed key leaf.entries))
      → IfNone kept (new ≡ old) → IsEdited old new (Delete key) (answer_at (Delete key) kept)
  deletion_edits words None is writes unchanged = stays (Delete key) None refl is refl unchanged
  deletion_edits words (Some kept) is writes unchanged =
      changes (Delete key) (Some kept) (with_entries leaf (removed key leaf.entries)) refl tt words (IsChange.loses key kept refl (inl refl) (sym is) refl refl) writes

  pub replacement_edits : (value : ℕ) → FitsWords (Replace key value) → (kept : Option ℕ) → kept ≡ value_at key leaf.entries
      → WritesPage old new number (with_entries leaf (replaced (key, value) leaf.entries)) → IfNone kept (new ≡ old) → IsEdited old new (Replace key value) (answer_at (Replace key value) kept)
  replacement_edits value words None is writes unchanged = stays (Replace key value) None refl is refl unchanged
  replacement_edits value words (Some kept) is writes unchanged =
      changes (Replace key value) (Some kept) (with_entries leaf (replaced (key, value) leaf.entries)) refl tt words (IsChange.swaps key value kept refl (inl refl) (sym is) refl refl) writes

  -- an insertion that finds its key changes nothing
  pub finding_edits : (value kept : ℕ) → value_at key leaf.entries ≡ Some kept → new ≡ old → IsEdited old new (Insert key value) (answer_at (Insert key value) (Some kept))
  finding_edits value kept is unchanged = stays (Insert key value) (Some kept) refl (sym is) refl unchanged

  -- and one that finds room adds its entry
  pub insertion_edits : (value : ℕ) → FitsWords (Insert key value) → value_at key leaf.entries ≡ None → length leaf.entries < old.fan
      → WritesPage old new number (with_entries leaf (added (key, value) leaf.entries)) → IsEdited old new (Insert key value) (answer_at (Insert key value) None)
  insertion_edits value words absent room writes =
      changes (Insert key value) None (with_entries leaf (added (key, value) leaf.entries)) refl tt words
      (IsChange.gains tt absent room refl (ap (with_entries leaf) (sym (entries_with-leaf leaf (key, value) leaf_of.is_leaf)))) writes

  -- whatever a put makes of the leaf
  module _ (value : ℕ) (words : FitsWords (Insert key value)) where
    pub put_rests : (result : Put) → UnlessPresent result (value_at key leaf.entries ≡ None) → OnDone result (length leaf.entries < old.fan)
        → OnDone result (WritesPage old new number (with_entries leaf (added (key, value) leaf.entries))) → UnlessDone result (new ≡ old) → IsStoreAtRest new
    put_rests Done absent room writes unchanged = (insertion_edits value words absent room writes).rests
    put_rests (Present kept) absent room writes unchanged = subst IsStoreAtRest (sym unchanged) at_rest
    put_rests Full absent room writes unchanged = subst IsStoreAtRest (sym unchanged) at_rest

    pub put_adds : (result : Put) → UnlessPresent result (value_at key leaf.entries ≡ None) → OnDone result (length leaf.entries < old.fan)
        → OnDone result (WritesPage old new number (with_entries leaf (added (key, value) leaf.entries))) → OnDone result (IsEdited old new (Insert key value) Inserted)
    put_adds Done absent room writes = insertion_edits value words absent room writes
    put_adds (Present kept) absent room writes = tt
    put_adds Full absent room writes = tt

    pub put_finds : (result : Put) → IfPresent result (λ kept. value_at key leaf.entries ≡ Some kept) → UnlessDone result (new ≡ old)
        → IfPresent result (λ kept. IsEdited old new (Insert key value) (Exists kept))
    put_finds Done found unchanged = tt
    put_finds (Present kept) found unchanged = finding_edits value kept found unchanged
    put_finds Full found unchanged = tt

    pub put_splits : (result : Put) → UnlessPresent result (value_at key leaf.entries ≡ None) → OnFull result (length leaf.entries ≡ old.fan) → OnFull result (SplitsLeaf old key)
    put_splits Done absent full = tt
    put_splits (Present kept) absent full = tt
    put_splits Full absent full = record { number = number; leaf_of = leaf_of; absent = absent; full = full }

-- a key whose leaf would be split is absent
pub absent_if_split : (store : PlainStore) (key : ℕ) → IsStoreAtRest store → key ≤ GREATEST_KEY → SplitsLeaf store key → pointer_of (map_of store) key ≡ None
absent_if_split store key at_rest in_range splits =
    leaf_pointer store at_rest key in_range splits.leaf_of.leaf
    (record { number = splits.number; there = splits.leaf_of.there; is_leaf = splits.leaf_of.is_leaf; belongs = splits.leaf_of.belongs }) ∙ splits.absent
