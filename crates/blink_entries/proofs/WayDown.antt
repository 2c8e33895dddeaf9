-- The way down to a key's leaf: each page on it is one that the key belongs to, and each child is lower.
use Rattle.std.proofs.Common.{◌≡◌, ℕ, ◌<◌, ◌≤◌, Option, Some, None, List, ap, ◌∙◌, subst, arith}
use Rattle.std.specs.Prelude.{slice_get, length, ◌-◌}
use Rattle.blink_page.specs.{child_for, value_at, PlainPage, IsKeyOf}
use Rattle.blink_page.specs.declared.limits.TheConstants.{GREATEST_KEY}
use Rattle.blink_store.specs.{PlainStore, page_of, HasPage}
use Rattle.blink_store.proofs.Offered.{has_page}
use Rattle.blink_rest.specs.{AreEntries, Reaches, IsRoot, at_root, down, IsStoreAtRest}
use Rattle.blink_rest.proofs.Offered.{child_lower, entries_exist_at_rest, reached_for, root_at_end, search_ends_at_leaf}
use Rattle.blink_operation.specs.declared.Entry.{Entry}
use Rattle.blink_operation.specs.{pointer_of}
use Rattle.blink_entries.specs.Index.{map_of}
use Rattle.blink_entries.specs.Leaf.{IsLeafFor}
use Rattle.blink_entries.proofs.MapOfStore.{map_of-entries, pointer_of-entries_from}

-- the level of a page, or of no page
abbrev pub level_at : Option PlainPage → ℕ
level_at None = 0
level_at (Some page) = page.level

-- a search for the key from the root comes to this number
pub record IsOnTheWay (store : PlainStore) (key number : ℕ) : Type 0 where
  pub root : ℕ
  pub is_root : IsRoot store.prime root
  pub reaches : Reaches (page_of store) root key number

module _ (store : PlainStore) (at_rest : IsStoreAtRest store) (key : ℕ) (in_range : key ≤ GREATEST_KEY) where
  -- the way begins at the last page of the prime block
  pub begins_at_root : (root : ℕ) → slice_get store.prime (length store.prime - 1) ≡ Some root → IsOnTheWay store key root
  begins_at_root root last = record { root = root; is_root = root_at_end store.prime root last; reaches = at_root }

  module _ (number : ℕ) (on_the_way : IsOnTheWay store key number) where
    -- there is a page of each number on the way
    pub page_on_the_way : HasPage store number
    page_on_the_way =
        let it = reached_for store.fan (page_of store) key in_range store.prime at_rest.0 on_the_way.root at_rest.1 on_the_way.is_root number on_the_way.reaches in
        has_page store number it.0 it.1

    module _ (page : PlainPage) (there : page_of store number ≡ Some page) where
      -- the key belongs to it
      pub key_on_the_way : IsKeyOf page key
      key_on_the_way =
          let it = reached_for store.fan (page_of store) key in_range store.prime at_rest.0 on_the_way.root at_rest.1 on_the_way.is_root number on_the_way.reaches in
          let same : it.0 ≡ page = cc (it.1, there) in
          let P : PlainPage → Type 0 = λ q. IsKeyOf q key in
          subst P same it.2

      -- so no search at rest moves right
      pub never_right : page.high < key → ⊥
      never_right beyond = let it = key_on_the_way in omega (arith, it.1)

      -- its child for the key is on the way
      pub goes_down : (child : ℕ) → 0 < page.level → key ≤ page.high → child_for key page.entries ≡ Some child → IsOnTheWay store key child
      goes_down child inner below is_child = record {
        root = on_the_way.root;
        is_root = on_the_way.is_root;
        reaches = down number child page on_the_way.reaches there inner below is_child;
      }

      -- and at a lower level
      pub falls : (child : ℕ) → 0 < page.level → child_for key page.entries ≡ Some child → level_at (page_of store child) < level_at (page_of store number)
      falls child inner is_child =
          let it = child_lower store.fan (page_of store) key in_range store.prime at_rest.0 on_the_way.root at_rest.1 on_the_way.is_root number child page there key_on_the_way inner is_child in
          omega (arith, it.3, ap level_at it.1, ap level_at there)

      -- the leaf on the way is the key's
      pub leaf_on_the_way : page.level ≡ 0 → IsLeafFor store key page
      leaf_on_the_way is_leaf = record { number = number; there = there; is_leaf = is_leaf; belongs = key_on_the_way }

  -- the tree maps a key to what the key's leaf maps it to
  pub leaf_value : (leaf : PlainPage) (entries : List (ℕ × ℕ)) → IsLeafFor store key leaf → AreEntries store.fan store.prime (page_of store) entries
      → value_at key entries ≡ value_at key leaf.entries
  leaf_value leaf entries is_for are =
      let ends = search_ends_at_leaf store.fan store.prime (page_of store) entries key at_rest are in_range in
      let same_number = ends.no_other_belongs is_for.number leaf is_for.there is_for.is_leaf is_for.belongs in
      let known = ends.is_leaf_of.there in
      let same : ends.leaf ≡ leaf = cc (known, is_for.there, ap (page_of store) same_number) in
      ends.is_leaf_of.same_value ∙ ap (λ (p : PlainPage). value_at key p.entries) same

  -- and so does its plain map
  pub leaf_pointer : (leaf : PlainPage) → IsLeafFor store key leaf → pointer_of (map_of store) key ≡ value_at key leaf.entries
  leaf_pointer leaf is_for =
      let found = entries_exist_at_rest store.fan store.prime (page_of store) at_rest in
      ap (λ (entries : List Entry). pointer_of entries key) (map_of-entries store found.0 found.1)
      ∙ pointer_of-entries_from key found.0 ∙ leaf_value leaf found.0 is_for found.1
