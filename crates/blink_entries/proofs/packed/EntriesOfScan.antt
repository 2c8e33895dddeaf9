-- The entries that a scan of a tree at rest has given, and those to come.
use Rattle.std.proofs.Common.{◌≡◌, ℕ, ◌+◌, ◌*◌, ◌<◌, ◌≤◌, List, [], ◌∷◌, ◌++◌, length, refl, sym, ap, subst, ◌∙◌, arith, append-nil, length-append}
use Rattle.std.proofs.Math.Nat.{mul-le-mul}
use Rattle.blink_operation.specs.declared.Entry.{Entry}
use Rattle.blink_page.specs.{IsRising}
use Rattle.blink_page.specs.declared.limits.TheConstants.{GREATEST_KEY, MAX_FAN, MAX_PAGE}
use Rattle.blink_rest.specs.{IsMapOf, IsStoreAtRest, entries_from, pairs_of}
use Rattle.blink_rest.proofs.Offered.{entries_ascend, pairs_of-entries_from}
use Rattle.blink_store.specs.{PlainStore, page_of}
use Rattle.blink_entries.specs.Packed.{NeedsPages}
use Rattle.blink_entries.proofs.packed.NoTreeHasFewer.{few_entries, no_tree_has_fewer}
use Rattle.blink_entries.proofs.packed.SortedEntries.{length-pairs_of, pairs_of-append}

rising_up_to : (from : ℕ) (xs : List (ℕ × ℕ)) (key value : ℕ) (ys : List (ℕ × ℕ)) (to : ℕ) → IsRising from (xs ++ (key, value) ∷ ys) to → IsRising from xs key
rising_up_to from [] key value ys to rising = rising.0
rising_up_to from (x ∷ xs) key value ys to rising = (rising.0, rising_up_to (x.0 + 1) xs key value ys to rising.1)

pub length-entries_from : (pairs : List (ℕ × ℕ)) → length (entries_from pairs) ≡ length pairs
length-entries_from pairs = sym (length-pairs_of (entries_from pairs)) ∙ ap length (pairs_of-entries_from pairs)

module _ (store : PlainStore) (entries : List Entry) (kept : IsMapOf store entries) (pairs : List (ℕ × ℕ)) where
  -- the next entry's key is above those before
  pub next_above : (next : Entry) (rest : List Entry) → entries_from pairs ++ next ∷ rest ≡ entries → IsRising 0 pairs next.key
  next_above next rest parts =
      let whole : pairs_of entries ≡ pairs ++ (next.key, next.pointer) ∷ pairs_of rest
      = ap pairs_of (sym parts) ∙ pairs_of-append (entries_from pairs) (next ∷ rest) ∙ ap (λ (es : List (ℕ × ℕ)). es ++ (next.key, next.pointer) ∷ pairs_of rest) (pairs_of-entries_from pairs) in
      rising_up_to 0 pairs next.key next.pointer (pairs_of rest) (GREATEST_KEY + 1)
      (subst (λ (es : List (ℕ × ℕ)). IsRising 0 es (GREATEST_KEY + 1)) whole (entries_ascend store.fan store.prime (page_of store) (pairs_of entries) kept.kept))

  pub fewer_so_far : (next : Entry) (rest : List Entry) → entries_from pairs ++ next ∷ rest ≡ entries → length pairs < length entries
  fewer_so_far next rest parts =
      let all = ap length (sym parts) ∙ length-append (entries_from pairs) (next ∷ rest) in let long = length-entries_from pairs in omega (arith, all, long)

-- the pages that entries need have numbers where a tree has the entries
pub needs_no_more : (store : PlainStore) (entries : List Entry) (count : ℕ) → IsStoreAtRest store → IsMapOf store entries → NeedsPages store.fan (length entries) count → count ≤ length store.pages
needs_no_more store entries count at_rest kept needs =
    no_tree_has_fewer store (pairs_of entries) count at_rest kept.kept (subst (λ (n : ℕ). NeedsPages store.fan n count) (sym (length-pairs_of entries)) needs)

-- and the entries are not too many to be counted
pub counted : (store : PlainStore) (entries : List Entry) → IsStoreAtRest store → IsMapOf store entries → length store.pages ≤ MAX_PAGE → store.fan ≤ MAX_FAN → length entries ≤ MAX_PAGE * MAX_FAN
counted store entries at_rest kept pages fan =
    let few = few_entries store (pairs_of entries) at_rest kept.kept in
    let times : length store.pages * store.fan ≤ MAX_PAGE * MAX_FAN = mul-le-mul pages fan in
    let same = length-pairs_of entries in
    omega (arith, few, times, same)

-- one entry more
pub parts_more : (pairs : List (ℕ × ℕ)) (next : Entry) (rest entries : List Entry) → entries_from pairs ++ next ∷ rest ≡ entries → entries_from (pairs ++ (next.key, next.pointer) ∷ []) ++ rest ≡ entries
parts_more [] next rest entries parts = parts
parts_more (pair ∷ pairs) next rest [] parts = absurd (let long = ap length parts in omega (arith, long))
parts_more (pair ∷ pairs) next rest (e ∷ entries) parts =
    ap (λ (es : List Entry). record { key = pair.0; pointer = pair.1 } ∷ es) (parts_more pairs next rest (entries_from pairs ++ next ∷ rest) refl) ∙ parts

-- no entry is to come
pub all_given : (pairs : List (ℕ × ℕ)) (scan entries : List Entry) → scan ≡ [] → entries_from pairs ++ scan ≡ entries → entries_from pairs ≡ entries
all_given pairs scan entries none parts = sym (append-nil (entries_from pairs)) ∙ ap (λ (es : List Entry). entries_from pairs ++ es) (sym none) ∙ parts
