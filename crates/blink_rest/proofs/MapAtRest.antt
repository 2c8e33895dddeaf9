-- The entries of a tree at rest, as a plain map.
use Rattle.std.proofs.Common.{◌≡◌, ℕ, ◌+◌, ◌<◌, List, [], ◌∷◌, refl, ap, sym, subst, arith}
use Rattle.std.specs.List.{AllByRecursion}
use Rattle.blink_operation.specs.declared.Entry.{Entry}
use Rattle.blink_operation.specs.{IsAscending}
use Rattle.blink_page.specs.{IsRising}
use Rattle.blink_page.specs.declared.limits.TheConstants.{GREATEST_KEY}
use Rattle.blink_store.specs.{PlainStore, page_of}
use Rattle.blink_rest.specs.Entries.{AreEntries}
use Rattle.blink_rest.specs.Rest.{IsStoreAtRest}
use Rattle.blink_rest.specs.TreeMap.{IsMapOf, entries_from, pairs_of}
use Rattle.blink_rest.proofs.EachLaw.{entries_ascend, entries_exist_at_rest}

-- pairs as the entries of a map, and these as pairs again, are the same
pub pairs_of-entries_from : (pairs : List (ℕ × ℕ)) → pairs_of (entries_from pairs) ≡ pairs
pairs_of-entries_from [] = refl
pairs_of-entries_from (pair ∷ pairs) = ap (λ (rest : List (ℕ × ℕ)). pair ∷ rest) (pairs_of-entries_from pairs)

-- a plain map is told by its pairs
pub entries_from-pairs_of : (entries : List Entry) → entries_from (pairs_of entries) ≡ entries
entries_from-pairs_of [] = refl
entries_from-pairs_of (e ∷ entries) = ap (λ (rest : List Entry). e ∷ rest) (entries_from-pairs_of entries)

-- the keys of rising pairs are all above a key that is below them
all_above : (key from : ℕ) (pairs : List (ℕ × ℕ)) (to : ℕ) → key < from → IsRising from pairs to → AllByRecursion (λ (after : Entry). key < after.key) (entries_from pairs)
all_above key from [] to below rising = tt
all_above key from (pair ∷ pairs) to below rising = (omega (arith, rising.0), all_above key (pair.0 + 1) pairs to (omega (arith, rising.0)) rising.1)

-- rising pairs are ascending entries
pub ascending_from : (from : ℕ) (pairs : List (ℕ × ℕ)) (to : ℕ) → IsRising from pairs to → IsAscending (entries_from pairs)
ascending_from from [] to rising = tt
ascending_from from (pair ∷ pairs) to rising = (all_above pair.0 (pair.0 + 1) pairs to (omega arith) rising.1, ascending_from (pair.0 + 1) pairs to rising.1)

-- a tree at rest has a plain map
pub entries_at_start : (start : PlainStore) → IsStoreAtRest start → (entries : List Entry) × IsMapOf start entries
entries_at_start start at_rest =
    let found = entries_exist_at_rest start.fan start.prime (page_of start) at_rest in
    let rising = entries_ascend start.fan start.prime (page_of start) found.0 found.1 in (
      entries_from found.0,
      record {
        ascending = ascending_from 0 found.0 (GREATEST_KEY + 1) rising;
        kept = subst (AreEntries start.fan start.prime (page_of start)) (sym (pairs_of-entries_from found.0)) found.1;
      },
    )
